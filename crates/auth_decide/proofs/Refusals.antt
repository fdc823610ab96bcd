-- What is refused is no message.
use Rattle.std.proofs.Common.{◌≡◌, ◌≢◌, ◌+◌, ℕ, List, ◌∷◌, length, refl, sym, ap, ◌∙◌, arith}
use Rattle.scram_text.proofs.ClientFirstUnique.{spelled_once}
use Rattle.scram_text.specs.ClientFinalAnswers.{RefusesClientFinal}
use Rattle.scram_text.specs.ClientFinals.{client_final_text}
use Rattle.scram_text.specs.ClientFirstAnswers.{RefusesClientFirst}
use Rattle.scram_text.specs.ClientFirsts.{FirstParts}
use Rattle.scram_text.specs.Flags.{flag_letter}
use Rattle.scram_text.specs.declared.error.ScramError.{ScramError}
use Rattle.scram_text.specs.declared.error.ScramError.TheVariants.{TooLong, ChannelBinding, Authzid, Extension, NotMessage, OutOfMemory}
use Rattle.scram_text.specs.declared.error.ScramField.TheVariants.{Bare, First, Name, Nonce}
use Rattle.scram_text.specs.declared.flag.Flag.{Flag}
use Rattle.scram_text.specs.declared.flag.Flag.TheVariants.{N, Y}
use Rattle.auth_decide.specs.Messages.{IsNoFinal, IsNoFirst}

tail_of : {x y : ℕ} {s t : List ℕ} → x ∷ s ≡ y ∷ t → s ≡ t
tail_of same = cc

head_of : {x y : ℕ} {s t : List ℕ} → x ∷ s ≡ y ∷ t → x ≡ y
head_of same = cc

flag_no_p : (flag : Flag) → flag_letter flag ≢ 112
flag_no_p N e = omega (arith, e)
flag_no_p Y e = omega (arith, e)

pub refused_first : (text : List ℕ) (e : ScramError) → RefusesClientFirst text e → e ≢ OutOfMemory → IsNoFirst text
refused_first text (TooLong Bare limit) refuses fault parts spells short =
    let size : length text ≡ length parts.bare + 3 = ap (λ (l : List ℕ). length l) spells.cut ∙ omega arith in
    let long = refuses.1 in
    let fits = short.bare in
    omega (arith, size, long, fits)
refused_first text (TooLong First limit) refuses fault parts spells short = absurd refuses
refused_first text (TooLong Name limit) refuses fault parts spells short =
    let one = spelled_once text refuses.2.0 parts refuses.2.1 spells in
    let size : length refuses.2.0.name ≡ length parts.name = ap (λ (p : FirstParts). length p.name) one in
    let long = refuses.2.2 in
    let fits = short.name in
    omega (arith, size, long, fits)
refused_first text (TooLong Nonce limit) refuses fault parts spells short =
    let one = spelled_once text refuses.2.0 parts refuses.2.1 spells in
    let size : length refuses.2.0.nonce ≡ length parts.nonce = ap (λ (p : FirstParts). length p.nonce) one in
    let long = refuses.2.3 in
    let fits = short.nonce in
    omega (arith, size, long, fits)
refused_first text ChannelBinding refuses fault parts spells short = flag_no_p parts.flag (head_of (sym spells.cut ∙ refuses.1.cut))
refused_first text Authzid refuses fault parts spells short =
    let wrong : ◌≡◌ {A = ℕ} 44 97 = head_of (tail_of (tail_of (sym spells.cut ∙ refuses.1.cut))) in
    omega (arith, wrong)
refused_first text Extension refuses fault parts spells short =
    let wrong : ◌≡◌ {A = ℕ} 110 109 = head_of (sym spells.is_bare.cut ∙ tail_of (tail_of (tail_of (sym spells.cut ∙ refuses.1.cut)))) in
    omega (arith, wrong)
refused_first text (NotMessage at) refuses fault parts spells short = refuses.2.none parts spells
refused_first text OutOfMemory refuses fault parts spells short = fault refl

pub refused_final : (text : List ℕ) (e : ScramError) → RefusesClientFinal text e → e ≢ OutOfMemory → IsNoFinal text
refused_final text (TooLong field limit) refuses fault parts spells = absurd refuses
refused_final text ChannelBinding refuses fault parts spells = absurd refuses
refused_final text Authzid refuses fault parts spells = absurd refuses
refused_final text Extension refuses fault parts spells =
    let whole = sym refuses.cut ∙ spells.cut ∙ ap (λ (l : List ℕ). client_final_text l parts.proof) spells.is_without.cut in
    let wrong : ◌≡◌ {A = ℕ} 109 99 = head_of whole in
    omega (arith, wrong)
refused_final text (NotMessage at) refuses fault parts spells = refuses.1.none parts spells
refused_final text OutOfMemory refuses fault parts spells = fault refl
