-- What credentials of SCRAM-SHA-256 say, they say in one way.
use Rattle.std.proofs.Common.{◌≡◌, ℕ, ◌<◌, ◌^◌, Bool, true, false, codes, List, ◌++◌, Option, Some, None, decimal, refl, sym, ap, ◌∙◌, subst, append_assoc, arith}
use Rattle.std.specs.Prelude.{nat_eq}
use Rattle.std.specs.List.{starts_with}
use Rattle.std.proofs.lemmas.Fmt.{decimal_injective}
use Rattle.std.specs.Option.{option_and_then}
use Rattle.auth_grammar.specs.Names.{value_of}
use Rattle.auth_grammar.specs.declared.items.Param.{Param}
use Rattle.nonce_shard.proofs.OneName.{names_one}
use Rattle.nonce_shard.specs.declared.names.TableName.{TableName}
use Rattle.scram_text.proofs.ReauthLaws.{decimal_digits, one_cut, same_ends}
use Rattle.scram_text.specs.Bytes.{base64_bytes}
use Rattle.scram_text.specs.ClientFinals.{ClientFinalParts}
use Rattle.scram_text.specs.Reauths.{IsReauth}
use Rattle.auth_decide.specs.Messages.{DataSays, FinalSays, FirstSays, IsFinal, MissesSid, Names, SaysAgain, SaysMessage, TextSays, final_parts, first_message}
use Rattle.auth_decide.specs.declared.scram_message.Again.{Again}
use Rattle.auth_decide.specs.declared.scram_message.FinalMessage.{FinalMessage}
use Rattle.auth_decide.specs.declared.scram_message.ScramMessage.{ScramMessage}
use Rattle.auth_decide.specs.declared.scram_message.ScramMessage.TheVariants.{Absent, Malformed, WithoutSid, First, Final}

pub one_named : (text : List ℕ) (a b : Option TableName) → Names text a → Names text b → a ≡ b
one_named text None None one two = refl
one_named text None (Some n) one two = absurd (one n two.1 two.0)
one_named text (Some m) None one two = absurd (two m one.1 one.0)
one_named text (Some m) (Some n) one two = ap Some (names_one m n one.1 two.1 (sym one.0 ∙ two.0))

-- a nonce has one count and one `sr`
pub one_again : (text client other : List ℕ) (m n : ℕ) (sr end : List ℕ) → IsReauth text client m sr → IsReauth text other n end → (m ≡ n) × (sr ≡ end)
one_again text client other m n sr end x y =
    let whole : (client ++ decimal m) ++ sr ≡ (other ++ decimal n) ++ end =
    append_assoc client (decimal m) sr ∙ sym x.cut ∙ y.cut ∙ sym (append_assoc other (decimal n) end) in
    let ends = same_ends (client ++ decimal m) sr (other ++ decimal n) end whole (x.long ∙ sym y.long) in
    let cut = one_cut client (decimal m) other (decimal n) ends.0 (decimal_digits m x.fits) (decimal_digits n y.fits) x.plain y.plain in
    (decimal_injective m n (wide m x.fits) (wide n y.fits) cut.1, ends.1)
  where
    wide : (k : ℕ) → k < 2 ^ 32 → k < 2 ^ 64
    wide k fits = omega arith

same_again : (text : List ℕ) (a b : Option Again) → SaysAgain text a → SaysAgain text b → a ≡ b
same_again text None None one two = refl
same_again text None (Some g) one two = absurd (one two.0 g.count two.1 two.2)
same_again text (Some g) None one two = absurd (two one.0 g.count one.1 one.2)
same_again text (Some g) (Some h) one two =
    let same = one_again text one.0 two.0 g.count h.count one.1 two.1 one.2 two.2 in
    ap Some (made g.count h.count g.sr h.sr same.0 (one_named two.1 g.sr h.sr (subst (λ (t : List ℕ). Names t g.sr) same.1 one.3) two.3))
  where
    made : (c d : ℕ) (s t : Option TableName) → c ≡ d → s ≡ t → let x : Again = record { count = c; sr = s } in let y : Again = record { count = d; sr = t } in x ≡ y
    made c d s t p q = cc

message_of : ClientFinalParts → FinalMessage
message_of p = record { flag = p.flag; nonce = p.nonce; without = p.without; proof = p.proof }

same_final : (sid text : List ℕ) (a b : Option TableName) (m n : FinalMessage) (g h : Option Again) → IsFinal sid text a m g → IsFinal sid text b n h → Final a m g ≡ Final b n h
unfolding message_of
same_final sid text a b m n g h x y =
    let message : m ≡ n = ap message_of (y.only (final_parts m) x.spells) in
    let again : g ≡ h = same_again n.nonce g h (subst (λ (l : FinalMessage). SaysAgain l.nonce g) message x.reuse) y.reuse in
    ap (λ (o : Option TableName). Final o m g) (one_named sid a b x.names y.names) ∙ ap (λ (l : FinalMessage). Final b l g) message ∙ ap (λ (o : Option Again). Final b n o) again

one_final : (sid text : List ℕ) (a b : ScramMessage) → FinalSays sid text a → FinalSays sid text b → a ≡ b
one_final sid text (Final a m g) (Final b n h) one two = same_final sid text a b m n g h one two
one_final sid text (Final a m g) Malformed one two = absurd (two (final_parts m) one.spells)
one_final sid text Malformed (Final b n h) one two = absurd (one (final_parts n) two.spells)
one_final sid text Malformed Malformed one two = refl
one_final sid text (Final a m g) Absent one two = absurd two
one_final sid text (Final a m g) WithoutSid one two = absurd two
one_final sid text (Final a m g) (First f) one two = absurd two
one_final sid text Malformed Absent one two = absurd two
one_final sid text Malformed WithoutSid one two = absurd two
one_final sid text Malformed (First f) one two = absurd two
one_final sid text Absent b one two = absurd one
one_final sid text WithoutSid b one two = absurd one
one_final sid text (First f) b one two = absurd one

one_first : (realm : Option (List ℕ)) (text : List ℕ) (a b : ScramMessage) → FirstSays realm text a → FirstSays realm text b → a ≡ b
one_first realm text (First m) (First n) one two = ap First (one.is ∙ ap (first_message realm) (two.only one.parts one.spells) ∙ sym two.is)
one_first realm text (First m) Malformed one two = absurd (two one.parts one.spells one.short)
one_first realm text Malformed (First n) one two = absurd (one two.parts two.spells two.short)
one_first realm text Malformed Malformed one two = refl
one_first realm text (First m) Absent one two = absurd two
one_first realm text (First m) WithoutSid one two = absurd two
one_first realm text (First m) (Final b n h) one two = absurd two
one_first realm text Malformed Absent one two = absurd two
one_first realm text Malformed WithoutSid one two = absurd two
one_first realm text Malformed (Final b n h) one two = absurd two
one_first realm text Absent b one two = absurd one
one_first realm text WithoutSid b one two = absurd one
one_first realm text (Final a m g) b one two = absurd one

one_text : (sid realm : Option (List ℕ)) (text : List ℕ) (a b : ScramMessage) → TextSays sid realm text a → TextSays sid realm text b → a ≡ b
one_text (Some sid) realm text a b one two = one_final sid text a b one two
one_text None realm text a b one two = by (starts_with nat_eq text (codes "c=")) one two
  where
    by : (misses : Bool) → MissesSid misses realm text a → MissesSid misses realm text b → a ≡ b
    by true x y = x ∙ sym y
    by false x y = one_first realm text a b x y

one_data : (sid realm d : Option (List ℕ)) (a b : ScramMessage) → DataSays sid realm d a → DataSays sid realm d b → a ≡ b
one_data sid realm None a b one two = one ∙ sym two
one_data sid realm (Some text) a b one two = one_text sid realm text a b one two

pub one_message : (o : Option (List Param)) (a b : ScramMessage) → SaysMessage o a → SaysMessage o b → a ≡ b
one_message None a b one two = one ∙ sym two
one_message (Some params) a b one two =
    one_data (value_of (codes "sid") params) (value_of (codes "realm") params) (option_and_then base64_bytes (value_of (codes "data") params)) a b one two
