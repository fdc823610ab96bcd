use Rattle.std.proofs.Common.{◌≡◌, ℕ, [], ◌∷◌, sym, ◌∙◌, subst, true, false}
use Rattle.scram_text.specs.Flags.{is_flag}
use Rattle.scram_text.proofs.ClientFirstLaws.{flag_letters, stops_at_flag, stops_behind_comma, stops_behind_flag}
use Rattle.scram_text.proofs.client_first_parts.flagged.Goals as goal

pub returns-in_default-clause-err : goal.returns-in_default-clause-err
returns-in_default-clause-err c = stops_at_flag c.args.text.now (λ b left is. let e : [] ≡ b ∷ left = sym c.in_default.ensures.none ∙ is in cc)

pub returns-in_default-flag_of-clause-err : goal.returns-in_default-flag_of-clause-err
returns-in_default-flag_of-clause-err c = stops_at_flag c.args.text.now
    (λ b left is.
    let e : c.in-Some.letter ∷ c.in-Some.rest.now ≡ b ∷ left = sym c.in-Some.ensures.some ∙ is in
    let same : c.in-Some.letter ≡ b = cc in
    subst (λ (x : ℕ). is_flag x ≡ false) same c.in_default-flag_of.ensures.none)

pub returns-in_default-behind-clause-err : goal.returns-in_default-behind-clause-err
returns-in_default-behind-clause-err c = stops_behind_flag c.args.text.now c.in-Some.rest.now c.in-Some.letter c.in-Some.ensures.some
    (subst (λ (x : ℕ). is_flag x ≡ true) (sym c.in-Some-flag_of.ensures.some) (flag_letters c.in-Some-flag_of.flag)) c.in_default-behind.ensures.none

pub returns-in-None-clause-err : goal.returns-in-None-clause-err
returns-in-None-clause-err c = stops_behind_comma c.args.text.now c.in-Some.rest.now c.in-Some-behind.more.now c.in-Some.letter c.in-Some.ensures.some
    (subst (λ (x : ℕ). is_flag x ≡ true) (sym c.in-Some-flag_of.ensures.some) (flag_letters c.in-Some-flag_of.flag)) c.in-Some-behind.ensures.some c.in-None.ensures.none
