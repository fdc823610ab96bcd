use Rattle.std.proofs.Common.{◌≡◌, ℕ, [], ◌∷◌, sym, ◌∙◌, subst, false, rules}
use Rattle.scram_text.specs.Contents.{has_letter}
use Rattle.scram_text.proofs.AttributeLaws.{goes_behind, goes_nowhere, goes_to_sign}
use Rattle.scram_text.proofs.attribute.Attribute.reach.Goals as goal

pub returns-in_default-clause-reach : goal.returns-in_default-clause-reach
returns-in_default-clause-reach c = goes_nowhere c.args.self c.args.part.now (λ b left is. let e : [] ≡ b ∷ left = sym c.in_default.ensures.none ∙ is in cc)

pub returns-then-not-has_letter-clause-reach : goal.returns-then-not-has_letter-clause-reach
returns-then-not-has_letter-clause-reach c = goes_nowhere c.args.self c.args.part.now
    (λ b left is.
    let e : c.in-Some.letter ∷ c.in-Some.more.now ≡ b ∷ left = sym c.in-Some.ensures.some ∙ is in
    let same : c.in-Some.letter ≡ b = cc in
    let fails : has_letter c.args.self c.in-Some.letter ≡ false = search rules in
    subst (λ (x : ℕ). has_letter c.args.self x ≡ false) same fails)

pub returns-in-Some-behind-clause-reach : goal.returns-in-Some-behind-clause-reach
returns-in-Some-behind-clause-reach c = goes_behind c.args.self c.args.part.now c.in-Some.more.now c.in-Some-behind.content.now c.in-Some.letter c.content_reach.result c.in-Some.ensures.some (search rules) c.in-Some-behind.ensures.some c.content_reach.ensures.reach

pub returns-in-None-clause-reach : goal.returns-in-None-clause-reach
returns-in-None-clause-reach c = goes_to_sign c.args.self c.args.part.now c.in-Some.more.now c.in-Some.letter c.in-Some.ensures.some (search rules) c.in-None.ensures.none
