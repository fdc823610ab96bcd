use Rattle.std.proofs.Common.{◌≡◌, ◌<◌, ◌^◌, sym, ◌∙◌, arith, rules}
use Rattle.std.proofs.lemmas.Fmt.{decimal_injective}
use Rattle.scram_text.proofs.counts.count_of.Goals as goal

pub returns-in_default-clause-none : goal.returns-in_default-clause-none
returns-in_default-clause-none c = λ n some below is. c.in_default.ensures.none n (omega arith) is

pub returns-then-number-eq0-clause-none : goal.returns-then-number-eq0-clause-none
returns-then-number-eq0-clause-none c = λ n some below is.
    let same : c.in-Some.number ≡ n = decimal_injective c.in-Some.number n (omega (arith, c.if-number-eq0.true)) (omega arith) (sym c.in-Some.ensures.some ∙ is) in
    absurd (omega (arith, same, c.if-number-eq0.true))

pub returns-then-number-clause-none : goal.returns-then-number-clause-none
returns-then-number-clause-none c = λ n some below is.
    let small : c.in-Some.number < 2 ^ 64 = search rules in
    let same : c.in-Some.number ≡ n = decimal_injective c.in-Some.number n small (omega arith) (sym c.in-Some.ensures.some ∙ is) in
    absurd (omega (arith, same, c.if-number.true))
