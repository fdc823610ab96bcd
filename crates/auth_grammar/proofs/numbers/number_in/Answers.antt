-- A decimal text is its number, where that is in the range, and another text is none.
use Rattle.std.proofs.Common.{◌∙◌, refl, sym, rules}
use Rattle.auth_grammar.proofs.Numerals.{read_none, read_number}
use Rattle.auth_grammar.proofs.numbers.number_in.Goals as goal

pub returns-then-is_between-clause-number : goal.returns-then-is_between-clause-number
returns-then-is_between-clause-number c =
    sym (read_number c.args.least c.args.most c.in-Some.number c.args.text.now (search rules) c.in-Some.ensures.some ∙ rw (sym c.if-is_between.ensures) refl)

pub returns-else-is_between-clause-number : goal.returns-else-is_between-clause-number
returns-else-is_between-clause-number c =
    sym (read_number c.args.least c.args.most c.in-Some.number c.args.text.now (search rules) c.in-Some.ensures.some ∙ rw (sym c.if-is_between.ensures) refl)

pub returns-in_default-clause-number : goal.returns-in_default-clause-number
returns-in_default-clause-number c = sym (read_none c.args.least c.args.most c.args.text.now (search rules) c.in_default.ensures.none)
