use Rattle.std.proofs.Common.{sym, ◌∙◌}
use Rattle.spaces_map.proofs.LineTexts.{no_prefix_line, no_terms_line}
use Rattle.spaces_map.proofs.lines.space_in.Goals as goal

pub returns-then-not-is_prefix-clause-none : goal.returns-then-not-is_prefix-clause-none
returns-then-not-is_prefix-clause-none c =
    no_prefix_line c.args.line.now c.in-Some.prefix.now c.in-Some.rest.now c.in-Some.ensures.some c.in-Some.ensures.first (sym c.is_prefix.ensures ∙ c.if-not-is_prefix.true)

pub returns-in_default-2-clause-none : goal.returns-in_default-2-clause-none
returns-in_default-2-clause-none c =
    no_terms_line c.args.line.now c.in-Some.prefix.now c.in-Some.rest.now c.in-Some.ensures.some c.in-Some.ensures.first (rw c.in_default-2.is at c.in_ok-terms.ensures.none)
