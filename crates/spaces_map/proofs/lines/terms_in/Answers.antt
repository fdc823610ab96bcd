use Rattle.spaces_map.proofs.LineTexts.{no_mode}
use Rattle.spaces_map.proofs.lines.terms_in.Goals as goal

pub returns-in_default-mode_named-clause-none : goal.returns-in_default-mode_named-clause-none
returns-in_default-mode_named-clause-none c =
    no_mode c.args.text.now c.in-Some.name.now c.in-Some.rest.now c.in-Some.ensures.some c.in-Some.ensures.first c.in_default-mode_named.ensures.none
