use Rattle.std.proofs.Common.{sym, ◌∙◌}
use Rattle.spaces_map.proofs.LineTexts.{no_realm_asked, no_kinds_asked}
use Rattle.spaces_map.proofs.lines.asked_in.Goals as goal

pub returns-then-not-is_plain_name-clause-none : goal.returns-then-not-is_plain_name-clause-none
returns-then-not-is_plain_name-clause-none c =
    no_realm_asked c.args.text.now c.in-Some.kinds.now c.in-Some.realm.now c.in-Some.ensures.some c.in-Some.ensures.first (sym c.is_plain_name.ensures ∙ c.if-not-is_plain_name.true)

pub returns-in_default-2-clause-none : goal.returns-in_default-2-clause-none
returns-in_default-2-clause-none c =
    no_kinds_asked c.args.text.now c.in-Some.kinds.now c.in-Some.realm.now c.in-Some.ensures.some c.in-Some.ensures.first (rw c.in_default-2.is at c.in_ok-offers.ensures.none)
