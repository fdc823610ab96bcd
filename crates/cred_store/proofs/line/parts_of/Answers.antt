use Rattle.cred_store.proofs.Parts.{none_at_all, one_alone, other_tail, two_alone}
use Rattle.cred_store.proofs.line.parts_of.Goals as goal

pub returns-in_default-clause-none : goal.returns-in_default-clause-none
returns-in_default-clause-none c = none_at_all c.args.version c.args.line.now c.in_default.ensures.none

pub returns-in_default-cut_at-clause-none : goal.returns-in_default-cut_at-clause-none
returns-in_default-cut_at-clause-none c =
    one_alone c.args.version c.args.line.now c.in-Some.name.now c.in-Some.rest.now c.in-Some.ensures.some c.in-Some.ensures.first c.in_default-cut_at.ensures.none

pub returns-in_default-cut_at-2-clause-none : goal.returns-in_default-cut_at-2-clause-none
returns-in_default-cut_at-2-clause-none c =
    two_alone c.args.version c.args.line.now c.in-Some.name.now c.in-Some-cut_at.realm.now c.in-Some.rest.now c.in-Some-cut_at.rest.now
    c.in-Some.ensures.some c.in-Some.ensures.first c.in-Some-cut_at.ensures.some c.in-Some-cut_at.ensures.first c.in_default-cut_at-2.ensures.none

pub returns-in_default-tail_parts-clause-none : goal.returns-in_default-tail_parts-clause-none
returns-in_default-tail_parts-clause-none c =
    other_tail c.args.version c.args.line.now c.in-Some.name.now c.in-Some-cut_at.realm.now c.in-Some-cut_at-2.kind.now c.in-Some.rest.now c.in-Some-cut_at.rest.now c.in-Some-cut_at-2.tail.now
    c.in-Some.ensures.some c.in-Some.ensures.first c.in-Some-cut_at.ensures.some c.in-Some-cut_at.ensures.first c.in-Some-cut_at-2.ensures.some c.in-Some-cut_at-2.ensures.first
    c.in_default-tail_parts.ensures.none
