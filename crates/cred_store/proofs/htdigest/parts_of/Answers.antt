use Rattle.std.proofs.Common.{sym, ◌∙◌}
use Rattle.cred_store.proofs.Pairs.{more_than_two, none_of_two, one_of_two}
use Rattle.cred_store.proofs.htdigest.parts_of.Goals as goal

pub returns-in_default-clause-none : goal.returns-in_default-clause-none
returns-in_default-clause-none c = none_of_two c.args.line.now c.in_default.ensures.none

pub returns-in_default-cut_at-clause-none : goal.returns-in_default-cut_at-clause-none
returns-in_default-cut_at-clause-none c =
    one_of_two c.args.line.now c.in-Some.name.now c.in-Some.rest.now c.in-Some.ensures.some c.in-Some.ensures.first c.in_default-cut_at.ensures.none

pub returns-then-contains-clause-none : goal.returns-then-contains-clause-none
returns-then-contains-clause-none c =
    more_than_two c.args.line.now c.in-Some.name.now c.in-Some-cut_at.realm.now c.in-Some.rest.now c.in-Some-cut_at.value.now
    c.in-Some.ensures.some c.in-Some.ensures.first c.in-Some-cut_at.ensures.some c.in-Some-cut_at.ensures.first
    (sym c.contains.ensures.value ∙ c.if-contains.true)
