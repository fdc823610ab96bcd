use Rattle.cred_store.proofs.KeyTexts.{not_three, not_two}
use Rattle.cred_store.proofs.keys_text.parts_of.Goals as goal

pub returns-in_default-cut_at-clause-none : goal.returns-in_default-cut_at-clause-none
returns-in_default-cut_at-clause-none c =
    not_two c.args.text.now c.in-Some.count.now c.in-Some.rest.now c.in-Some.ensures.some c.in-Some.ensures.first c.in_default-cut_at.ensures.none

pub returns-in_default-cut_at-2-clause-none : goal.returns-in_default-cut_at-2-clause-none
returns-in_default-cut_at-2-clause-none c =
    not_three c.args.text.now c.in-Some.count.now c.in-Some-cut_at.salt.now c.in-Some.rest.now c.in-Some-cut_at.rest.now
    c.in-Some.ensures.some c.in-Some.ensures.first c.in-Some-cut_at.ensures.some c.in-Some-cut_at.ensures.first c.in_default-cut_at-2.ensures.none
