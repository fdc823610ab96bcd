use Rattle.spaces_map.proofs.LookUps.{outside, itself, beyond}
use Rattle.spaces_map.proofs.look_up.goes_on.Goals as goal

pub returns-in-None : goal.returns-in-None
returns-in-None c = outside c.args.path.now c.args.prefix.now c.in-None.ensures.none

pub returns-in-Some-empty : goal.returns-in-Some-empty
returns-in-Some-empty c = itself c.args.path.now c.args.prefix.now c.in-Some-empty.field-0.now c.in-Some-empty.ensures.some c.in-Some-empty.len_below

pub returns-in-Some-len1-up : goal.returns-in-Some-len1-up
returns-in-Some-len1-up c = beyond c.args.path.now c.args.prefix.now c.in-Some-len1-up.field-0.now c.in-Some-len1-up.ensures.some c.in-Some-len1-up.len_at_least
