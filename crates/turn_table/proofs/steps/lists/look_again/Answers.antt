use Rattle.std.proofs.Common.{arith}
use Rattle.turn_table.proofs.JoinSteps.{looks}
use Rattle.turn_table.proofs.steps.lists.look_again.Goals as goal

pub load-requires : goal.load-requires
load-requires g c = let t = c.requires.table in
    (t.same, omega arith, rw t.slots (looks _ _ _ _ _ c.requires.idle.0 c.requires.idle.1))
