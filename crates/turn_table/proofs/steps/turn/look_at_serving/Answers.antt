use Rattle.std.proofs.Common.{arith}
use Rattle.turn_table.proofs.TurnSteps.{watches}
use Rattle.turn_table.proofs.steps.turn.look_at_serving.Goals as goal

pub load-requires : goal.load-requires
load-requires g c = let t = c.requires.table in let w = c.requires.waits in
    (t.same, omega arith, rw t.slots (watches _ _ _ _ _ w.1.0 w.0 w.1.1))
