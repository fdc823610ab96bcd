use Rattle.std.proofs.Common.{arith}
use Rattle.turn_table.proofs.TurnSteps.{counts}
use Rattle.turn_table.proofs.steps.value.look_at_calls.Goals as goal

pub load-requires : goal.load-requires
load-requires g c = let t = c.requires.table in
    (t.same, omega arith, rw t.slots (counts _ _ _ _ _ c.requires.ready.0 c.requires.ready.1))
