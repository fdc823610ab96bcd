use Rattle.std.proofs.Common.{arith}
use Rattle.turn_table.proofs.TurnSteps.{passes_on}
use Rattle.turn_table.proofs.steps.turn.pass_on.Goals as goal

pub fetch_add-requires : goal.fetch_add-requires
fetch_add-requires g c = let t = c.requires.table in
    (t.same, omega arith, rw t.slots (passes_on _ _ _ _ _ c.requires.named c.requires.can))
