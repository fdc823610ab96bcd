use Rattle.std.proofs.Common.{arith}
use Rattle.turn_table.proofs.TurnSteps.{draws}
use Rattle.turn_table.proofs.steps.turn.draw_ticket.Goals as goal

pub fetch_add-requires : goal.fetch_add-requires
fetch_add-requires g c = let t = c.requires.table in
    (t.same, omega arith, rw t.slots (draws _ _ _ _ _ c.requires.idle.0 c.requires.idle.1))
