use Rattle.std.proofs.Common.{arith}
use Rattle.turn_table.proofs.JoinSteps.{hears}
use Rattle.turn_table.proofs.steps.lists.hear_note.Goals as goal

pub join_seat-requires : goal.join_seat-requires
join_seat-requires g c = let t = c.requires.table in let n = c.requires.note in
    (t.0.same, t.1.same, n.1, omega (arith, t.0.words), hears _ _ _ _ _ _ _ c.requires.idle.0 c.requires.idle.1 n.0)
