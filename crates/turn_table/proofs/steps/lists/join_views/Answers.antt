use Rattle.std.proofs.Common.{arith}
use Rattle.turn_table.proofs.JoinSteps.{joins}
use Rattle.turn_table.proofs.steps.lists.join_views.Goals as goal

pub join_seat-requires : goal.join_seat-requires
join_seat-requires g c = let t = c.requires.table in let o = c.requires.opening in let w = c.requires.other in
    (t.0.same, t.1.same, w.2, omega (arith, t.0.words), joins _ _ _ _ _ _ _ o.0 o.1 o.2 w.0 w.1)
