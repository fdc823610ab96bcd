use Rattle.std.proofs.Common.{arith}
use Rattle.turn_table.proofs.SplitSteps.{splits}
use Rattle.turn_table.proofs.steps.lists.split_off.Goals as goal

pub split_seat-requires : goal.split_seat-requires
split_seat-requires g c = let t = c.requires.table in let o = c.requires.opening in
    (t.same, omega arith, splits _ _ _ _ _ o.0 o.1 c.requires.few o.2)
