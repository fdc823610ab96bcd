use Rattle.std.proofs.Common.{arith}
use Rattle.turn_table.proofs.SplitSteps.{notes}
use Rattle.turn_table.proofs.steps.lists.take_note.Goals as goal

pub split_seat-requires : goal.split_seat-requires
split_seat-requires g c = let t = c.requires.table in (t.same, omega arith, notes _ _ _ _ _)
