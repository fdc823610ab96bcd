use Rattle.std.proofs.Common.{arith}
use Rattle.turn_table.proofs.CommitStep.{commits}
use Rattle.turn_table.proofs.steps.history.commit.Goals as goal

pub fetch_add-requires : goal.fetch_add-requires
fetch_add-requires g c = let t = c.requires.table in let h = c.requires.holds in
    (t.same, omega arith, rw (t.slots, c.requires.said) (commits _ _ _ _ _ _ h.1.0 h.0 h.1.1 h.1.2))
