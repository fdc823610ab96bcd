-- What a register holds, and what its callers do to their passes.
use Rattle.std.specs.Prelude.{◌≡◌, ℕ, ◌%◌, ◌^◌, List, sum}
use Rattle.turn_table.specs.Passes.{PassFacts}

abbrev pub value_after : List ℕ → ℕ
value_after calls = sum calls % 2 ^ 64

-- the pass is of the same table and the same owner, and was neither split nor joined
pub record IsSamePass {S : Type 0} (old new : PassFacts ℕ S) : Type 0 where
  pub table : new.table ≡ old.table
  pub owner : new.owner ≡ old.owner
  pub made : new.made ≡ old.made
  pub kept : new.kept ≡ old.kept
