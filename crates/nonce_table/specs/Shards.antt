-- The turns of the shards of a table, and the opening pass to each, which the table keeps.
use Rattle.std.specs.Prelude.{◌≡◌, ℕ, ◌+◌, Some, List, [], ◌∷◌, length, slice_get}
use Rattle.nonce_shard.specs.declared.calls.Call.{Call}
use Rattle.nonce_shard.specs.declared.sizes.Setting.{Setting}
use Rattle.nonce_shard.specs.declared.totals.Totals.{Totals}
use Rattle.nonce_shard.specs.Shard.{totals_after}
use Rattle.turn_table.specs.History.{Without, calls_in}
use Rattle.turn_table.specs.Passes.{TableFacts, PassFacts, first_pass}

-- the opening pass to these turns, which makes no call of its own
pub record IsOpening (turns : TableFacts Setting) (opening : PassFacts Call Setting) : Type 0 where
  pub table : opening.table ≡ turns.id
  pub setting : opening.setting ≡ Some turns.setting
  pub owner : opening.owner ≡ 0
  pub silent : Without 0 opening.seen

-- the opening passes, one to the turns of each shard in their order
pub record AreOpenings (turns : List (TableFacts Setting)) (openings : List (PassFacts Call Setting)) : Type 0 where
  pub long : length openings ≡ length turns
  pub each : (s : ℕ) (t : TableFacts Setting) (p : PassFacts Call Setting) → slice_get turns s ≡ Some t
      → slice_get openings s ≡ Some p → IsOpening t p

-- the opening pass to these turns, from which so many passes were split and into which none was joined
abbrev pub opening_of : ℕ → TableFacts Setting → PassFacts Call Setting
opening_of made turns = record (first_pass turns) { made = made }

-- an opening pass from which one pass more was split
abbrev pub split_pass : PassFacts Call Setting → PassFacts Call Setting
split_pass opening = record opening { made = opening.made + 1 }

-- the totals of the calls that the opening pass has seen
abbrev pub totals_at : TableFacts Setting → PassFacts Call Setting → Totals
totals_at turns opening = totals_after turns.setting (calls_in opening.seen)

-- the totals of each shard
abbrev pub totals_of : List (TableFacts Setting) → List (PassFacts Call Setting) → List Totals
totals_of [] openings = []
totals_of (t ∷ ts) [] = []
totals_of (t ∷ ts) (p ∷ ps) = totals_at t p ∷ totals_of ts ps
