-- The histories with which a table closes, and their totals.
use Rattle.std.specs.Prelude.{◌≡◌, ℕ, ◌≤◌, All, Contains, Some, List, [], ◌∷◌, ◌++◌, max, map, length, fold, sum_by, slice_get}
use Rattle.nonce_shard.specs.declared.calls.Call.{Call}
use Rattle.nonce_shard.specs.declared.sizes.Sizes.{Sizes}
use Rattle.nonce_shard.specs.declared.sizes.Setting.{Setting}
use Rattle.nonce_shard.specs.declared.totals.Totals.{Totals}
use Rattle.nonce_shard.specs.Seat.{Entry, calls_of}
use Rattle.nonce_shard.specs.Shard.{totals_after}
use Rattle.turn_table.specs.History.{GrownByOthers, longer}
use Rattle.turn_table.specs.Lists.{Each}
use Rattle.turn_table.specs.Passes.{PassFacts}
use Rattle.nonce_table.specs.declared.closing.Closed.{Closed}
use Rattle.nonce_table.specs.Passes.{TablePassFacts, seat_of}

-- the opening pass to a shard after the join of a pass, of which this is the part
abbrev pub joined_at : ℕ → PassFacts Call Setting → TablePassFacts → PassFacts Call Setting
joined_at s opening pass = record opening {
  seen = longer opening.seen ((seat_of pass).seen s);
  kept = opening.kept ++ (pass.owner, (seat_of pass).seen s) ∷ [];
  noted = max opening.noted ((seat_of pass).noted s);
}

-- the longest list that one of the passes has seen of a shard; with no pass it is empty
abbrev pub history_of : ℕ → List TablePassFacts → List Entry
history_of s passes = fold longer [] (map (λ p. (seat_of p).seen s) passes)

-- The history of a shard at the close: it begins with the list of each pass and goes on with entries of other owners, each
-- entry is of the owner of some pass, and no pass noted more calls.
pub record IsClosingHistory (s : ℕ) (passes : List TablePassFacts) (history : List Entry) : Type 0 where
  pub lists : All (λ p. GrownByOthers history p.owner ((seat_of p).seen s)) passes
  pub owners : Each (λ e. Contains (map (λ p. p.owner) passes) e.0) history
  pub noted : All (λ p. (seat_of p).noted s ≤ length history) passes

-- the sums of the totals of all shards
abbrev pub sum_of : List Totals → Closed
sum_of totals = record {
  calls = sum_by (λ t. t.calls) totals;
  issued = sum_by (λ t. t.issued) totals;
  admitted = sum_by (λ t. t.admitted) totals;
  repeated = sum_by (λ t. t.repeated) totals;
}

-- these are the sums of the totals of each shard's history at the close
pub record CountsHistories (sizes : Sizes) (passes : List TablePassFacts) (closed : Closed) : Type 0 where
  pub totals : List Totals
  pub long : length totals ≡ sizes.shards
  pub each : (s : ℕ) (t : Totals) → slice_get totals s ≡ Some t
      → t ≡ totals_after (record { number = s; sizes = sizes }) (calls_of (history_of s passes))
  pub sum : closed ≡ sum_of totals
