-- What a table that keeps its calls is seen as.
use Rattle.std.specs.Prelude.{ℕ, List, [], length, map}
use Rattle.nonce_shard.specs.declared.calls.Call.{Call}
use Rattle.nonce_shard.specs.declared.sizes.Sizes.{Sizes}
use Rattle.nonce_shard.specs.Seat.{Entry, Seat}

-- what it was opened with, and its calls so far, the oldest first
pub record Journal : Type 0 where
  pub sizes : Sizes
  pub limit : ℕ
  pub calls : List Call

-- the entries of the one owner
abbrev pub own_entries : List Call → List Entry
own_entries calls = map (λ c. (0, c)) calls

-- the one seat, at the one shard
abbrev pub seat_of : Journal → Seat
seat_of j = record {
  owner = 0;
  table = [];
  sizes = j.sizes;
  limit = j.limit;
  shards = 1;
  seen = λ s. own_entries j.calls;
  noted = λ s. length j.calls;
}
