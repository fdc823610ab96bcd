-- Where the calls of a decision stand in the lists of the table's shards.
use Rattle.std.specs.Prelude.{◌≡◌, ℕ, List, [], ◌∷◌, ◌++◌}
use Rattle.nonce_shard.specs.Laws.{StandsBehind, with_list}
use Rattle.nonce_shard.specs.Replies.{reply}
use Rattle.nonce_shard.specs.Seat.{Entry, Made, Seat, calls_of}
use Rattle.nonce_shard.specs.declared.calls.Call.{Call}
use Rattle.nonce_shard.specs.declared.sizes.Sizes.{Sizes}
use Rattle.admission.specs.Steps.{Step, Drew, Called}

-- the call with the reply of a table of one thread behind the calls before it
abbrev pub made_behind : Sizes → ℕ → List Call → Call → Made
made_behind sizes shard before call = record { shard = shard; call = call; reply = reply sizes shard before call }

-- The calls stand in the lists of their shards, each behind those of the seat before it, and the calls before it are those that
-- its list has before it.
abbrev pub AreInPlace : Seat → (ℕ → List Entry) → Seat → List Step → Type 0
AreInPlace seat seen new [] = Unit {0}
AreInPlace seat seen new (Drew words ∷ steps) = AreInPlace seat seen new steps
AreInPlace seat seen new (Called shard before call ∷ steps) = (past : List Entry) × (before ≡ calls_of past)
    × StandsBehind seat (seen shard) (new.seen shard) (made_behind seat.sizes shard before call) past
    × AreInPlace seat (with_list seen shard (past ++ (seat.owner, call) ∷ [])) new steps
