-- The outside of a decision, as far as it tells, and how it passes.
use Rattle.std.specs.Prelude.{◌≡◌, ℕ, ◌<◌, ◌≤◌, List, Option}
use Rattle.std.specs.List.{All}
use Rattle.auth_io.specs.Causes.{Rose}
use Rattle.auth_io.specs.Told.{Adds}
use Rattle.connection_loop.specs.declared.responder.Lack.{Lack}
use Rattle.connection_loop.specs.declared.responder.Lack.TheVariants.{Random, Worn}
use Rattle.nonce_shard.specs.Seat.{Seat, Grows}
use Rattle.nonce_shard.specs.declared.calls.Call.{Call}
use Rattle.request_deciding.specs.Findings.{IsSound, calls_in, words_in}
use Rattle.request_deciding.specs.declared.events.Finding.{Finding}
use Rattle.request_deciding.specs.declared.events.Inquiry.{Inquiry}
use Rattle.request_deciding.specs.declared.events.Inquiry.TheVariants.{Draw, CallTable}
use Rattle.request_deciding.specs.declared.events.Operation.{Operation}
use Rattle.request_deciding.specs.declared.events.Operation.TheVariants.{Inquire}

-- a source of words and a seat at a nonce table at one moment
pub record TableState : Type 0 where
  pub drawn : Option (List (List ℕ))
  pub faults : ℕ
  pub seat : Seat

abbrev pub table_state : {W T : Type 0} → (W → Option (List (List ℕ))) → (W → ℕ) → (T → Seat) → W → T → TableState
table_state drawn faults seat w t = record { drawn = drawn w; faults = faults w; seat = seat t }

-- They passed through exactly these findings. The calls were of the table's shards.
pub record TablePassed (u v : TableState) (found : List Finding) : Type 0 where
  pub sound : All IsSound found
  pub drawn : Adds u.drawn v.drawn (words_in found)
  pub later : u.faults ≤ v.faults
  pub calls : Grows u.seat v.seat (calls_in found)
  pub within : All (λ made. made.shard < u.seat.shards) (calls_in found)

-- A draw that lacks its words has raised the count of faults. A call that lacks its reply went to a shard that notes the limit.
abbrev pub LacksBy : TableState → TableState → Lack → Inquiry → Type 0
LacksBy u v Random inquiry = (inquiry ≡ Draw) × Rose u.faults v.faults
LacksBy u v (Worn calls) inquiry = (shard : ℕ) × (call : Call) × (inquiry ≡ CallTable shard call) × (shard < u.seat.shards)
    × (v.seat.noted shard ≡ calls) × (calls ≡ u.seat.limit)

-- Only an inquiry has no answer.
abbrev pub LackedBy : {Q : Type 0} → TableState → TableState → Lack → Operation Q → Type 0
LackedBy u v lack operation = (inquiry : Inquiry) × (operation ≡ Inquire inquiry) × LacksBy u v lack inquiry
