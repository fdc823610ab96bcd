-- The outside of the proxy, as far as it tells, and how it passes.
use Rattle.std.specs.Prelude.{ℕ, List, Option}
use Rattle.auth_io.specs.Dialling.{Dialled}
use Rattle.auth_io.specs.Handing.{Handed}
use Rattle.dial_exchange.specs.Dials.{DialPassed, DialState, dial_state}
use Rattle.dial_exchange.specs.declared.events.DialEvent.{DialEvent}
use Rattle.nonce_shard.specs.Seat.{Seat}
use Rattle.request_deciding.specs.Findings.{behind_in, found_in}
use Rattle.request_deciding.specs.Outside.{TablePassed, TableState, table_state}
use Rattle.request_deciding.specs.declared.events.Event.{Event}

pub record Outside : Type 0 where
  pub dial : DialState
  pub table : TableState

abbrev pub outside_of : DialState → TableState → Outside
outside_of dial table = record { dial = dial; table = table }

abbrev pub outside_at : {D W T : Type 0} → (D → Option Dialled) → (D → Option (List (List ℕ))) → (D → Option Handed) → (D → ℕ) → (D → ℕ)
    → (W → Option (List (List ℕ))) → (W → ℕ) → (T → Seat) → D → W → T → Outside
outside_at dialled coming handed dial_faults link_faults drawn word_faults seat d w t =
    outside_of (dial_state dialled coming handed dial_faults link_faults d) (table_state drawn word_faults seat w t)

-- Between two moments exactly these events came.
pub record Passed (u v : Outside) (events : List (Event DialEvent)) : Type 0 where
  pub dial : DialPassed u.dial v.dial (behind_in events)
  pub table : TablePassed u.table v.table (found_in events)
