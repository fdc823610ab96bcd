-- Connections that are dialled, as far as a dial tells, and how it passes.
use Rattle.std.specs.Prelude.{◌≡◌, ℕ, Bool, true, false, List, [], ◌∷◌, Option}
use Rattle.std.specs.List.{All}
use Rattle.auth_io.specs.Causes.{Rose}
use Rattle.auth_io.specs.Dialling.{Dialled}
use Rattle.auth_io.specs.Handing.{Handed, HandsAll, RoseIfFailed, TakesAll}
use Rattle.auth_io.specs.Told.{Adds}
use Rattle.dial_exchange.specs.Exchanges.{IsSound}
use Rattle.dial_exchange.specs.declared.events.DialEvent.{DialEvent}
use Rattle.dial_exchange.specs.declared.events.DialEvent.TheVariants.{NotReached, Exchanged}

-- ---- what a dial has seen

-- the authorities that were dialled, and of each whether the dial failed
abbrev pub dialled_in : List DialEvent → Dialled
dialled_in [] = []
dialled_in (NotReached outgoing ∷ events) = (outgoing.authority, true) ∷ dialled_in events
dialled_in (Exchanged outgoing x ∷ events) = (outgoing.authority, false) ∷ dialled_in events

-- what the connections had to give
abbrev pub lefts_in : List DialEvent → List (Option (List ℕ))
lefts_in [] = []
lefts_in (NotReached outgoing ∷ events) = lefts_in events
lefts_in (Exchanged outgoing x ∷ events) = x.left ∷ lefts_in events

-- what was sent on each, and whether one of its calls failed
abbrev pub ended_in : List DialEvent → List (List ℕ × Bool)
ended_in [] = []
ended_in (NotReached outgoing ∷ events) = ended_in events
ended_in (Exchanged outgoing x ∷ events) = (x.sent, x.failed) ∷ ended_in events

-- The count of dial faults rose at each dial that failed, and at no other.
abbrev pub FaultsPass : List DialEvent → ℕ → ℕ → Type 0
FaultsPass [] old new = new ≡ old
FaultsPass (NotReached outgoing ∷ events) old new = (then : ℕ) × Rose old then × FaultsPass events then new
FaultsPass (Exchanged outgoing x ∷ events) old new = FaultsPass events old new

-- The count of link faults rose at each connection of which a call failed, and at no other.
abbrev pub LinkFaultsPass : List DialEvent → ℕ → ℕ → Type 0
LinkFaultsPass [] old new = new ≡ old
LinkFaultsPass (NotReached outgoing ∷ events) old new = LinkFaultsPass events old new
LinkFaultsPass (Exchanged outgoing x ∷ events) old new = (then : ℕ) × RoseIfFailed x.failed old then × LinkFaultsPass events then new

-- a dial at one moment
pub record DialState : Type 0 where
  pub dialled : Option Dialled
  pub coming : Option (List (List ℕ))
  pub handed : Option Handed
  pub faults : ℕ
  pub link_faults : ℕ

abbrev pub dial_state : {D : Type 0} → (D → Option Dialled) → (D → Option (List (List ℕ))) → (D → Option Handed) → (D → ℕ)
    → (D → ℕ) → D → DialState
dial_state dialled coming handed faults link_faults d =
    record { dialled = dialled d; coming = coming d; handed = handed d; faults = faults d; link_faults = link_faults d }

-- It passed through exactly these events: each connection that it handed out is back.
pub record DialPassed (u v : DialState) (events : List DialEvent) : Type 0 where
  pub sound : All IsSound events
  pub dialled : Adds u.dialled v.dialled (dialled_in events)
  pub coming : HandsAll u.coming v.coming (lefts_in events)
  pub handed : TakesAll u.handed v.handed (ended_in events)
  pub faults : FaultsPass events u.faults v.faults
  pub link_faults : LinkFaultsPass events u.link_faults v.link_faults
