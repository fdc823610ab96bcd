-- Connections that are dialled.
use Rattle.std.specs.Prelude.{◌≡◌, ℕ, ◌≤◌, Bool, true, false, ◌||◌, List, [], ◌∷◌, Option, Result, Ok, Err}
use Rattle.auth_io.specs.Causes.{Rose}
use Rattle.auth_io.specs.Plans.{Plan}
use Rattle.auth_io.specs.Told.{Adds}
use Rattle.auth_io.specs.declared.dial.DialFault.{DialFault}
use Rattle.auth_io.specs.declared.dial.DialFault.TheVariants.{Failed, OutOfMemory}

-- the authorities that were dialled, and of each whether the dial failed
abbrev pub Dialled : Type 0
Dialled = List (List ℕ × Bool)

-- A dial is told by its authority and whether it failed. One that found no memory isn't told.
abbrev pub told_dials : {L : Type 0} → List ℕ → Result L DialFault → Dialled
told_dials authority (Ok link) = (authority, false) ∷ []
told_dials authority (Err Failed) = (authority, true) ∷ []
told_dials authority (Err OutOfMemory) = []

abbrev pub RoseAtDialFault : {L : Type 0} → Result L DialFault → ℕ → ℕ → Type 0
RoseAtDialFault (Ok link) before now = now ≡ before
RoseAtDialFault (Err Failed) before now = Rose before now
RoseAtDialFault (Err OutOfMemory) before now = now ≡ before

-- the count of dial faults never falls, has risen at a fault, and stays at any other answer
pub record HasDialCause {L : Type 0} (before now : ℕ) (result : Result L DialFault) : Type 0 where
  pub later : before ≤ now
  pub each : RoseAtDialFault result before now

-- A dial whose call isn't to fail connects, or finds no memory.
abbrev pub DialsBy : {L : Type 0} → Bool → Result L DialFault → Type 0
DialsBy fails (Ok link) = fails ≡ false
DialsBy fails (Err Failed) = fails ≡ true
DialsBy fails (Err OutOfMemory) = Unit {0}
