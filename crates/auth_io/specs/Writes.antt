-- What a write does.
use Rattle.std.specs.Prelude.{◌≡◌, ℕ, ◌<◌, ◌≤◌, List, length, take, Option, ⊤}
use Rattle.std.specs.Io.KnownBytes.{Appends, Keeps}
use Rattle.auth_io.specs.Causes.{Rose}
use Rattle.auth_io.specs.declared.stream.Wrote.{Wrote}
use Rattle.auth_io.specs.declared.stream.Wrote.TheVariants.{Taken, Failed, OutOfMemory}

-- A write takes at most what it is given, and some of it where there is any.
abbrev pub TakesSome : Wrote → List ℕ → Type 0
TakesSome (Taken n) from = (n ≤ length from) × (0 < length from → 0 < n)
TakesSome Failed from = ⊤
TakesSome OutOfMemory from = ⊤

-- what was taken stands at the end
abbrev pub Writes : Option (List ℕ) → Option (List ℕ) → Wrote → List ℕ → Type 0
Writes old new (Taken n) from = Appends old new (take n from)
Writes old new Failed from = Keeps old new
Writes old new OutOfMemory from = Keeps old new

abbrev pub RoseAtFailed : Wrote → ℕ → ℕ → Type 0
RoseAtFailed (Taken n) before now = now ≡ before
RoseAtFailed Failed before now = Rose before now
RoseAtFailed OutOfMemory before now = now ≡ before

-- the count of write faults never falls, has risen at a fault, and stays at any other answer
pub record HasWriteCause (before now : ℕ) (wrote : Wrote) : Type 0 where
  pub later : before ≤ now
  pub each : RoseAtFailed wrote before now

-- no fault of the stream
abbrev pub IsNoFault : Wrote → Type 0
IsNoFault (Taken n) = ⊤
IsNoFault Failed = ⊥
IsNoFault OutOfMemory = ⊤
