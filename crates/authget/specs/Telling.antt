-- What is told to whom listens.
use Rattle.std.specs.Prelude.{◌≡◌, ℕ, ◌≤◌, Bool, true, false, List, length, take, Option}
use Rattle.std.specs.Io.KnownBytes.{Appends}
use Rattle.auth_io.specs.Causes.{Rose}

-- what a sink has taken, as far as it tells, and its count of faults
pub record Heard : Type 0 where
  pub written : Option (List ℕ)
  pub faults : ℕ

abbrev pub heard : {D : Type 0} → (D → Option (List ℕ)) → (D → ℕ) → D → Heard
heard written faults diag = record { written = written diag; faults = faults diag }

-- The text was told whole, and more may be told; or a front of it up to a write that failed, and nothing more is told.
abbrev pub IsTold : Bool → Heard → Heard → List ℕ → Type 0
IsTold true u v text = Appends u.written v.written text × (v.faults ≡ u.faults)
IsTold false u v text = (n : ℕ) × (n ≤ length text) × Appends u.written v.written (take n text) × Rose u.faults v.faults

-- the same behind what was told before
abbrev pub TellsOn : Bool → Bool → Heard → Heard → List ℕ → Type 0
TellsOn true still u v text = IsTold still u v text
TellsOn false still u v text = (still ≡ false) × (v ≡ u)

-- one of the two
abbrev pub Tells : Heard → Heard → List ℕ → Type 0
Tells u v text = (on : Bool) × IsTold on u v text
