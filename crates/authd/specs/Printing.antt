-- What was printed.
use Rattle.std.specs.Prelude.{◌≡◌, ◌⊎◌, ℕ, List, take, Option, Ok, Err}
use Rattle.std.specs.Io.KnownBytes.{Appends}
use Rattle.authd.specs.Endings.{Ending}
use Rattle.authd.specs.declared.failure.Failure.TheVariants as failure
use Rattle.authd.specs.declared.failure.Fault.TheVariants as fault

-- The text was written whole, or a front of it up to a write that failed. Without memory there may be nothing to write.
abbrev pub Prints : List ℕ → Option (List ℕ) → Option (List ℕ) → Ending → Type 0
Prints text written written' (Ok done) = Appends written written' text
Prints text written written' (Err (failure.Fault fault.Write)) = (n : ℕ) × Appends written written' (take n text)
Prints text written written' (Err failure.OutOfMemory) = (written' ≡ written) ⊎ ((n : ℕ) × Appends written written' (take n text))
Prints text written written' (Err other) = ⊥
