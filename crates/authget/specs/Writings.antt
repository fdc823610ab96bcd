-- Writing a response.
use Rattle.std.specs.Prelude.{◌≡◌, ◌⊎◌, ℕ, Bool, true, List, take, Option, Result, Ok, Err}
use Rattle.std.specs.Io.KnownBytes.{Appends}
use Rattle.authget.specs.Telling.{Heard, TellsOn}
use Rattle.authget.specs.declared.stop.Stop.{Stop}

-- The body was written and the line told; or a front of the body, or all of it and a front of the line.
abbrev pub Puts : Option (List ℕ) → Option (List ℕ) → Heard → Heard → Bool → List ℕ → List ℕ → Result Bool Stop → Type 0
Puts written written' u v on body line (Ok still) = Appends written written' body × TellsOn on still u v line
Puts written written' u v on body line (Err stop) =
    ((n : ℕ) × Appends written written' (take n body)) × (((n : ℕ) × (on ≡ true) × Appends u.written v.written (take n line)) ⊎ (v ≡ u))
