-- Lists that an object may tell. One that doesn't tell them claims nothing.
use Rattle.std.specs.Prelude.{◌≡◌, ◌+◌, ◌^◌, ◌<◌, List, ◌++◌, length, Option, Some, None, ⊤}

-- A told list has grown by these, as long as a count of 64 bits can number them.
abbrev pub Adds : {A : Type 0} → Option (List A) → Option (List A) → List A → Type 0
Adds None new xs = ⊤
Adds (Some old) None xs = ⊥
Adds (Some old) (Some new) xs = length old + length xs < 2 ^ 64 → new ≡ old ++ xs

-- a told list stays as it was
abbrev pub Stays : {A : Type 0} → Option (List A) → Option (List A) → Type 0
Stays None new = ⊤
Stays (Some old) None = ⊥
Stays (Some old) (Some new) = new ≡ old
