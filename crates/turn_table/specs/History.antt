-- The history of an object's calls, the oldest first, and lists that it begins with.
use Rattle.std.specs.Prelude.{◌≡◌, ◌≢◌, ℕ, List, ◌++◌, map, length, nat_lt, if◌then◌else◌}
use Rattle.turn_table.specs.Lists.{Each}

-- a call with the owner number of the pass that made it
abbrev pub Entry : Type 0 → Type 0
Entry C = ℕ × C

module _ {C : Type 0} where
  abbrev pub calls_in : List (Entry C) → List C
  calls_in entries = map (λ e. e.1) entries

  -- no entry is this owner's
  abbrev pub Without : ℕ → List (Entry C) → Type 0
  Without owner entries = Each (λ e. e.0 ≢ owner) entries

  -- the list begins with this front, and goes on with entries of other owners alone
  abbrev pub GrownByOthers : List (Entry C) → ℕ → List (Entry C) → Type 0
  GrownByOthers list owner front = (rest : List (Entry C)) × (list ≡ front ++ rest) × Without owner rest

  abbrev pub longer : List (Entry C) → List (Entry C) → List (Entry C)
  longer l m = if nat_lt (length l) (length m) then m else l

  -- the owners of some pairs of an owner and a list
  abbrev pub owners_of : List (ℕ × List (Entry C)) → List ℕ
  owners_of pairs = map (λ p. p.0) pairs
