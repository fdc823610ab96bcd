-- Elements and beginnings of lists, and numbers that differ.
use Rattle.std.specs.Prelude.{◌≡◌, ◌≢◌, ℕ, List, [], ◌∷◌, ◌++◌}

module _ {A : Type 0} where
  -- P holds of each element
  abbrev pub Each : (A → Type 0) → List A → Type 0
  Each P [] = Unit {0}
  Each P (x ∷ xs) = P x × Each P xs

  -- the list begins with the front
  abbrev pub BeginsWith : List A → List A → Type 0
  BeginsWith list front = (rest : List A) × (list ≡ front ++ rest)

-- x is not among the numbers
abbrev pub Lacks : ℕ → List ℕ → Type 0
Lacks x xs = Each (λ y. y ≢ x) xs

-- no two of the numbers are equal
abbrev pub Differ : List ℕ → Type 0
Differ [] = Unit {0}
Differ (x ∷ xs) = Lacks x xs × Differ xs
