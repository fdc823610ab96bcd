-- How far a text of a grammar could go on.
use Rattle.std.specs.Prelude.{ℕ, ◌≤◌, ◌<◌, List, ◌++◌, length, take}

-- some text of the grammar begins so
abbrev pub Begins : {X : Type 0} → (List ℕ → X → Type 0) → List ℕ → Type 0
Begins {X} Spells text = (rest : List ℕ) × (x : X) × Spells (text ++ rest) x

-- the length of the longest prefix with which some text of the grammar begins
pub record IsReach {X : Type 0} (Spells : List ℕ → X → Type 0) (text : List ℕ) (at : ℕ) : Type 0 where
  pub within : at ≤ length text
  pub begins : Begins Spells (take at text)
  pub longest : (n : ℕ) → at < n → n ≤ length text → Begins Spells (take n text) → ⊥

-- the text is not of the grammar, and this is how far it could have gone on
pub record Stops {X : Type 0} (Spells : List ℕ → X → Type 0) (text : List ℕ) (at : ℕ) : Type 0 where
  pub reach : IsReach Spells text at
  pub none : (x : X) → Spells text x → ⊥
