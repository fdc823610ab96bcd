-- How far a text could go on as a text of some form.
use Rattle.std.specs.Prelude.{◌≡◌, ℕ, List, ◌++◌, ◌∷◌, length}

-- some text of the form begins with the front of this one, and none with one byte more
pub record Reaches (Form : List ℕ → Type 0) (text : List ℕ) (at : ℕ) : Type 0 where
  pub front : List ℕ
  pub back : List ℕ
  pub cut : text ≡ front ++ back
  pub long : length front ≡ at
  pub rest : List ℕ
  pub lives : Form (front ++ rest)
  pub stuck : (b : ℕ) (left more : List ℕ) → back ≡ b ∷ left → Form (front ++ b ∷ more) → ⊥

-- the text is not of the form, and could go on so far
pub record Halts (Form : List ℕ → Type 0) (text : List ℕ) (at : ℕ) : Type 0 where
  pub reach : Reaches Form text at
  pub none : Form text → ⊥
