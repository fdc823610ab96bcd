-- The meaning of a reader's state: which texts go on from it, and what they spell.
use Rattle.std.specs.Prelude.{◌≡◌, ℕ, Bool, List, [], ◌∷◌, ◌++◌, length}
use Rattle.auth_grammar.specs.declared.kept.Kept.{Kept}
use Rattle.auth_grammar.specs.declared.position.Position.{Position}
use Rattle.auth_grammar.specs.Grammar.{Splits, Spot, Text, spots}
use Rattle.auth_grammar.specs.declared.elements.Element.{Element}
use Rattle.auth_grammar.specs.Readings.{Allowed, Reading, AnyMeans}
use Rattle.auth_grammar.specs.Readings.Reading.{Start}
use Rattle.auth_grammar.specs.Positions.{readings}

-- how a list of elements is collected
pub record Rules : Type 1 where
  -- what was collected so far
  pub Made : Type 0
  -- what a whole list makes
  pub X : Type 0
  -- nothing yet
  pub begun : Made
  -- whether a parameter may come
  pub params : Made → Bool
  -- whether a scheme may come
  pub schemes : Made → Bool
  -- one element more
  pub add : Made → Element → Made
  -- what was collected, and then these elements, make x
  pub Goes : Made → List Element → X → Type 0

-- the text goes on with an element that was begun
abbrev pub Resumes : List Reading → Text → List Element → Type 0
Resumes rs text [] = ⊥
Resumes rs text (e ∷ []) = AnyMeans e rs text
Resumes rs text (e ∷ f ∷ es) =
    (front : Text) × (comma : Spot) × (back : Text) × (text ≡ front ++ comma ∷ back) × (comma.byte ≡ 44)
    × AnyMeans e rs front × Splits back (f ∷ es)

module _ (R : Rules) where
  -- the readings of an element that is about to begin
  abbrev pub fresh : R.Made → List Reading
  fresh g = Start (R.params g) (R.schemes g) ∷ []

  -- a text spells what its elements make
  abbrev pub Spelled : R.Made → Text → R.X → Type 0
  Spelled g text x = (es : List Element) × Splits text es × R.Goes g es x

  -- what is left makes x of what was made and of an element that was begun
  abbrev pub Lives : R.Made → List Reading → Text → R.X → Type 0
  Lives g rs text x = (es : List Element) × Resumes rs text es × R.Goes g es x

  -- the readings are of elements that may come
  abbrev pub Fit : R.Made → List Reading → Type 0
  Fit g rs = (e : Element) (text : Text) → AnyMeans e rs text → Allowed (R.params g) (R.schemes g) e

  -- a reader's state after these bytes: what a text that goes on so spells is what the state makes of the rest
  pub record Follows (g : R.Made) (p : Position) (w : Kept) (fed : List ℕ) : Type 0 where
    pub lives : (rest : List ℕ) (x : R.X) → Spelled R.begun (spots 0 (fed ++ rest)) x
        → Lives g (readings (R.params g) (R.schemes g) p w) (spots (length fed) rest) x
    pub spells : (rest : List ℕ) (x : R.X) → Lives g (readings (R.params g) (R.schemes g) p w) (spots (length fed) rest) x
        → Spelled R.begun (spots 0 (fed ++ rest)) x
    pub fits : Fit g (readings (R.params g) (R.schemes g) p w)
