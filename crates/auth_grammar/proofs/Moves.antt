use Rattle.std.proofs.Common.{Bool, true, false, ◌⊎◌, inl, inr, List, [], ◌∷◌, ◌++◌, refl}
use Rattle.auth_grammar.specs.Kinds.{kind_of}
use Rattle.auth_grammar.specs.Grammar.{Spot, Text}
use Rattle.auth_grammar.specs.declared.elements.Element.{Element}
use Rattle.auth_grammar.specs.Readings.{Reading, Means, Guarded, AnyMeans, moves, kept, after}
use Rattle.auth_grammar.specs.Readings.Reading.{Start, InScheme, AfterScheme, InToken68, Padding, InName, AfterName, AfterEquals, InValue, InLoose, LoosePadding, InQuotes, Escaped, Trailing}

-- a reading's meaning moves with each byte, as it computes
pub moved : (e : Element) (b : Spot) (text : Text) (r : Reading) → Means e r (b ∷ text) → Guarded e (moves (kind_of b.byte) b r) text
moved e b text (Start params schemes) h = h
moved e b text (InScheme s) h = h
moved e b text (AfterScheme s) h = h
moved e b text (InToken68 s x) h = h
moved e b text (Padding s x) h = h
moved e b text (InName s at n) h = h
moved e b text (AfterName s at n) h = h
moved e b text (AfterEquals s at n) h = h
moved e b text (InValue s at n v) h = h
moved e b text (InLoose s at n v) h = h
moved e b text (LoosePadding s at n v) h = h
moved e b text (InQuotes s at n v) h = h
moved e b text (Escaped s at n v) h = h
moved e b text (Trailing made) h = h

pub moved_back : (e : Element) (b : Spot) (text : Text) (r : Reading) → Guarded e (moves (kind_of b.byte) b r) text → Means e r (b ∷ text)
moved_back e b text (Start params schemes) h = h
moved_back e b text (InScheme s) h = h
moved_back e b text (AfterScheme s) h = h
moved_back e b text (InToken68 s x) h = h
moved_back e b text (Padding s x) h = h
moved_back e b text (InName s at n) h = h
moved_back e b text (AfterName s at n) h = h
moved_back e b text (AfterEquals s at n) h = h
moved_back e b text (InValue s at n v) h = h
moved_back e b text (InLoose s at n v) h = h
moved_back e b text (LoosePadding s at n v) h = h
moved_back e b text (InQuotes s at n v) h = h
moved_back e b text (Escaped s at n v) h = h
moved_back e b text (Trailing made) h = h

-- a reading that is kept is one whose test says so
pub kept_to : (e : Element) (text : Text) (gs : List (Bool × Reading)) → Guarded e gs text → AnyMeans e (kept gs) text
kept_to e text [] h = h
kept_to e text ((true, r) ∷ gs) (inl h) = inl h.1
kept_to e text ((true, r) ∷ gs) (inr h) = inr (kept_to e text gs h)
kept_to e text ((false, r) ∷ gs) (inl h) = absurd (cc (h.0))
kept_to e text ((false, r) ∷ gs) (inr h) = kept_to e text gs h

pub kept_from : (e : Element) (text : Text) (gs : List (Bool × Reading)) → AnyMeans e (kept gs) text → Guarded e gs text
kept_from e text [] h = h
kept_from e text ((true, r) ∷ gs) (inl h) = inl (refl, h)
kept_from e text ((true, r) ∷ gs) (inr h) = inr (kept_from e text gs h)
kept_from e text ((false, r) ∷ gs) h = inr (kept_from e text gs h)

pub any_left : (e : Element) (text : Text) (rs qs : List Reading) → AnyMeans e rs text → AnyMeans e (rs ++ qs) text
any_left e text [] qs h = absurd h
any_left e text (r ∷ rs) qs (inl h) = inl h
any_left e text (r ∷ rs) qs (inr h) = inr (any_left e text rs qs h)

pub any_right : (e : Element) (text : Text) (rs qs : List Reading) → AnyMeans e qs text → AnyMeans e (rs ++ qs) text
any_right e text [] qs h = h
any_right e text (r ∷ rs) qs h = inr (any_right e text rs qs h)

pub any_split : (e : Element) (text : Text) (rs qs : List Reading) → AnyMeans e (rs ++ qs) text → AnyMeans e rs text ⊎ AnyMeans e qs text
any_split e text [] qs h = inr h
any_split e text (r ∷ rs) qs (inl h) = inl (inl h)
any_split e text (r ∷ rs) qs (inr h) = elim (any_split e text rs qs h) [ inl x ↦ inl (inr x) | inr y ↦ inr y ]

-- the readings after a byte mean of what is left what those before it mean of the whole
pub after_to : (e : Element) (b : Spot) (text : Text) (rs : List Reading) → AnyMeans e rs (b ∷ text) → AnyMeans e (after (kind_of b.byte) b rs) text
after_to e b text [] h = h
after_to e b text (r ∷ rs) (inl h) = any_left e text (kept (moves (kind_of b.byte) b r)) (after (kind_of b.byte) b rs) (kept_to e text (moves (kind_of b.byte) b r) (moved e b text r h))
after_to e b text (r ∷ rs) (inr h) = any_right e text (kept (moves (kind_of b.byte) b r)) (after (kind_of b.byte) b rs) (after_to e b text rs h)

pub after_from : (e : Element) (b : Spot) (text : Text) (rs : List Reading) → AnyMeans e (after (kind_of b.byte) b rs) text → AnyMeans e rs (b ∷ text)
after_from e b text [] h = h
after_from e b text (r ∷ rs) h = elim (any_split e text (kept (moves (kind_of b.byte) b r)) (after (kind_of b.byte) b rs) h) [ inl x ↦ inl (moved_back e b text r (kept_from e text (moves (kind_of b.byte) b r) x)) | inr y ↦ inr (after_from e b text rs y) ]
