-- Answers that are given one by one, of which the last comes again without end.
use Rattle.std.specs.Prelude.{◌≡◌, ℕ, zero, suc, ◌-◌, min, List, [], ◌∷◌, ◌++◌, length, drop, slice_index_or, Option, Some, None, ⊤}

-- what is still to come once the first of it was given
abbrev pub after_first : {A : Type 0} → List A → List A
after_first [] = []
after_first (x ∷ []) = x ∷ []
after_first (x ∷ y ∷ xs) = y ∷ xs

-- An answer is the first of what is to come, or the default where nothing is.
abbrev pub GivesFirst : {A : Type 0} → A → Option (List A) → Option (List A) → A → Type 0
GivesFirst default None new answer = ⊤
GivesFirst default (Some coming) new answer = (answer ≡ slice_index_or coming 0 default) × (new ≡ Some (after_first coming))

-- of a list, what is still to come after that many answers
abbrev pub coming_after : {A : Type 0} → List A → ℕ → List A
coming_after xs n = drop (min n (length xs - 1)) xs

-- of a list, the answer after that many
abbrev pub given_at : {A : Type 0} → A → List A → ℕ → A
given_at default xs n = slice_index_or xs (min n (length xs - 1)) default

-- of a list, the first answers
abbrev pub given_first : {A : Type 0} → A → List A → ℕ → List A
given_first default xs zero = []
given_first default xs (suc n) = given_first default xs n ++ given_at default xs n ∷ []
