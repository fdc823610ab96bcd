-- Two lists beside each other.
use Rattle.std.proofs.Common.{◌≡◌, ◌<◌, ℕ, List, [], ◌∷◌, ◌++◌, length, map, take, get_or, refl, sym, ap, ◌∙◌, append_assoc, arith}
use Rattle.std.proofs.lemmas.List.{get_or-map, map-append}

-- the part of an element at a place
pub part_at : {X Y : Type 0} (f : X → Y) (xs : List X) (ys : List Y) (k : ℕ) (d : X) (e : Y) → map f xs ≡ ys → k < length xs → f (get_or xs k d) ≡ get_or ys k e
part_at {X} {Y} f xs ys k d e is h = sym (get_or-map f xs k d e h) ∙ ap (λ (l : List Y). get_or l k e) is

take_length : {X : Type 0} (xs ys : List X) → take (length xs) (xs ++ ys) ≡ xs
take_length [] ys = refl
take_length {X} (x ∷ xs) ys = ap (λ (l : List X). x ∷ l) (take_length xs ys)

-- what was lent as a slice is the whole list
pub whole_slice : {X : Type 0} (n : ℕ) (xs ys : List X) → n ≡ length xs → xs ≡ take n (xs ++ ys)
whole_slice n xs ys is = sym (ap (λ (i : ℕ). take i (xs ++ ys)) is ∙ take_length xs ys)

-- one of a list that has some
pub some_of : {X : Type 0} (xs : List X) (k : ℕ) → k < length xs → X
some_of [] k h = absurd (omega (arith, h))
some_of (x ∷ xs) k h = x

-- one element more, whose part is the next one
pub pushed : {X Y : Type 0} (f : X → Y) (xs xs' : List X) (x : X) (y : Y) (rest rest' all : List Y) → xs' ≡ xs ++ x ∷ [] → f x ≡ y → rest ≡ y ∷ rest' → map f xs ++ rest ≡ all → map f xs' ++ rest' ≡ all
pushed {X} {Y} f xs xs' x y rest rest' all p q r s =
    ap (λ (l : List X). map f l ++ rest') p
    ∙ ap (λ (l : List Y). l ++ rest') (map-append f xs (x ∷ []))
    ∙ append_assoc (map f xs) (f x ∷ []) rest'
    ∙ ap (λ (z : Y). map f xs ++ (z ∷ rest')) q
    ∙ ap (λ (l : List Y). map f xs ++ l) (sym r)
    ∙ s
