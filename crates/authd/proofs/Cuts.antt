-- The lines of a text, one after the other.
use Rattle.std.proofs.Common.{◌≡◌, ◌==◌, ◌||◌, ◌<◌, Bool, true, false, ℕ, List, [], ◌∷◌, ◌++◌, length, refl, ◌∙◌, ap, arith}
use Rattle.std.proofs.lemmas.Bool.Decides.{nat_tests}
use Rattle.std.specs.List.{All, list_any, slice_split}
use Rattle.std.specs.Str.Lines.{lines, lines_of_parts, strip_carriage_return}
use Rattle.std.proofs.lemmas.List.Elements.{All-nil, All-cons}
use Rattle.std.proofs.lemmas.List.Splits.{slice_split_at, slice_split_none, length-slice_split}

or_both : (x y : Bool) → (x || y) ≡ false → (x ≡ false) × (y ≡ false)
or_both true y h = cc
or_both false y h = (refl, h)

none_pass : {X : Type 0} (p : X → Bool) (xs : List X) → list_any p xs ≡ false → All (λ x. p x ≡ false) xs
none_pass p [] h = All-nil (λ x. p x ≡ false)
none_pass p (x ∷ xs) h =
    let both = or_both (p x) (list_any p xs) h in
    All-cons (λ x. p x ≡ false) x xs both.0 (none_pass p xs both.1)

first_of_parts : (x : List ℕ) (parts : List (List ℕ)) → 0 < length parts → lines_of_parts (x ∷ parts) ≡ strip_carriage_return x ∷ lines_of_parts parts
first_of_parts x [] some = absurd (omega arith)
first_of_parts x (y ∷ parts) some = refl

-- the first line, and then those of the rest
pub lines_first : (line rest : List ℕ) → list_any (λ b. b == 10) line ≡ false → lines (line ++ 10 ∷ rest) ≡ strip_carriage_return line ∷ lines rest
lines_first line rest h =
    let p : ℕ → Bool = λ b. b == 10 in
    let cut = slice_split_at p line 10 rest (none_pass p line h) refl in
    ap lines_of_parts cut ∙ first_of_parts line (slice_split p rest) (omega (arith, length-slice_split p rest))

-- whether a text is empty, by its length
pub some_bytes : (text : List ℕ) → (length text == 0) ≡ false → 0 < length text
some_bytes text h = grind (arith, nat_tests)

no_length : (b : ℕ) (text : List ℕ) → (length (b ∷ text) == 0) ≡ true → ⊥
no_length b text h = grind (arith, nat_tests)

-- an empty text has no lines
pub lines_none : (text : List ℕ) → (length text == 0) ≡ true → lines text ≡ []
lines_none [] h = refl
lines_none (b ∷ text) h = absurd (no_length b text h)

one_part : (rest : List ℕ) → (length rest == 0) ≡ false → lines_of_parts (rest ∷ []) ≡ rest ∷ []
one_part rest h = rw h refl

-- the last line, with no line feed
pub lines_last : (rest : List ℕ) → (length rest == 0) ≡ false → list_any (λ b. b == 10) rest ≡ false → lines rest ≡ rest ∷ []
lines_last rest some h =
    let p : ℕ → Bool = λ b. b == 10 in
    ap lines_of_parts (slice_split_none p rest (none_pass p rest h)) ∙ one_part rest some
