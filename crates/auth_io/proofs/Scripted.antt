-- What is given one by one.
use Rattle.std.proofs.Common.{◌≡◌, ℕ, zero, suc, ◌+◌, ◌-◌, ◌^◌, ◌<◌, ◌≤◌, min, List, [], ◌∷◌, ◌++◌, length, drop, get_or, Some, refl, sym, ap, ◌∙◌, arith, length-append}
use Rattle.std.proofs.lemmas.List.{get_or-drop}
use Rattle.std.proofs.Math.Seq.{drop-nil}
use Rattle.auth_io.specs.Scripts.{given_at, given_first, after_first, coming_after, GivesFirst}

pub length-given_first : {A : Type 0} (d : A) (xs : List A) (n : ℕ) → length (given_first d xs n) ≡ n
length-given_first d xs zero = refl
length-given_first d xs (suc n) = length-append (given_first d xs n) (given_at d xs n ∷ []) ∙ (let below : length (given_first d xs n) ≡ n = length-given_first d xs n in omega arith)

-- one more answer was given, where the count has not reached its type's end
pub given_next : {A : Type 0} (d : A) (xs : List A) (n m : ℕ) (x : A) → m ≡ min (n + 1) (2 ^ 64 - 1) → x ≡ given_at d xs n →
    length (given_first d xs n) + 1 < 2 ^ 64 → given_first d xs m ≡ given_first d xs n ++ x ∷ []
given_next d xs n m x next is room =
    let size : length (given_first d xs n) ≡ n = length-given_first d xs n in
    let up : m ≡ suc n = omega arith in
    ap (λ (k : ℕ). given_first d xs k) up ∙ ap (λ y. given_first d xs n ++ y ∷ []) (sym is)

-- one more answer goes from what is left, unless it is the last
pub after_first-drop : {A : Type 0} (xs : List A) (k j : ℕ) → k ≤ length xs - 1 → j ≡ min (k + 1) (length xs - 1) → after_first (drop k xs) ≡ drop j xs
after_first-drop [] k j within next = ap after_first (drop-nil k) ∙ sym (drop-nil j)
after_first-drop (x ∷ []) k j within next =
    let none : k ≡ 0 = omega arith in
    let still : j ≡ 0 = omega arith in
    ap (λ (n : ℕ). after_first (drop n (x ∷ []))) none ∙ sym (ap (λ (n : ℕ). drop n (x ∷ [])) still)
after_first-drop (x ∷ y ∷ xs) zero j within next =
    let one : j ≡ 1 = omega arith in
    sym (ap (λ (n : ℕ). drop n (x ∷ y ∷ xs)) one)
after_first-drop (x ∷ y ∷ xs) (suc k) j within next =
    let up : j ≡ suc (j - 1) = omega arith in
    after_first-drop (y ∷ xs) k (j - 1) (omega arith) (omega arith) ∙ sym (ap (λ (n : ℕ). drop n (x ∷ y ∷ xs)) up)

-- an answer is the first of what was to come
pub gives_first : {A : Type 0} (d : A) (xs : List A) (n m : ℕ) (x : A) → length xs < 2 ^ 64 → m ≡ min (n + 1) (2 ^ 64 - 1) → x ≡ given_at d xs n →
    GivesFirst d (Some (coming_after xs n)) (Some (coming_after xs m)) x
gives_first d xs n m x size next is =
    let k = min n (length xs - 1) in
    let here : k + 0 ≡ k = omega arith in (
      is ∙ sym (get_or-drop k xs 0 d ∙ ap (λ (i : ℕ). get_or xs i d) here),
      ap Some (sym (after_first-drop xs k (min m (length xs - 1)) (omega arith) (omega arith))),
    )
