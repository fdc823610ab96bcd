-- Tests of all the bytes of a list.
use Rattle.std.proofs.Common.{◌≡◌, ◌≢◌, ◌==◌, ◌&&◌, ◌||◌, ℕ, Bool, true, false, List, [], ◌∷◌, ◌++◌, refl, ◌⊎◌, inl, inr}
use Rattle.std.specs.List.{list_all}
use Rattle.std.proofs.lemmas.Bool.Decides.{Decides-eqb}
use Rattle.scram_text.specs.Bytes.{some_of}

-- two tests that pass together pass each
pub both : (a b : Bool) → (a && b) ≡ true → (a ≡ true) × (b ≡ true)
both true b passed = (refl, passed)
both false b passed = cc

-- two tests that fail together fail each
pub neither : (a b : Bool) → (a || b) ≡ false → (a ≡ false) × (b ≡ false)
neither true b failed = cc
neither false b failed = (refl, failed)

pub list_all-append : (test : ℕ → Bool) (xs ys : List ℕ) → list_all test xs ≡ true → list_all test ys ≡ true → list_all test (xs ++ ys) ≡ true
list_all-append test [] ys front back = back
list_all-append test (x ∷ xs) ys front back =
    let parts = both (test x) (list_all test xs) front in
    rw (parts.0, list_all-append test xs ys parts.1 back) refl

pub list_all-split : (test : ℕ → Bool) (xs ys : List ℕ) → list_all test (xs ++ ys) ≡ true → (list_all test xs ≡ true) × (list_all test ys ≡ true)
list_all-split test [] ys all = (refl, all)
list_all-split test (x ∷ xs) ys all =
    let parts = both (test x) (list_all test (xs ++ ys)) all in
    let rest = list_all-split test xs ys parts.1 in
    (rw (parts.0, rest.0) refl, rest.1)

-- a run passes everywhere
pub some_all : (test : ℕ → Bool) (xs : List ℕ) → some_of test xs ≡ true → list_all test xs ≡ true
some_all test [] some = cc
some_all test (x ∷ xs) some = some

-- and so does a list with one more at its end
pub some_snoc : (test : ℕ → Bool) (xs : List ℕ) (y : ℕ) → list_all test xs ≡ true → test y ≡ true → some_of test (xs ++ y ∷ []) ≡ true
some_snoc test [] y front last = rw last refl
some_snoc test (x ∷ xs) y front last = list_all-append test (x ∷ xs) (y ∷ []) front (rw last refl)

-- a number is another one or not
pub same_or_not : (a b : ℕ) → ((a ≡ b) × ((a == b) ≡ true)) ⊎ ((a ≢ b) × ((a == b) ≡ false))
same_or_not a b = elim (a == b) as (λ t. (a == b) ≡ t → ((a ≡ b) × ((a == b) ≡ true)) ⊎ ((a ≢ b) × ((a == b) ≡ false))) [
  | true ↦ λ e. inl ((Decides-eqb a b).0 e, e)
  | false ↦ λ e. inr (λ same. let t = (Decides-eqb a b).1 same in cc, e)
] refl
