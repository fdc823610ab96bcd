-- A loop that takes the elements of a list one by one.
use Rattle.std.proofs.Common.{◌≡◌, ℕ, zero, suc, ◌+◌, ◌<◌, List, [], ◌∷◌, ◌++◌, drop, length, Some, sym, refl, ap, ◌∙◌, append_assoc, append-nil, length-append, arith}
use Rattle.std.specs.List.{slice_get}

-- of all elements these were taken, and this rest, of so many, is to come
pub record Taken {A : Type 0} (all taken rest : List A) (left : ℕ) : Type 0 where
  pub items : taken ++ rest ≡ all
  pub number : left ≡ length rest

module _ {A : Type 0} where
  pub taken_next : (all taken rest more : List A) (left less : ℕ) (x : A) → Taken all taken rest left → rest ≡ x ∷ more → less + 1 ≡ left → Taken all (taken ++ x ∷ []) more less
  taken_next all taken rest more left less x t e n = record {
    items = append_assoc taken (x ∷ []) more ∙ ap (λ (l : List A). taken ++ l) (sym e) ∙ t.items;
    number = let m = t.number in let k : length rest ≡ length (x ∷ more) = ap length e in omega arith;
  }

  pub taken_all : (all taken rest : List A) (left : ℕ) → Taken all taken rest left → left ≡ 0 → taken ≡ all
  taken_all all taken [] left t z = sym (append-nil taken) ∙ t.items
  taken_all all taken (x ∷ rest) left t z = let m = t.number in absurd (omega arith)

  at_length : (xs : List A) (y : A) (zs : List A) → slice_get (xs ++ y ∷ zs) (length xs) ≡ Some y
  at_length [] y zs = refl
  at_length (x ∷ xs) y zs = at_length xs y zs

  -- the element that is taken now
  pub taken_at : (all taken rest more : List A) (left : ℕ) (x : A) → Taken all taken rest left → rest ≡ x ∷ more → slice_get all (length taken) ≡ Some x
  taken_at all taken rest more left x t e = ap (λ (l : List A). slice_get l (length taken)) (sym t.items ∙ ap (λ (l : List A). taken ++ l) e) ∙ at_length taken x more

  pub taken_few : (all taken rest more : List A) (left : ℕ) (x : A) → Taken all taken rest left → rest ≡ x ∷ more → length taken < length all
  taken_few all taken rest more left x t e =
      let a : length (taken ++ rest) ≡ length all = ap length t.items in
      let b : length rest ≡ length (x ∷ more) = ap length e in
      let c : length (taken ++ rest) ≡ length taken + length rest = length-append taken rest in omega arith

  -- the next element of the rest of a list
  pub next_dropped : (all : List A) (n : ℕ) (x : A) (more : List A) → drop n all ≡ x ∷ more → (slice_get all n ≡ Some x) × (more ≡ drop (suc n) all)
  next_dropped [] zero x more e = absurd (cc)
  next_dropped [] (suc n) x more e = absurd (cc)
  next_dropped (y ∷ ys) zero x more e = let first : y ≡ x = cc in let rest : more ≡ ys = cc in (ap Some first, rest)
  next_dropped (y ∷ ys) (suc n) x more e = next_dropped ys n x more e
