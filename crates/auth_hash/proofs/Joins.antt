-- Texts joined by colons, with one more at the end.
use Rattle.std.proofs.Common.{◌≡◌, ℕ, ◌+◌, ◌<◌, ◌≤◌, List, [], ◌∷◌, ◌++◌, length, map, take, get_or, refl, ap, sym, ◌∙◌, arith, append_assoc, zero, suc}
use Rattle.std.proofs.lemmas.List.{map_more, length-map, length-take}
use Rattle.auth_hash.specs.Hash.{joined}

-- a text after others stands behind a colon
joined-snoc : (first : List ℕ) (texts : List (List ℕ)) (text : List ℕ)
    → joined ((first ∷ texts) ++ text ∷ []) ≡ (joined (first ∷ texts) ++ 58 ∷ []) ++ text
joined-snoc first [] text = sym (append_assoc first (58 ∷ []) text)
joined-snoc first (next ∷ texts) text =
    let whole : joined (next ∷ texts ++ text ∷ []) ≡ (joined (next ∷ texts) ++ 58 ∷ []) ++ text = joined-snoc next texts text in
    ap (λ (t : List ℕ). first ++ (58 ∷ t)) whole ∙ sym (simp append_assoc)

-- a list that is not empty has a first text
joined_after : (texts : List (List ℕ)) (text : List ℕ) → 0 < length texts
    → (joined texts ++ 58 ∷ []) ++ text ≡ joined (texts ++ text ∷ [])
joined_after [] text some = absurd (omega arith)
joined_after (first ∷ texts) text some = sym (joined-snoc first texts text)

module _ {X : Type 0} (f : X → List ℕ) (xs : List X) (d : X) where
  -- the text at a later place
  pub joined_next : (i : ℕ) → i < length xs → 0 < i
      → (joined (map f (take i xs)) ++ 58 ∷ []) ++ f (get_or xs i d) ≡ joined (map f (take (i + 1) xs))
  joined_next i below later = rw (map_more f xs i d below) (joined_after (map f (take i xs)) (f (get_or xs i d)) (simp (length-map, length-take) (omega arith)))

  -- the text at the first place
  pub joined_first : (i : ℕ) → i < length xs → i ≤ 0
      → joined (map f (take i xs)) ++ f (get_or xs i d) ≡ joined (map f (take (i + 1) xs))
  joined_first zero below first = rw (map_more f xs 0 d below) refl
  joined_first (suc i) below first = absurd (omega arith)
