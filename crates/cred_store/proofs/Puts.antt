-- What putting entries in leaves.
use Rattle.std.proofs.Common.{◌≡◌, ◌+◌, ◌<◌, ◌≤◌, ℕ, zero, suc, not, List, [], ◌∷◌, ◌++◌, length, get_or, set, All, refl, sym, ap, ◌∙◌, arith}
use Rattle.std.specs.List.{AllByRecursion, HoldsAt, insert}
use Rattle.std.specs.List.Sorted.{IsStrictlySortedBy, IsPartitionPoint}
use Rattle.std.specs.Ordering.{ordering_reverse}
use Rattle.std.specs.declared.cmp.Ordering.{Ordering}
use Rattle.std.specs.declared.cmp.Ordering.TheVariants.{Less, Equal, Greater}
use Rattle.std.proofs.lemmas.Cmp.{alike_right}
use Rattle.std.proofs.lemmas.List.Elements.{All-cons, All-filter, All-head, All-tail}
use Rattle.std.proofs.lemmas.List.Kept.{IsStrictlySortedBy-filter}
use Rattle.cred_store.specs.Changes.{by_order, put, put_all, without}
use Rattle.cred_store.specs.Keys.{IsRising, entry_cmp}
use Rattle.cred_store.specs.LookUps.{is_of}
use Rattle.cred_store.specs.Texts.{IsEntry, IsStore}
use Rattle.cred_store.specs.declared.entry.Entry.{Entry}
use Rattle.cred_store.specs.declared.version.Version.TheVariants.{Two}
use Rattle.cred_store.proofs.Order.{entries_total}
use Rattle.cred_store.proofs.Searches.{all_at}

module _ (e : Entry) where
  -- the answer of the comparison decides
  at_order : (x : Entry) (xs : List Entry) (o : Ordering) → entry_cmp x e ≡ o → put e (x ∷ xs) ≡ by_order o (x ∷ put e xs) (e ∷ xs) (e ∷ x ∷ xs)
  at_order x xs o is = ap (λ (v : Ordering). by_order v (x ∷ put e xs) (e ∷ xs) (e ∷ x ∷ xs)) is

  -- ---- the edits that put an entry in

  pub put_free : (xs : List Entry) (at : ℕ) → at ≤ length xs → IsPartitionPoint (λ y. entry_cmp y e ≡ Less) (λ y. entry_cmp y e ≡ Greater) xs at → put e xs ≡ insert xs at e
  put_free [] zero le parted = refl
  put_free [] (suc at) le parted = absurd (omega arith)
  put_free (x ∷ xs) zero le parted = at_order x xs Greater (parted.1 0 x (omega arith) (omega arith))
  put_free (x ∷ xs) (suc at) le parted =
      at_order x xs Less (parted.0 0 x (omega arith) (omega arith))
      ∙ ap (λ (l : List Entry). x ∷ l) (put_free xs at (omega arith)
      (λ k d low high. parted.0 (suc k) d (omega arith) (omega arith), λ k d low high. parted.1 (suc k) d (omega arith) (omega arith)))

  pub put_there : (xs : List Entry) (at : ℕ) → at < length xs → IsRising xs → HoldsAt (λ y. entry_cmp y e ≡ Equal) xs at → put e xs ≡ set xs at e
  unfolding IsStrictlySortedBy
  put_there [] at lt up here = absurd (omega arith)
  put_there (x ∷ xs) zero lt up here = at_order x xs Equal (here x)
  put_there (x ∷ xs) (suc at) lt up here =
      let below = all_at (λ y. entry_cmp x y ≡ Less) xs at x (omega arith) up.0 in
      at_order x xs Less (sym (alike_right entries_total (get_or xs at x) e x (here x)) ∙ below)
      ∙ ap (λ (l : List Entry). x ∷ l) (put_there xs at (omega arith) up.1 here)

  -- ---- what stays

  all_put : (P : Entry → Type 0) (xs : List Entry) → P e → AllByRecursion P xs → AllByRecursion P (put e xs)
  all_put P [] p h = (p, tt)
  all_put P (x ∷ xs) p h = by (entry_cmp x e) (all_put P xs p h.1)
    where
      by : (o : Ordering) → AllByRecursion P (put e xs) → AllByRecursion P (by_order o (x ∷ put e xs) (e ∷ xs) (e ∷ x ∷ xs))
      by Less more = (h.0, more)
      by Equal more = (p, h.1)
      by Greater more = (p, h)

  pub each_put : (xs : List Entry) → IsEntry Two e → All (IsEntry Two) xs → All (IsEntry Two) (put e xs)
  each_put [] p h = All-cons (IsEntry Two) e [] p h
  each_put (x ∷ xs) p h = by (entry_cmp x e) (each_put xs p (All-tail (IsEntry Two) x xs h))
    where
      by : (o : Ordering) → All (IsEntry Two) (put e xs) → All (IsEntry Two) (by_order o (x ∷ put e xs) (e ∷ xs) (e ∷ x ∷ xs))
      by Less more = All-cons (IsEntry Two) x (put e xs) (All-head (IsEntry Two) x xs h) more
      by Equal more = All-cons (IsEntry Two) e xs p (All-tail (IsEntry Two) x xs h)
      by Greater more = All-cons (IsEntry Two) e (x ∷ xs) p h

  pub length_put : (xs : List Entry) → length (put e xs) ≤ length xs + 1
  length_put [] = omega arith
  length_put (x ∷ xs) = by (entry_cmp x e) (length_put xs)
    where
      by : (o : Ordering) → length (put e xs) ≤ length xs + 1 → length (by_order o (x ∷ put e xs) (e ∷ xs) (e ∷ x ∷ xs)) ≤ length (x ∷ xs) + 1
      by Less more = omega arith
      by Equal more = omega arith
      by Greater more = omega arith

  all_below : (x : Entry) (xs : List Entry) → ((y : Entry) → entry_cmp x y ≡ Less → entry_cmp e y ≡ Less) → AllByRecursion (λ y. entry_cmp x y ≡ Less) xs → AllByRecursion (λ y. entry_cmp e y ≡ Less) xs
  all_below x [] f h = tt
  all_below x (y ∷ xs) f h = (f y h.0, all_below x xs f h.1)

  pub rising_put : (xs : List Entry) → IsRising xs → IsRising (put e xs)
  unfolding IsStrictlySortedBy
  rising_put [] up = (tt, tt)
  rising_put (x ∷ xs) up = by (entry_cmp x e) refl (rising_put xs up.1)
    where
      by : (o : Ordering) → entry_cmp x e ≡ o → IsRising (put e xs) → IsRising (by_order o (x ∷ put e xs) (e ∷ xs) (e ∷ x ∷ xs))
      by Less is more = (all_put (λ y. entry_cmp x y ≡ Less) xs is up.0, more)
      by Equal is more = (all_below x xs (λ y h. sym (entries_total.congr x e y is) ∙ h) up.0, up.1)
      by Greater is more =
          let below : entry_cmp e x ≡ Less = entries_total.antisymm e x ∙ ap ordering_reverse is in
          ((below, all_below x xs (λ y h. entries_total.trans e x y below h) up.0), up)

-- ---- many entries

pub put_all_more : (more : List Entry) (e : Entry) (xs : List Entry) → put_all (more ++ e ∷ []) xs ≡ put_all more (put e xs)
put_all_more [] e xs = refl
put_all_more (x ∷ more) e xs = ap (put x) (put_all_more more e xs)

pub each_put_all : (more xs : List Entry) → All (IsEntry Two) more → All (IsEntry Two) xs → All (IsEntry Two) (put_all more xs)
each_put_all [] xs p h = h
each_put_all (x ∷ more) xs p h = each_put x (put_all more xs) (All-head (IsEntry Two) x more p) (each_put_all more xs (All-tail (IsEntry Two) x more p) h)

pub rising_put_all : (more xs : List Entry) → IsRising xs → IsRising (put_all more xs)
rising_put_all [] xs up = up
rising_put_all (x ∷ more) xs up = rising_put x (put_all more xs) (rising_put_all more xs up)

pub length_put_all : (more xs : List Entry) → length (put_all more xs) ≤ length more + length xs
length_put_all [] xs = omega arith
length_put_all (x ∷ more) xs = omega (arith, length_put x (put_all more xs), length_put_all more xs)

-- ---- stores

pub put_store : (e : Entry) (xs : List Entry) → IsEntry Two e → IsStore Two xs → IsStore Two (put e xs)
put_store e xs p h = record { each = each_put e xs p h.each; rising = rising_put e xs h.rising }

pub put_all_store : (more xs : List Entry) → All (IsEntry Two) more → IsStore Two xs → IsStore Two (put_all more xs)
put_all_store more xs p h = record { each = each_put_all more xs p h.each; rising = rising_put_all more xs h.rising }

pub without_store : (name realm : List ℕ) (xs : List Entry) → IsStore Two xs → IsStore Two (without name realm xs)
without_store name realm xs h = record {
  each = All-filter (λ e. not (is_of name realm e)) (IsEntry Two) xs h.each;
  rising = IsStrictlySortedBy-filter entry_cmp (λ e. not (is_of name realm e)) xs h.rising;
}
