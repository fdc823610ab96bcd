-- What giving entries a flag leaves.
use Rattle.std.proofs.Common.{◌≡◌, ◌<◌, ℕ, zero, suc, Bool, true, false, cond, if◌then◌else◌, List, [], ◌∷◌, ◌++◌, length, get_or, set, map, take, drop, All, count_by, refl, ap, ◌∙◌, arith}
use Rattle.std.specs.List.{AllByRecursion}
use Rattle.std.specs.List.Sorted.{IsStrictlySortedBy}
use Rattle.std.specs.declared.cmp.Ordering.TheVariants.{Less}
use Rattle.std.proofs.lemmas.List.Elements.{All-cons, All-head, All-nil, All-tail}
use Rattle.std.proofs.lemmas.List.Sums.{sum_by-cons}
use Rattle.cred_store.specs.Changes.{flagged, switched, with_flag}
use Rattle.cred_store.specs.Keys.{IsRising, entry_cmp}
use Rattle.cred_store.specs.LookUps.{is_of}
use Rattle.cred_store.specs.Texts.{IsEntry, IsStore}
use Rattle.cred_store.specs.declared.entry.Entry.{Entry}
use Rattle.cred_store.specs.declared.version.Version.TheVariants.{Two}

module _ (f : Entry → Entry) where
  -- the first so many changed
  abbrev pub front : ℕ → List Entry → List Entry
  front i xs = map f (take i xs) ++ drop i xs

  pub front_next : (xs : List Entry) (i : ℕ) (d : Entry) → i < length xs → set (front i xs) i (f (get_or (front i xs) i d)) ≡ front (suc i) xs
  front_next [] i d lt = absurd (omega arith)
  front_next (x ∷ xs) zero d lt = refl
  front_next (x ∷ xs) (suc i) d lt = ap (λ (l : List Entry). f x ∷ l) (front_next xs i d (omega arith))

  pub front_all : (xs : List Entry) → front (length xs) xs ≡ map f xs
  front_all [] = refl
  front_all (x ∷ xs) = ap (λ (l : List Entry). f x ∷ l) (front_all xs)

module _ (name realm : List ℕ) (on : Bool) where
  abbrev new : Entry → Entry
  new x = switched name realm on x

  -- what a flag is no part of
  stays : {V : Type 0} (f : Entry → V) (x : Entry) → f (flagged on x) ≡ f x → f (new x) ≡ f x
  stays f x same = by (is_of name realm x)
    where
      by : (b : Bool) → f (if b then flagged on x else x) ≡ f x
      by true = same
      by false = refl

  new_entry : (x : Entry) → IsEntry Two x → IsEntry Two (new x)
  new_entry x h = by (is_of name realm x)
    where
      by : (b : Bool) → IsEntry Two (if b then flagged on x else x)
      by true = record { name = h.name; realm = h.realm; secret = h.secret; flag = tt }
      by false = h

  new_entries : (xs : List Entry) → All (IsEntry Two) xs → All (IsEntry Two) (with_flag name realm on xs)
  new_entries [] h = All-nil (IsEntry Two)
  new_entries (x ∷ xs) h =
      All-cons (IsEntry Two) (new x) (with_flag name realm on xs) (new_entry x (All-head (IsEntry Two) x xs h)) (new_entries xs (All-tail (IsEntry Two) x xs h))

  same_cmp : (x y : Entry) → entry_cmp (new x) (new y) ≡ entry_cmp x y
  same_cmp x y = stays (λ (e : Entry). entry_cmp e (new y)) x refl ∙ stays (λ (e : Entry). entry_cmp x e) y refl

  below : (x : Entry) (xs : List Entry) → AllByRecursion (λ y. entry_cmp x y ≡ Less) xs → AllByRecursion (λ y. entry_cmp (new x) y ≡ Less) (with_flag name realm on xs)
  below x [] h = tt
  below x (y ∷ xs) h = (same_cmp x y ∙ h.0, below x xs h.1)

  rises : (xs : List Entry) → IsRising xs → IsRising (with_flag name realm on xs)
  unfolding IsStrictlySortedBy
  rises [] up = tt
  rises (x ∷ xs) up = (below x xs up.0, rises xs up.1)

  pub flag_store : (xs : List Entry) → IsStore Two xs → IsStore Two (with_flag name realm on xs)
  flag_store xs h = record { each = new_entries xs h.each; rising = rises xs h.rising }

  pub flag_length : (xs : List Entry) → length (with_flag name realm on xs) ≡ length xs
  flag_length [] = refl
  flag_length (x ∷ xs) = ap (λ (n : ℕ). suc n) (flag_length xs)

  abbrev one_if : Bool → ℕ
  one_if b = cond b 1 0

  pub flag_count : (xs : List Entry) → count_by (is_of name realm) (with_flag name realm on xs) ≡ count_by (is_of name realm) xs
  flag_count [] = refl
  flag_count (x ∷ xs) =
      omega (
        arith,
        sum_by-cons (λ (e : Entry). cond (is_of name realm e) 1 0) (new x) (with_flag name realm on xs),
        sum_by-cons (λ (e : Entry). cond (is_of name realm e) 1 0) x xs,
        ap one_if (stays (is_of name realm) x refl),
        flag_count xs,
      )
