-- What is found among rising entries.
use Rattle.std.proofs.Common.{◌≡◌, ◌≢◌, ◌⊎◌, ◌+◌, ◌-◌, ◌<◌, ◌≤◌, ℕ, zero, suc, Bool, false, cond, List, [], ◌∷◌, ◌++◌, length, get_or, Some, None, Result, Ok, Err, IfOk, IfErr, refl, sym, ap, ◌∙◌, arith, inl, inr, slice_get, take}
use Rattle.std.specs.List.{AllByRecursion, HoldsAt, find}
use Rattle.std.specs.List.Sorted.{IsStrictlySortedBy, IsSearchInRange, IsBinarySearchResult, IsNonDecreasingBy, IsPartitionPoint}
use Rattle.std.specs.Ordering.{is_eq, ordering_index}
use Rattle.std.specs.declared.cmp.Ordering.{Ordering}
use Rattle.std.specs.declared.cmp.Ordering.TheVariants.{Less, Equal, Greater}
use Rattle.std.proofs.lemmas.Bool.{cases_lt}
use Rattle.std.proofs.lemmas.Cmp.{alike_right}
use Rattle.std.proofs.lemmas.Option.{none-some, same_Some, slice_get_within, slice_get-get_or}
use Rattle.std.proofs.lemmas.List.{take_more, take_all}
use Rattle.cred_store.specs.Keys.{Key, key_of, key_cmp, entry_cmp, IsRising}
use Rattle.cred_store.specs.declared.entry.Entry.{Entry}
use Rattle.cred_store.proofs.Order.{keys_total}

-- whether an entry has the key
abbrev pub has_key : Key → Entry → Bool
has_key k e = is_eq (key_cmp (key_of e) k)

-- an element by its place
pub all_at : (P : Entry → Type 0) (xs : List Entry) (i : ℕ) (d : Entry) → i < length xs → AllByRecursion P xs → P (get_or xs i d)
all_at P [] i d lt h = absurd (omega arith)
all_at P (x ∷ xs) zero d lt h = h.0
all_at P (x ∷ xs) (suc i) d lt h = all_at P xs i d (omega arith) h.1

-- an entry below one of the key is below the key
below_key : (k : Key) (x y : Entry) → entry_cmp x y ≡ Less → key_cmp (key_of y) k ≡ Equal → key_cmp (key_of x) k ≡ Less
below_key k x y below here = sym (alike_right keys_total (key_of y) k (key_of x) here) ∙ below

pub find_there : (k : Key) (xs : List Entry) (i : ℕ) (d : Entry) → IsRising xs → i < length xs → key_cmp (key_of (get_or xs i d)) k ≡ Equal →
    find (has_key k) xs ≡ Some (get_or xs i d)
unfolding IsStrictlySortedBy
find_there k [] i d up lt here = absurd (omega arith)
find_there k (x ∷ xs) zero d up lt here = ap (λ (o : Ordering). cond (is_eq o) (Some x) (find (has_key k) xs)) here
find_there k (x ∷ xs) (suc i) d up lt here =
    let below = below_key k x (get_or xs i d) (all_at (λ y. entry_cmp x y ≡ Less) xs i d (omega arith) up.0) here in
    ap (λ (o : Ordering). cond (is_eq o) (Some x) (find (has_key k) xs)) below ∙ find_there k xs i d up.1 (omega arith) here

pub find_none : (k : Key) (xs : List Entry) → ((i : ℕ) (d : Entry) → i < length xs → key_cmp (key_of (get_or xs i d)) k ≢ Equal) → find (has_key k) xs ≡ None
find_none k [] other = refl
find_none k (x ∷ xs) other =
    ap (λ (b : Bool). cond b (Some x) (find (has_key k) xs)) (by (key_cmp (key_of x) k) (other 0 x (omega arith)))
    ∙ find_none k xs (λ i d lt. other (suc i) d (omega arith))
  where
    by : (o : Ordering) → o ≢ Equal → is_eq o ≡ false
    by Less unlike = refl
    by Equal unlike = absurd (unlike refl)
    by Greater unlike = refl

-- every entry stands below the place or above it
pub find_free : (k : Key) (xs : List Entry) (at : ℕ) → IsPartitionPoint (λ e. key_cmp (key_of e) k ≡ Less) (λ e. key_cmp (key_of e) k ≡ Greater) xs at →
    find (has_key k) xs ≡ None
find_free k xs at parted = find_none k xs (λ i d lt same. by i d lt same (cases_lt i at))
  where
    by : (i : ℕ) (d : Entry) → i < length xs → key_cmp (key_of (get_or xs i d)) k ≡ Equal → (i < at) ⊎ (at ≤ i) → ⊥
    by i d lt same (inl before) = let below = parted.0 i d (omega arith) before in cc
    by i d lt same (inr behind) = let above = parted.1 i d behind lt in cc

-- tests that answer alike find alike
pub find_alike : (p q : Entry → Bool) → ((e : Entry) → p e ≡ q e) → (xs : List Entry) → find p xs ≡ find q xs
find_alike p q same xs = ap (λ (test : Entry → Bool). find test xs) (λ i e. same e i)

-- ---- a binary search

least : (p o : Ordering) → p ≡ Less → ordering_index p ≤ ordering_index o
least p o is = omega (arith, ap ordering_index is)

most : (p : Ordering) → ordering_index p ≤ ordering_index Greater
most Less = omega arith
most Equal = omega arith
most Greater = omega arith

-- the comparisons with a key rise
index_rises : (k : Key) (x y : Entry) → entry_cmp x y ≡ Less → ordering_index (key_cmp (key_of x) k) ≤ ordering_index (key_cmp (key_of y) k)
index_rises k x y below = by (key_cmp (key_of y) k) refl (key_cmp (key_of x) k) refl
  where
    by : (o : Ordering) → key_cmp (key_of y) k ≡ o → (p : Ordering) → key_cmp (key_of x) k ≡ p → ordering_index p ≤ ordering_index o
    by Less e p f = least p Less (sym f ∙ keys_total.trans (key_of x) (key_of y) k below e)
    by Equal e p f = least p Equal (sym f ∙ below_key k x y below e)
    by Greater e p f = most p

comparisons_rise : (k : Key) (xs : List Entry) → IsRising xs → IsNonDecreasingBy (λ e. ordering_index (key_cmp (key_of e) k)) xs
unfolding IsStrictlySortedBy
comparisons_rise k [] up i j d le lt = absurd (omega arith)
comparisons_rise k (x ∷ xs) up zero zero d le lt = omega arith
comparisons_rise k (x ∷ xs) up zero (suc j) d le lt = index_rises k x (get_or xs j d) (all_at (λ y. entry_cmp x y ≡ Less) xs j d (omega arith) up.0)
comparisons_rise k (x ∷ xs) up (suc i) zero d le lt = absurd (omega arith)
comparisons_rise k (x ∷ xs) up (suc i) (suc j) d le lt = comparisons_rise k xs up.1 i j d (omega arith) (omega arith)

pub searched : (k : Key) (xs : List Entry) → IsRising xs → (r : Result ℕ ℕ) → IsSearchInRange r (length xs) → IsBinarySearchResult (λ e. key_cmp (key_of e) k) xs r →
    IfOk r (HoldsAt (λ e. key_cmp (key_of e) k ≡ Equal) xs) × IfErr r (IsPartitionPoint (λ e. key_cmp (key_of e) k ≡ Less) (λ e. key_cmp (key_of e) k ≡ Greater) xs)
searched k xs up (Ok at) within found = (found, tt)
searched k xs up (Err at) within parted = (tt, parted (comparisons_rise k xs up))

-- ---- the last entry

pub no_last : (xs : List Entry) → slice_get xs (length xs - 1) ≡ None → xs ≡ []
no_last [] e = refl
no_last (x ∷ xs) e = absurd (none-some _ (sym e ∙ slice_get-get_or (x ∷ xs) (length (x ∷ xs) - 1) x (omega arith)))

pub last_is : (xs : List Entry) (l : Entry) → slice_get xs (length xs - 1) ≡ Some l → (front : List Entry) × (xs ≡ front ++ l ∷ [])
last_is xs l e =
    let within = slice_get_within xs (length xs - 1) l e in
    let same : get_or xs (length xs - 1) l ≡ l = same_Some _ _ (sym (slice_get-get_or xs (length xs - 1) l within) ∙ e) in
    let whole : xs ≡ take (length xs - 1 + 1) xs = sym (take_all (length xs - 1 + 1) xs (omega arith)) in
    (take (length xs - 1) xs, whole ∙ take_more xs (length xs - 1) l within ∙ ap (λ (v : Entry). take (length xs - 1) xs ++ v ∷ []) same)
