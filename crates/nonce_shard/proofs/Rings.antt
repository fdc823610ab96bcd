-- Rings once something more is made, or one of the things is changed.
use Rattle.std.proofs.Common.{◌≡◌, ◌≢◌, ℕ, zero, suc, ◌+◌, ◌-◌, ◌*◌, ◌/◌, ◌%◌, ◌<◌, ◌≤◌, ◌&&◌, Bool, true, false, cond, Option, Some, None, List, [], ◌∷◌, ◌++◌, length, slice_get, slice_set, get_or, refl, sym, ◌∙◌, ap, subst, arith, length-append, nat_lt, ◌⊎◌, inl, inr}
use Rattle.std.proofs.lemmas.Bool.{cases_lt, cases_order}
use Rattle.std.proofs.lemmas.Bool.Decides.{nat_tests}
use Rattle.std.proofs.lemmas.Grind.{common_steps}
use Rattle.std.proofs.lemmas.List.{length-set}
use Rattle.std.proofs.lemmas.Nat.{mod_below}
use Rattle.std.proofs.lemmas.Option.{gets, slice_get_within, slice_get-get_or}
use Rattle.std.proofs.Math.Nat.{div-add-mod, mul-le-mul_left, mul-suc}
use Rattle.nonce_shard.specs.Ring.{place_of, HeldAt, RingHolds}

-- ---- places

pub lt_test : (a b : ℕ) → a < b → nat_lt a b ≡ true
lt_test a b h = grind (arith, nat_tests)

pub lt_true : (a b : ℕ) → nat_lt a b ≡ true → a < b
lt_true a b h = grind (arith, nat_tests)

-- a place is found where the serial was made and few were made since
pub place_found : (serial made size i : ℕ) → place_of serial made size ≡ Some i → (i ≡ serial % size) × (serial < made) × (made - serial - 1 < size)
place_found serial made size i = by (nat_lt serial made) (nat_lt (made - serial - 1) size) refl refl
  where
    by : (below near : Bool) → nat_lt serial made ≡ below → nat_lt (made - serial - 1) size ≡ near → cond {A = Option ℕ} (below && near) (Some (serial % size)) None ≡ Some i
        → (i ≡ serial % size) × (serial < made) × (made - serial - 1 < size)
    by true true p q e = ((let i_is : i ≡ serial % size = cc in i_is), lt_true serial made p, lt_true (made - serial - 1) size q)
    by true false p q e = cc
    by false near p q e = cc

-- two serials that are near have two places
places_differ : (size k j : ℕ) → k < j → j - k < size → (k % size) ≢ (j % size)
places_differ size k j h near e = by (cases_lt (k / size) (j / size))
  where
    by : ((k / size) < (j / size)) ⊎ ((j / size) ≤ (k / size)) → ⊥
    by (inl more) =
        let big : size * suc (k / size) ≤ size * (j / size) = mul-le-mul_left size more in
        let parts : size * suc (k / size) ≡ size * (k / size) + size = mul-suc size (k / size) in
        omega (arith, div-add-mod k size, div-add-mod j size)
    by (inr less) =
        let small : size * (j / size) ≤ size * (k / size) = mul-le-mul_left size less in
        omega (arith, div-add-mod k size, div-add-mod j size)

-- ---- elements

get_set_same : {A : Type 0} (xs : List A) (i : ℕ) (x : A) → i < length xs → slice_get (slice_set xs i x) i ≡ Some x
get_set_same xs i x h = grind (arith, common_steps, gets)

get_set_other : {A : Type 0} (xs : List A) (i j : ℕ) (x : A) → j ≢ i → slice_get (slice_set xs i x) j ≡ slice_get xs j
get_set_other [] i j x h = refl
get_set_other (y ∷ ys) zero zero x h = absurd (h refl)
get_set_other (y ∷ ys) zero (suc j) x h = refl
get_set_other (y ∷ ys) (suc i) zero x h = refl
get_set_other (y ∷ ys) (suc i) (suc j) x h = get_set_other ys i j x (λ e. h (ap suc e))

get_append_front : {A : Type 0} (xs ys : List A) (i : ℕ) → i < length xs → slice_get (xs ++ ys) i ≡ slice_get xs i
get_append_front (x ∷ xs) ys zero h = refl
get_append_front (x ∷ xs) ys (suc i) h = get_append_front xs ys i (omega arith)
get_append_front [] ys i h = absurd (omega arith)

get_append_back : {A : Type 0} (xs : List A) (y : A) → slice_get (xs ++ y ∷ []) (length xs) ≡ Some y
get_append_back xs y = grind (arith, common_steps, gets)

some_same : {A : Type 0} (o : Option A) (x y : A) → o ≡ Some x → o ≡ Some y → x ≡ y
some_same o x y p q = cc

-- ---- the ring

-- what fits a slot may be said otherwise
pub fits_as : {A S : Type 0} (F G : ℕ → A → S → Type 0) (size : ℕ) (made : List A) (slots : List S) → RingHolds F size made slots
    → ((serial : ℕ) (x : A) (slot : S) → F serial x slot → G serial x slot) → RingHolds G size made slots
fits_as F G size made slots ring as_G = record {
  length_is = ring.length_is;
  held = λ serial x at near. let h = ring.held serial x at near in record { slot = h.slot; at = h.at; fits = as_G serial x h.slot h.fits };
}

-- the slot at a place fits what is there
pub fits_at : {A S : Type 0} (F : ℕ → A → S → Type 0) (size : ℕ) (made : List A) (slots : List S) (serial : ℕ) (x : A) (place : ℕ) (slot : S) → RingHolds F size made slots
    → slice_get made serial ≡ Some x → length made - serial - 1 < size → place ≡ serial % size → 0 < size → slot ≡ get_or slots place slot → F serial x slot
fits_at F size made slots serial x place slot ring at near is some read =
    let h = ring.held serial x at near in
    let low : serial % size < size = mod_below serial size some in
    let here : slice_get slots (serial % size) ≡ Some slot = ap (slice_get slots) (sym is) ∙ slice_get-get_or slots place slot (omega (arith, ring.length_is)) ∙ ap Some (sym read) in
    subst (F serial x) (some_same (slice_get slots (serial % size)) h.slot slot h.at here) h.fits

-- one more thing is made, and put in its place
pub put : {A S : Type 0} (F G : ℕ → A → S → Type 0) (size : ℕ) (made : List A) (slots : List S) (x : A) (new : S) → 0 < size → RingHolds F size made slots
    → ((serial : ℕ) (y : A) (slot : S) → F serial y slot → G serial y slot) → G (length made) x new → RingHolds G size (made ++ x ∷ []) (slice_set slots (length made % size) new)
put {A} F G size made slots x new some ring as_G fits = record {
  length_is = length-set slots (length made % size) new ∙ ring.length_is;
  held = λ serial y at near. by serial y at near (cases_order serial (length made));
}
  where
    place : ℕ
    place = length made % size

    longer : length (made ++ x ∷ []) ≡ length made + 1
    longer = length-append made (x ∷ [])

    by : (serial : ℕ) (y : A) → slice_get (made ++ x ∷ []) serial ≡ Some y → length (made ++ x ∷ []) - serial - 1 < size → (serial ≡ length made) ⊎ ((serial < length made) ⊎ (length made < serial))
        → HeldAt G (slice_set slots place new) size serial y
    by serial y at near (inl last) =
        let low : length made % size < size = mod_below (length made) size some in
        let y_is : x ≡ y = some_same (slice_get (made ++ x ∷ []) serial) x y (ap (slice_get (made ++ x ∷ [])) last ∙ get_append_back made x) at in
        let fits_y : G (length made) y new = subst (λ (z : A). G (length made) z new) y_is fits in
        record {
          slot = new;
          at = ap (λ (k : ℕ). slice_get (slice_set slots place new) (k % size)) last ∙ get_set_same slots (length made % size) new (omega (arith, ring.length_is));
          fits = subst (λ (k : ℕ). G k y new) (sym last) fits_y;
        }
    by serial y at near (inr (inl before)) =
        let h = ring.held serial y (sym (get_append_front made (x ∷ []) serial before) ∙ at) (omega (arith, longer)) in
        record {
          slot = h.slot;
          at = get_set_other slots (length made % size) (serial % size) new (places_differ size serial (length made) before (omega (arith, longer))) ∙ h.at;
          fits = as_G serial y h.slot h.fits;
        }
    by serial y at near (inr (inr after)) = absurd (omega (arith, longer, slice_get_within (made ++ x ∷ []) serial y at))

-- the slot of one thing is changed
pub change : {A S : Type 0} (F G : ℕ → A → S → Type 0) (size : ℕ) (made : List A) (slots : List S) (serial : ℕ) (x : A) (new : S) → 0 < size → RingHolds F size made slots
    → slice_get made serial ≡ Some x → length made - serial - 1 < size → G serial x new → ((k : ℕ) (y : A) (slot : S) → k ≢ serial → F k y slot → G k y slot)
    → RingHolds G size made (slice_set slots (serial % size) new)
change {A} F G size made slots serial x new some ring at near fits as_G = record {
  length_is = length-set slots (serial % size) new ∙ ring.length_is;
  held = λ k y k_at k_near. by k y k_at k_near (cases_order k serial);
}
  where
    apart : (k : ℕ) (y : A) → slice_get made k ≡ Some y → length made - k - 1 < size → k ≢ serial → (k < serial) ⊎ (serial < k) → HeldAt G (slice_set slots (serial % size) new) size k y
    apart k y k_at k_near other order =
        let h = ring.held k y k_at k_near in
        record {
          slot = h.slot;
          at = get_set_other slots (serial % size) (k % size) new (differ order) ∙ h.at;
          fits = as_G k y h.slot other h.fits;
        }
      where
        differ : (k < serial) ⊎ (serial < k) → (k % size) ≢ (serial % size)
        differ (inl less) e = places_differ size k serial less (omega (arith, slice_get_within made serial x at)) e
        differ (inr more) e = places_differ size serial k more (omega (arith, slice_get_within made k y k_at)) (sym e)

    by : (k : ℕ) (y : A) → slice_get made k ≡ Some y → length made - k - 1 < size → (k ≡ serial) ⊎ ((k < serial) ⊎ (serial < k)) → HeldAt G (slice_set slots (serial % size) new) size k y
    by k y k_at k_near (inl same) =
        let low : serial % size < size = mod_below serial size some in
        let y_is : x ≡ y = some_same (slice_get made k) x y (ap (slice_get made) same ∙ at) k_at in
        let fits_y : G serial y new = subst (λ (z : A). G serial z new) y_is fits in
        record {
          slot = new;
          at = ap (λ (j : ℕ). slice_get (slice_set slots (serial % size) new) (j % size)) same ∙ get_set_same slots (serial % size) new (omega (arith, ring.length_is));
          fits = subst (λ (j : ℕ). G j y new) (sym same) fits_y;
        }
    by k y k_at k_near (inr (inl less)) = apart k y k_at k_near (λ e. omega arith) (inl less)
    by k y k_at k_near (inr (inr more)) = apart k y k_at k_near (λ e. omega arith) (inr more)

-- a serial below their number is that of one of them
pub made_at : {A : Type 0} (made : List A) (serial : ℕ) → serial < length made → (x : A) × (slice_get made serial ≡ Some x)
made_at [] serial below = absurd (omega arith)
made_at (x ∷ xs) zero below = (x, refl)
made_at (x ∷ xs) (suc i) below = made_at xs i (omega arith)
