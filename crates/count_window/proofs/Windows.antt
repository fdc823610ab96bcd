-- A window after a count.
use Rattle.std.proofs.Common.{◌≡◌, ◌≢◌, ℕ, ◌+◌, ◌-◌, ◌*◌, ◌%◌, ◌^◌, ◌<◌, ◌≤◌, ◌==◌, Bool, true, false, ◌||◌, max, List, [], ◌∷◌, ◌++◌, fold, refl, sym, ◌∙◌, ap, arith, ◌⊎◌, inl, inr, nat_le, nat_lt, nat_eq}
use Rattle.std.specs.Int.{bit_at, w128}
use Rattle.std.specs.Int.RustNames.{bit_or}
use Rattle.std.proofs.lemmas.Bool.Decides.{nat_tests}
use Rattle.std.proofs.lemmas.List.Sums.{fold-append}
use Rattle.std.proofs.lemmas.List.Folds.{list_any-append}
use Rattle.std.proofs.lemmas.Nat.Bits.{bit_at_set_same, bit_at_set_other}
use Rattle.count_window.specs.declared.window.Window.{Window}
use Rattle.count_window.specs.declared.window.Admit.TheVariants.{Fresh}
use Rattle.count_window.specs.Window.{StandsFor, high, is_admitted, admission, counts_after}

pub same_test : (a b : ℕ) → a ≡ b → (a == b) ≡ true
same_test a b e = grind (arith, nat_tests)

other_test : (a b : ℕ) → a ≢ b → (a == b) ≡ false
other_test a b e = grind (arith, nat_tests)

below_test : (a b : ℕ) → b < a → nat_le a b ≡ false
below_test a b e = grind (arith, nat_tests)

or_true : (a : Bool) → (a || (true || false)) ≡ true
or_true true = refl
or_true false = refl

or_false : (a : Bool) → (a || (false || false)) ≡ a
or_false true = refl
or_false false = refl

pub lt_or_le : (a b : ℕ) → (a < b) ⊎ (b ≤ a)
lt_or_le a b = elim (nat_lt a b) as (λ t. nat_lt a b ≡ t → (a < b) ⊎ (b ≤ a)) [ true ↦ λ e. inl (grind (arith, nat_tests)) | false ↦ λ e. inr (grind (arith, nat_tests)) ] refl

eq_or_not : (a b : ℕ) → (a ≡ b) ⊎ (a ≢ b)
eq_or_not a b = elim (nat_eq a b) as (λ t. nat_eq a b ≡ t → (a ≡ b) ⊎ (a ≢ b)) [ true ↦ λ e. inl (grind (arith, nat_tests)) | false ↦ λ e. inr (λ h. grind (arith, nat_tests)) ] refl

le_fold : (a : ℕ) (counts : List ℕ) → a ≤ fold max a counts
le_fold a [] = omega arith
le_fold a (c ∷ cs) = omega (arith, le_fold (max a c) cs)

pub none_above : (a : ℕ) (counts : List ℕ) (count : ℕ) → fold max a counts < count → is_admitted counts count ≡ false
none_above a [] count h = refl
none_above a (c ∷ cs) count h =
    let other : c ≢ count = λ e. omega (arith, le_fold (max a c) cs) in
    ap (λ b. b || is_admitted cs count) (other_test c count other) ∙ none_above (max a c) cs count h

high-append : (counts : List ℕ) (count : ℕ) → high (counts ++ count ∷ []) ≡ max (high counts) count
high-append counts count = fold-append max 0 counts (count ∷ [])

pub is_admitted-append : (counts : List ℕ) (count d : ℕ) → is_admitted (counts ++ count ∷ []) d ≡ (is_admitted counts d || ((count == d) || false))
is_admitted-append counts count d = list_any-append (λ c. c == d) counts (count ∷ [])

pub fresh : (counts : List ℕ) (count : ℕ) → high counts < count + 128 → is_admitted counts count ≡ false → admission counts count ≡ Fresh
fresh counts count inside new = rw (below_test (count + 128) (high counts) inside, new) refl

pub fresh_above : (counts : List ℕ) (count : ℕ) → high counts < count → admission counts count ≡ Fresh
fresh_above counts count above = fresh counts count (omega arith) (none_above 0 counts count above)

pub stands_above : (w : Window) (counts : List ℕ) (count mask : ℕ) → w.high < count → StandsFor w counts
    → bit_at mask 0 ≡ 1
    → ((i : ℕ) → 0 < i → i < count - w.high → i < 128 → bit_at mask i ≡ 0)
    → ((i : ℕ) → count - w.high ≤ i → i < 128 → bit_at mask i ≡ bit_at w.mask (i - (count - w.high)))
    → StandsFor (record { high = count; mask = mask }) (counts_after counts count)
stands_above w counts count mask above stands newest between older = rw (fresh_above counts count (rw (sym stands.high_is) above)) (record {
  high_is = sym (high-append counts count ∙ omega (arith, stands.high_is));
  marks = λ d below near. sym (is_admitted-append counts count d ∙ place d below near (lt_or_le w.high d) (lt_or_le d count));
})
  where
    place : (d : ℕ) → d ≤ count → count < d + 128 → (w.high < d) ⊎ (d ≤ w.high) → (d < count) ⊎ (count ≤ d) → (is_admitted counts d || ((count == d) || false)) ≡ (bit_at mask (count - d) == 1)
    place d below near p (inr top) =
        rw (same_test count d (omega arith), or_true (is_admitted counts d)) (sym (same_test (bit_at mask (count - d)) 1 (ap (bit_at mask) (let z : count - d ≡ 0 = omega arith in z) ∙ newest)))
    place d below near (inl new) (inl small) =
        rw (other_test count d (λ e. omega arith), or_false (is_admitted counts d), none_above 0 counts d (rw (sym stands.high_is) new))
        (sym (other_test (bit_at mask (count - d)) 1 (λ e. omega (arith, between (count - d) (omega arith) (omega arith) (omega arith)))))
    place d below near (inr old) (inl small) =
        let kept : count - d - (count - w.high) ≡ w.high - d = omega arith in
        rw (other_test count d (λ e. omega arith), or_false (is_admitted counts d))
        (sym (stands.marks d old (omega arith)) ∙ ap (λ b. b == 1) (sym (older (count - d) (omega arith) (omega arith) ∙ ap (bit_at w.mask) kept)))

pub stands_marked : (w : Window) (counts : List ℕ) (count : ℕ) → count ≤ w.high → w.high < count + 128 → bit_at w.mask (w.high - count) ≢ 1 → StandsFor w counts
    → StandsFor (record { high = w.high; mask = bit_or w.mask (1 * 2 ^ (w.high - count) % 2 ^ 128) }) (counts_after counts count)
stands_marked w counts count below near unmarked stands =
    let new : is_admitted counts count ≡ false = sym (stands.marks count below near) ∙ other_test (bit_at w.mask (w.high - count)) 1 unmarked in
    rw (fresh counts count (rw (sym stands.high_is) near) new) (record {
      high_is = sym (high-append counts count ∙ omega (arith, stands.high_is));
      marks = λ d below' near'. sym (is_admitted-append counts count d ∙ place d below' near' (eq_or_not d count));
    })
  where
    place : (d : ℕ) → d ≤ w.high → w.high < d + 128 → (d ≡ count) ⊎ (d ≢ count) → (is_admitted counts d || ((count == d) || false)) ≡ (bit_at (bit_or w.mask (1 * 2 ^ (w.high - count) % 2 ^ 128)) (w.high - d) == 1)
    place d below' near' (inl same) =
        rw (same_test count d (sym same), or_true (is_admitted counts d), same) (sym (same_test _ 1 (bit_at_set_same w128 w.mask (w.high - count) (omega arith))))
    place d below' near' (inr other) =
        rw (other_test count d (λ e. other (sym e)), or_false (is_admitted counts d), bit_at_set_other w128 w.mask (w.high - count) (omega arith) (w.high - d) (λ e. other (omega arith)))
        (sym (stands.marks d below' near'))
