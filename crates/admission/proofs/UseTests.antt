-- What the tests of a use say.
use Rattle.std.proofs.Common.{◌≡◌, ◌≢◌, ◌↔◌, ℕ, ◌+◌, ◌<◌, ◌==◌, ◌||◌, nat_eq, Bool, true, false, not, true≢false, if◌then◌else◌, nat_le, Option, Some, None, List, [], ◌∷◌, All, IfSome, refl, sym, ap, arith}
use Rattle.std.specs.List.{list_any}
use Rattle.std.specs.Cmp.Lexicographic.{pointwise}
use Rattle.std.proofs.lemmas.Bool.Decides.{nat_tests}
use Rattle.std.proofs.lemmas.List.Elements.{All-nil, All-cons, All-head, All-tail}
use Rattle.std.proofs.lemmas.Slice.Eq.{bytes_eq-Decides}
use Rattle.arrayvec.specs.ArrayVec.{ArrayVec}
use Rattle.nonce_shard.specs.declared.calls.Reply.{Reply}
use Rattle.nonce_shard.specs.declared.calls.Reply.TheVariants.{Fresh, Gone, Behind, Repeated, OtherSession}
use Rattle.count_window.specs.declared.window.TheConstants.{WIDTH}
use Rattle.nonce_shard.specs.Nonces.{is_other}

-- the four tests of a use
abbrev pub use_by : Bool → Bool → Bool → Bool → ℕ → ℕ → Reply
use_by live behind repeated other top number =
    if live then (if behind then Behind top else if repeated then Repeated else if other then OtherSession else Fresh number) else Gone

pub fresh_tests : (live behind repeated other : Bool) (top number n : ℕ) → use_by live behind repeated other top number ≡ Fresh n → (live ≡ true) × (behind ≡ false) × (repeated ≡ false) × (other ≡ false)
fresh_tests true false false false top number n e = (refl, refl, refl, refl)
fresh_tests true false false true top number n e = absurd (let no : OtherSession ≡ Fresh n = e in cc)
fresh_tests true false true other top number n e = absurd (let no : Repeated ≡ Fresh n = e in cc)
fresh_tests true true repeated other top number n e = absurd (let no : Behind top ≡ Fresh n = e in cc)
fresh_tests false behind repeated other top number n e = absurd (let no : Gone ≡ Fresh n = e in cc)

pub tests_fresh : (live behind repeated other : Bool) (top number : ℕ) → live ≡ true → behind ≡ false → repeated ≡ false → other ≡ false → use_by live behind repeated other top number ≡ Fresh number
tests_fresh live behind repeated other top number p q r s = rw (p, q, r, s) refl

-- ---- what the tests say

pub behind_is : (count top : ℕ) → (nat_le (count + WIDTH) top ≡ false) ↔ (top < count + WIDTH)
behind_is count top = (λ e. grind (arith, nat_tests), λ h. grind (arith, nat_tests))

false_or : (a b : Bool) → (a || b) ≡ false → (a ≡ false) × (b ≡ false)
false_or true b e = absurd (true≢false e)
false_or false b e = (refl, e)

or_false : (a b : Bool) → a ≡ false → b ≡ false → (a || b) ≡ false
or_false a b p q = rw (p, q) refl

other_number : (a b : ℕ) → (a == b) ≡ false → a ≢ b
other_number a b e = grind (arith, nat_tests)

number_other : (a b : ℕ) → a ≢ b → (a == b) ≡ false
number_other a b e = grind (arith, nat_tests)

pub repeated_is : (count : ℕ) (counts : List ℕ) → (list_any (λ c. c == count) counts ≡ false) ↔ All (λ c. c ≢ count) counts
repeated_is count counts = (to counts, from counts)
  where
    to : (xs : List ℕ) → list_any (λ c. c == count) xs ≡ false → All (λ c. c ≢ count) xs
    to [] e = All-nil (λ c. c ≢ count)
    to (x ∷ xs) e =
        let both = false_or (x == count) (list_any (λ c. c == count) xs) e in
        All-cons (λ c. c ≢ count) x xs (other_number x count both.0) (to xs both.1)

    from : (xs : List ℕ) → All (λ c. c ≢ count) xs → list_any (λ c. c == count) xs ≡ false
    from [] all = refl
    from (x ∷ xs) all =
        or_false (x == count) (list_any (λ c. c == count) xs) (number_other x count (All-head (λ c. c ≢ count) x xs all)) (from xs (All-tail (λ c. c ≢ count) x xs all))

not_false : (b : Bool) → not b ≡ false → b ≡ true
not_false true e = refl
not_false false e = absurd (true≢false e)

pub other_is : (session : Bool) (prime : List ℕ) (begun : Option (ArrayVec ℕ))
    → (is_other (if session then Some (record { items = prime }) else None) begun ≡ false) ↔ (session ≡ true → IfSome begun (λ b. b.items ≡ prime))
other_is true prime None = (λ e s. tt, λ h. refl)
other_is true prime (Some b) =
    let d = bytes_eq-Decides prime b.items in
    (λ e s. sym (d.0 (not_false (pointwise nat_eq prime b.items) e)), λ h. ap not (d.1 (sym (h refl))))
other_is false prime begun = (λ e s. absurd (true≢false (sym s)), λ h. refl)
