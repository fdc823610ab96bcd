-- Lists that are made place by place.
use Rattle.std.proofs.Common.{◌≡◌, ◌<◌, ◌≤◌, ◌+◌, ◌∙◌, ℕ, suc, List, [], ◌∷◌, length, map, bit_xor, slice_index_or, slice_set, inl, inr, sym, refl, ap, arith}
use Rattle.std.proofs.Math.Nat.{eq-or-lt_of_le}
use Rattle.std.proofs.lemmas.Grind.{get_or-set_at}
use Rattle.std.proofs.lemmas.List.{get_or-set_other}
use Rattle.auth_hash.specs.Salting.{xor_bytes}

-- each place of the one list is a function of the same place of the other
pub map_places : (f : ℕ → ℕ) (xs zs : List ℕ) → length zs ≡ length xs → ((i : ℕ) → i < length zs → slice_index_or zs i 0 ≡ f (slice_index_or xs i 0)) → zs ≡ map f xs
map_places f [] [] long each = refl
map_places f [] (z ∷ zs) long each = absurd (omega (arith, long))
map_places f (x ∷ xs) [] long each = absurd (omega (arith, long))
map_places f (x ∷ xs) (z ∷ zs) long each = ap (λ h. h ∷ zs) (each 0 (omega arith)) ∙ ap (λ t. f x ∷ t) (map_places f xs zs (omega (arith, long)) (λ i below. each (suc i) (omega (arith, below))))

-- each place of a list is the XOR of the same places of two
pub xor_places : (xs ys zs : List ℕ) → length zs ≡ length xs → length zs ≡ length ys → ((i : ℕ) → i < length zs → slice_index_or zs i 0 ≡ bit_xor (slice_index_or xs i 0) (slice_index_or ys i 0)) → zs ≡ xor_bytes xs ys
xor_places [] ys [] long wide each = refl
xor_places xs [] [] long wide each = refl
xor_places [] ys (z ∷ zs) long wide each = absurd (omega (arith, long))
xor_places xs [] (z ∷ zs) long wide each = absurd (omega (arith, wide))
xor_places (x ∷ xs) (y ∷ ys) [] long wide each = absurd (omega (arith, long))
xor_places (x ∷ xs) (y ∷ ys) (z ∷ zs) long wide each = ap (λ h. h ∷ zs) (each 0 (omega arith)) ∙ ap (λ t. bit_xor x y ∷ t) (xor_places xs ys zs (omega (arith, long)) (omega (arith, wide)) (λ i below. each (suc i) (omega (arith, below))))

-- one more place is written
pub set_next : (f : ℕ → ℕ) (xs : List ℕ) (n : ℕ) → n < length xs → ((i : ℕ) → i < n → slice_index_or xs i 0 ≡ f i) → (i : ℕ) → i < n + 1 → slice_index_or (slice_set xs n (f n)) i 0 ≡ f i
set_next f xs n room held i below = elim (eq-or-lt_of_le (let le : i ≤ n = omega (arith, below) in le)) [
  | inl here ↦ get_or-set_at xs n i (f n) 0 here room ∙ sym (ap f here)
  | inr before ↦ get_or-set_other xs n i (f n) 0 (λ same. omega (arith, before, same)) ∙ held i before
]
