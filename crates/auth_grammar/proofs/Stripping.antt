-- What is left of a text without its prefix or its suffix.
use Rattle.std.proofs.Common.{◌≡◌, ◌≢◌, ◌+◌, ◌-◌, ℕ, true, false, Option, Some, None, List, ◌++◌, length, take, drop, eqb, Bor}
use Rattle.std.specs.Option.{MatchOption, IfSome, IfNone}
use Rattle.std.specs.Cmp.Lexicographic.{pointwise}
use Rattle.std.proofs.lemmas.Bool.Decides.{Decides-eqb}
use Rattle.std.proofs.lemmas.Slice.Eq.{strip_prefix_is, strip_suffix_is}

matched_some : {A : Type 0} (Q : A → Type 0) (P : Type 0) (r : Option A) → MatchOption r P Q → IfSome r Q
matched_some Q P None m = tt
matched_some Q P (Some x) m = m

matched_none : {A : Type 0} (Q : A → Type 0) (P : Type 0) (r : Option A) → MatchOption r P Q → IfNone r P
matched_none Q P None m = m
matched_none Q P (Some x) m = tt

pub behind_some : (s p : List ℕ) (r : Option (Bor (List ℕ))) → MatchOption r (pointwise eqb (take (length p) s) p ≡ false) (λ x. (pointwise eqb (take (length p) s) p ≡ true) × (x.now ≡ drop (length p) s) × (length x.now + length p ≡ length s)) →
    IfSome r (λ x. s ≡ p ++ x.now)
behind_some s p r m = matched_some (λ x. s ≡ p ++ x.now) ((rest : List ℕ) → s ≢ p ++ rest) r (strip_prefix_is Decides-eqb s p r m)

pub behind_none : (s p : List ℕ) (r : Option (Bor (List ℕ))) → MatchOption r (pointwise eqb (take (length p) s) p ≡ false) (λ x. (pointwise eqb (take (length p) s) p ≡ true) × (x.now ≡ drop (length p) s) × (length x.now + length p ≡ length s)) →
    IfNone r ((rest : List ℕ) → s ≢ p ++ rest)
behind_none s p r m = matched_none (λ x. s ≡ p ++ x.now) ((rest : List ℕ) → s ≢ p ++ rest) r (strip_prefix_is Decides-eqb s p r m)

pub before_some : (s p : List ℕ) (r : Option (Bor (List ℕ))) → MatchOption r (pointwise eqb (drop (length s - length p) s) p ≡ false) (λ x. (pointwise eqb (drop (length s - length p) s) p ≡ true) × (x.now ≡ take (length s - length p) s) × (length x.now + length p ≡ length s)) →
    IfSome r (λ x. s ≡ x.now ++ p)
before_some s p r m = matched_some (λ x. s ≡ x.now ++ p) ((rest : List ℕ) → s ≢ rest ++ p) r (strip_suffix_is Decides-eqb s p r m)

pub before_none : (s p : List ℕ) (r : Option (Bor (List ℕ))) → MatchOption r (pointwise eqb (drop (length s - length p) s) p ≡ false) (λ x. (pointwise eqb (drop (length s - length p) s) p ≡ true) × (x.now ≡ take (length s - length p) s) × (length x.now + length p ≡ length s)) →
    IfNone r ((rest : List ℕ) → s ≢ rest ++ p)
before_none s p r m = matched_none (λ x. s ≡ x.now ++ p) ((rest : List ℕ) → s ≢ rest ++ p) r (strip_suffix_is Decides-eqb s p r m)
