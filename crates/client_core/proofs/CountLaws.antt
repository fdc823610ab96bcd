-- What was drawn stays drawn.
use Rattle.std.proofs.Common.{◌≡◌, ◌+◌, ◌≤◌, ℕ, Bool, true, false, cond, List, [], ◌∷◌, Option, Some, None, refl, sym, ap, ◌∙◌, subst, true≢false, arith}
use Rattle.std.specs.Prelude.{unwrap_or, bytes_eq}
use Rattle.std.specs.Ordering.{is_eq, match_ordering, nat_cmp}
use Rattle.std.specs.declared.cmp.Ordering.{Ordering}
use Rattle.std.specs.declared.cmp.Ordering.TheVariants.{Less, Equal, Greater}
use Rattle.std.specs.Cmp.Lexicographic.{slice_cmp}
use Rattle.std.specs.BTreeMap.{insert_entry, is_at}
use Rattle.std.specs.Map.{lookup}
use Rattle.std.proofs.lemmas.Map.Lookups.{exact_bytes}
use Rattle.std.proofs.lemmas.Map.Text.{is_eq-slice_cmp}
use Rattle.std.proofs.lemmas.Slice.Eq.{bytes_eq-Decides}
use Rattle.client_core.specs.Counts.{Drawn, count_of, with_count}

twice : {A : Type 0} (b : Bool) (x y z : A) → cond b x z ≡ cond b x (cond b y z)
twice true x y z = refl
twice false x y z = refl

swap : {A : Type 0} (b c : Bool) (x y z : A) → (b ≡ true → c ≡ true → ⊥) → cond b x (cond c y z) ≡ cond c y (cond b x z)
swap true true x y z never = absurd (never refl refl)
swap true false x y z never = refl
swap false true x y z never = refl
swap false false x y z never = refl

abbrev cmp : List ℕ → List ℕ → Ordering
cmp = slice_cmp nat_cmp

equal_texts : (a b : List ℕ) → is_eq (cmp a b) ≡ true → a ≡ b
equal_texts a b e = (bytes_eq-Decides a b).0 (sym (is_eq-slice_cmp a b) ∙ e)

same_texts : (a b : List ℕ) → a ≡ b → is_eq (cmp a b) ≡ true
same_texts a b e = is_eq-slice_cmp a b ∙ (bytes_eq-Decides a b).1 e

abbrev entries_after : Ordering → List ℕ → ℕ → List ℕ × ℕ → Drawn → Drawn
entries_after o t k e es = match_ordering o ((t, k) ∷ e ∷ es) ((e.0, k) ∷ es) (e ∷ insert_entry cmp es t k)

abbrev found_after : List ℕ → List ℕ → ℕ → Drawn → Option ℕ
found_after n t k es = cond (is_eq (cmp n t)) (Some k) (lookup (is_at (cmp n)) es)

by_order : (n t : List ℕ) (k : ℕ) (e : List ℕ × ℕ) (es : Drawn) (o : Ordering) → cmp t e.0 ≡ o
    → lookup (is_at (cmp n)) (insert_entry cmp es t k) ≡ found_after n t k es
    → lookup (is_at (cmp n)) (entries_after o t k e es) ≡ found_after n t k (e ∷ es)
by_order n t k e es Less is later = refl
by_order n t k e es Equal is later =
    let same : t ≡ e.0 = exact_bytes t e.0 is in
    let P : List ℕ → Type 0 = λ u. cond (is_eq (cmp n e.0)) (Some k) (lookup (is_at (cmp n)) es) ≡ cond (is_eq (cmp n u)) (Some k) (lookup (is_at (cmp n)) (e ∷ es)) in
    subst P (sym same) (twice (is_eq (cmp n e.0)) (Some k) (Some e.1) (lookup (is_at (cmp n)) es))
by_order n t k e es Greater is later =
    let apart = λ (p : is_eq (cmp n e.0) ≡ true) (q : is_eq (cmp n t) ≡ true).
    let same : t ≡ e.0 = sym (equal_texts n t q) ∙ equal_texts n e.0 p in
    true≢false (sym (same_texts t e.0 same) ∙ ap is_eq is) in
    ap (λ (o : Option ℕ). cond (is_eq (cmp n e.0)) (Some e.1) o) later
    ∙ swap (is_eq (cmp n e.0)) (is_eq (cmp n t)) (Some e.1) (Some k) (lookup (is_at (cmp n)) es) apart

lookup_insert : (n t : List ℕ) (k : ℕ) (es : Drawn) → lookup (is_at (cmp n)) (insert_entry cmp es t k) ≡ found_after n t k es
lookup_insert n t k [] = refl
lookup_insert n t k (e ∷ es) = by_order n t k e es (cmp t e.0) refl (lookup_insert n t k es)

-- the count of a text that was drawn
pub count-with_same : (d : Drawn) (t : List ℕ) (k : ℕ) → count_of (with_count d t k) t ≡ k
unfolding count_of with_count
count-with_same d t k =
    ap (λ (o : Option ℕ). unwrap_or o 0) (lookup_insert t t k d
    ∙ ap (λ (b : Bool). cond b (Some k) (lookup (is_at (cmp t)) d)) (same_texts t t refl))

or_zero : (b : Bool) (k : ℕ) (o : Option ℕ) (low : b ≡ true → unwrap_or o 0 ≤ k) → unwrap_or o 0 ≤ unwrap_or (cond b (Some k) o) 0
or_zero true k o low = low refl
or_zero false k o low = omega arith

-- no count falls
pub count-with_grows : (d : Drawn) (t n : List ℕ) (k : ℕ) → count_of d t ≤ k → count_of d n ≤ count_of (with_count d t k) n
unfolding count_of with_count
count-with_grows d t n k low =
    let P : Option ℕ → Type 0 = λ o. unwrap_or (lookup (is_at (cmp n)) d) 0 ≤ unwrap_or o 0 in
    let C : List ℕ → Type 0 = λ u. unwrap_or (lookup (is_at (cmp u)) d) 0 ≤ k in
    subst P (sym (lookup_insert n t k d)) (or_zero (is_eq (cmp n t)) k (lookup (is_at (cmp n)) d)
    (λ e. subst C (sym (equal_texts n t e)) low))
