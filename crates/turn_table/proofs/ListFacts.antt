-- Elements and beginnings of lists, and numbers that differ.
use Rattle.std.proofs.Common.{◌≡◌, ◌≢◌, ℕ, zero, suc, ◌<◌, ◌≤◌, ◌⊎◌, List, [], ◌∷◌, ◌++◌, map, length, sym, refl, ap, ◌∙◌, inl, inr, ⊎_elim, Contains, append_assoc, append-nil, arith}
use mathlib.Core.Logic.{dite}
use mathlib.Core.Option.{some, some-injective, some-ne-none}
use native.Mathlib.Decide.{ℕ_discrete}
use lib.ListN.{get_elem?}
use Rattle.turn_table.specs.Lists.{Each, BeginsWith, Lacks, Differ}

module _ {A : Type 0} where
  pub each_append : (P : A → Type 0) (xs ys : List A) → Each P xs → Each P ys → Each P (xs ++ ys)
  each_append P [] ys p q = q
  each_append P (x ∷ xs) ys p q = (p.0, each_append P xs ys p.1 q)

  pub each_left : (P : A → Type 0) (xs ys : List A) → Each P (xs ++ ys) → Each P xs
  each_left P [] ys p = tt
  each_left P (x ∷ xs) ys p = (p.0, each_left P xs ys p.1)

  pub each_right : (P : A → Type 0) (xs ys : List A) → Each P (xs ++ ys) → Each P ys
  each_right P [] ys p = p
  each_right P (x ∷ xs) ys p = each_right P xs ys p.1

  pub each_as : (P Q : A → Type 0) → ((x : A) → P x → Q x) → (xs : List A) → Each P xs → Each Q xs
  each_as P Q f [] p = tt
  each_as P Q f (x ∷ xs) p = (f x p.0, each_as P Q f xs p.1)

  pub each_both : (P Q R : A → Type 0) → ((x : A) → P x → Q x → R x) → (xs : List A) → Each P xs → Each Q xs → Each R xs
  each_both P Q R f [] p q = tt
  each_both P Q R f (x ∷ xs) p q = (f x p.0 q.0, each_both P Q R f xs p.1 q.1)

  pub each_of_map : {B : Type 0} (P : B → Type 0) (f : A → B) (xs : List A) → Each P (map f xs) → Each (λ x. P (f x)) xs
  each_of_map P f [] p = tt
  each_of_map P f (x ∷ xs) p = (p.0, each_of_map P f xs p.1)

  pub each_to_map : {B : Type 0} (P : B → Type 0) (f : A → B) (xs : List A) → Each (λ x. P (f x)) xs → Each P (map f xs)
  each_to_map P f [] p = tt
  each_to_map P f (x ∷ xs) p = (p.0, each_to_map P f xs p.1)

  pub at_short : (xs : List A) (k : ℕ) (x : A) → get_elem? xs k ≡ some x → k < length xs
  at_short [] k x e = absurd (some-ne-none x (sym e))
  at_short (y ∷ ys) zero x e = omega arith
  at_short (y ∷ ys) (suc k) x e = let h = at_short ys k x e in omega arith

  pub head_of : (xs : List A) (x : A) → get_elem? xs 0 ≡ some x → (ys : List A) × (xs ≡ x ∷ ys)
  head_of [] x e = absurd (some-ne-none x (sym e))
  head_of (y ∷ ys) x e = (ys, ap (λ (z : A). z ∷ ys) (some-injective y x e))

  pub at_end : (l : List A) (a b : A) (j : ℕ) → get_elem? (l ++ a ∷ []) j ≡ some b → (get_elem? l j ≡ some b) ⊎ ((a ≡ b) × (j ≡ length l))
  at_end [] a b zero e = inr (some-injective a b e, refl)
  at_end [] a b (suc j) e = absurd (some-ne-none b (sym e))
  at_end (x ∷ xs) a b zero e = inl e
  at_end (x ∷ xs) a b (suc j) e = ⊎_elim (λ h. inl h) (λ h. inr (h.0, ap suc h.1)) (at_end xs a b j e)

  pub begins_self : (l : List A) → BeginsWith l l
  begins_self l = ([], sym (append-nil l))

  pub begins_then : (l m n : List A) → BeginsWith m l → BeginsWith n m → BeginsWith n l
  begins_then l m n p q = (p.0 ++ q.0, q.1 ∙ ap (λ (x : List A). x ++ q.0) p.1 ∙ append_assoc l p.0 q.0)

  pub begins_more : (list : List A) (e : A) (l : List A) → BeginsWith list l → BeginsWith (list ++ e ∷ []) l
  begins_more list e l b = (b.0 ++ e ∷ [], ap (λ (x : List A). x ++ e ∷ []) b.1 ∙ append_assoc l b.0 (e ∷ []))

  tails : (x y : A) (l m : List A) → x ∷ l ≡ y ∷ m → l ≡ m
  tails x y l m e = cc

  heads : (x y : A) (l m : List A) → x ∷ l ≡ y ∷ m → x ≡ y
  heads x y l m e = cc

  pub cancel : (l m n : List A) → l ++ m ≡ l ++ n → m ≡ n
  cancel [] m n e = e
  cancel (x ∷ l) m n e = cancel l m n (tails x x (l ++ m) (l ++ n) e)

  -- of two beginnings of one list the shorter begins the longer
  pub shorter_begins : (l m r t : List A) → l ++ r ≡ m ++ t → length l ≤ length m → BeginsWith m l
  shorter_begins [] m r t e h = (m, refl)
  shorter_begins (x ∷ l) [] r t e h = absurd (omega arith)
  shorter_begins (x ∷ l) (y ∷ m) r t e h = let b = shorter_begins l m r t (tails x y (l ++ r) (m ++ t) e) (omega arith) in
      (b.0, ap (λ (z : A). z ∷ m) (sym (heads x y (l ++ r) (m ++ t) e)) ∙ ap (λ (z : List A). x ∷ z) b.1)

contains_more : (x y : ℕ) (xs : List ℕ) → Contains xs x → Contains (y ∷ xs) x
contains_more x y xs c = let k = c.0 in let short : k < length xs = c.1 in (suc k, omega arith, c.2)

pub lacks_or_contains : (x : ℕ) (xs : List ℕ) → Lacks x xs ⊎ Contains xs x
lacks_or_contains x [] = inl tt
lacks_or_contains x (y ∷ ys) = dite (ℕ_discrete y x) (λ e. inr (0, omega arith, e)) (λ ne. ⊎_elim (λ l. inl (ne, l)) (λ c. inr (contains_more x y ys c)) (lacks_or_contains x ys))

pub differ_snoc : (xs : List ℕ) (x : ℕ) → Differ xs → Lacks x xs → Differ (xs ++ x ∷ [])
differ_snoc [] x d l = (tt, tt)
differ_snoc (y ∷ ys) x d l = (each_append (λ z. z ≢ y) ys (x ∷ []) d.0 ((λ e. l.0 (sym e)), tt), differ_snoc ys x d.1 l.1)

-- without its greatest number a list is shorter by at most one
thinner : (m : ℕ) (xs : List ℕ) → Differ xs → Each (λ x. x < suc m) xs → (ys : List ℕ) × Differ ys × Each (λ x. x < m) ys × (length xs ≤ suc (length ys)) × ((z : ℕ) → Lacks z xs → Lacks z ys)
thinner m [] d b = ([], tt, tt, omega arith, λ z l. tt)
thinner m (x ∷ xs) d b = dite (ℕ_discrete x m)
    (λ e. (xs, d.1, each_both (λ y. y ≢ x) (λ y. y < suc m) (λ y. y < m) (λ y n h. let n' : y ≢ m = λ q. n (q ∙ sym e) in omega arith) xs d.0 b.1, omega arith, λ z l. l.1))
    (λ ne. let t = thinner m xs d.1 b.1 in let ys = t.0 in let more : length xs ≤ suc (length ys) = t.3 in (x ∷ ys, (t.4 x d.0, t.1), (omega (arith, b.0), t.2), omega arith, λ z l. (l.0, t.4 z l.1)))

-- numbers below m that differ are at most m
pub differ_below : (m : ℕ) (xs : List ℕ) → Differ xs → Each (λ x. x < m) xs → length xs ≤ m
differ_below zero [] d b = omega arith
differ_below zero (x ∷ xs) d b = let h = b.0 in absurd (omega arith)
differ_below (suc m) xs d b = let t = thinner m xs d b in let ys = t.0 in let more : length xs ≤ suc (length ys) = t.3 in let h = differ_below m ys t.1 t.2 in omega arith
