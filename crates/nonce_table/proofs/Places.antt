-- Elements of lists by their places.
use Rattle.std.proofs.Common.{◌≡◌, ◌≢◌, ℕ, zero, suc, ◌+◌, ◌<◌, ◌⊎◌, List, [], ◌∷◌, ◌++◌, map, take, drop, length, set, Some, sym, refl, ap, ◌∙◌, subst, inl, inr, ⊎_elim, add-one, arith}
use Rattle.std.specs.List.{slice_get}

pub some_is : {A : Type 0} (x y : A) → Some x ≡ Some y → x ≡ y
some_is x y e = cc

module _ {A : Type 0} where
  pub get_here : (xs : List A) (i : ℕ) (p q : A) → slice_get xs i ≡ Some p → slice_get (set xs i q) i ≡ Some q
  get_here [] i p q e = absurd (cc)
  get_here (x ∷ xs) zero p q e = refl
  get_here (x ∷ xs) (suc i) p q e = get_here xs i p q e

  pub get_else : (xs : List A) (i s : ℕ) (q : A) → s ≢ i → slice_get (set xs i q) s ≡ slice_get xs s
  get_else [] i s q n = refl
  get_else (x ∷ xs) zero zero q n = absurd (n refl)
  get_else (x ∷ xs) zero (suc s) q n = refl
  get_else (x ∷ xs) (suc i) zero q n = refl
  get_else (x ∷ xs) (suc i) (suc s) q n = get_else xs i s q (λ e. n (ap suc e))

  pub length_set : (xs : List A) (i : ℕ) (q : A) → length (set xs i q) ≡ length xs
  length_set [] i q = refl
  length_set (x ∷ xs) zero q = refl
  length_set (x ∷ xs) (suc i) q = ap suc (length_set xs i q)

  pub get_short : (xs : List A) (i : ℕ) (p : A) → slice_get xs i ≡ Some p → i < length xs
  get_short [] i p e = absurd (cc)
  get_short (x ∷ xs) zero p e = omega arith
  get_short (x ∷ xs) (suc i) p e = let h = get_short xs i p e in omega arith

  pub got : (xs : List A) (i : ℕ) → i < length xs → (p : A) × (slice_get xs i ≡ Some p)
  got [] i h = absurd (omega arith)
  got (x ∷ xs) zero h = (x, refl)
  got (x ∷ xs) (suc i) h = got xs i (omega arith)

  -- an element of a list with one more at its end
  pub at_end : (xs : List A) (y p : A) (i : ℕ) → slice_get (xs ++ y ∷ []) i ≡ Some p → (slice_get xs i ≡ Some p) ⊎ ((y ≡ p) × (i ≡ length xs))
  at_end [] y p zero e = inr (some_is y p e, refl)
  at_end [] y p (suc i) e = absurd (cc)
  at_end (x ∷ xs) y p zero e = inl e
  at_end (x ∷ xs) y p (suc i) e = ⊎_elim (λ h. inl h) (λ h. inr (h.0, ap suc h.1)) (at_end xs y p i e)

  pub get_map : {B : Type 0} (f : A → B) (xs : List A) (i : ℕ) (p : A) → slice_get xs i ≡ Some p → slice_get (map f xs) i ≡ Some (f p)
  get_map f [] i p e = absurd (cc)
  get_map f (x ∷ xs) zero p e = ap (λ (y : A). Some (f y)) (some_is x p e)
  get_map f (x ∷ xs) (suc i) p e = get_map f xs i p e

  -- what an element of a mapped list comes from
  pub get_of_map : {B : Type 0} (f : A → B) (xs : List A) (i : ℕ) (q : B) → slice_get (map f xs) i ≡ Some q → (p : A) × (slice_get xs i ≡ Some p) × (q ≡ f p)
  get_of_map f [] i q e = absurd (cc)
  get_of_map f (x ∷ xs) zero q e = (x, refl, sym (some_is (f x) q e))
  get_of_map f (x ∷ xs) (suc i) q e = get_of_map f xs i q e

  pub length_map : {B : Type 0} (f : A → B) (xs : List A) → length (map f xs) ≡ length xs
  length_map f [] = refl
  length_map f (x ∷ xs) = ap suc (length_map f xs)

  pub get_map_else : {B : Type 0} (f : A → B) (xs : List A) (i s : ℕ) (q : A) → s ≢ i → slice_get (map f (set xs i q)) s ≡ slice_get (map f xs) s
  get_map_else f [] i s q n = refl
  get_map_else f (x ∷ xs) zero zero q n = absurd (n refl)
  get_map_else f (x ∷ xs) zero (suc s) q n = refl
  get_map_else f (x ∷ xs) (suc i) zero q n = refl
  get_map_else f (x ∷ xs) (suc i) (suc s) q n = get_map_else f xs i s q (λ e. n (ap suc e))

  -- an element that changes, but not in this
  pub map_set : {B : Type 0} (f : A → B) (xs : List A) (i : ℕ) (p q : A) → slice_get xs i ≡ Some p → f q ≡ f p → map f (set xs i q) ≡ map f xs
  map_set f [] i p q e h = absurd (cc)
  map_set {B} f (x ∷ xs) zero p q e h = ap (λ (y : B). y ∷ map f xs) (h ∙ ap f (sym (some_is x p e)))
  map_set {B} f (x ∷ xs) (suc i) p q e h = ap (λ (l : List B). f x ∷ l) (map_set f xs i p q e h)

  made_next : {B : Type 0} (f : A → B) (o : List A) (s : ℕ) (p : A) → slice_get o s ≡ Some p → map f (take s o) ++ f p ∷ [] ≡ map f (take (suc s) o)
  made_next f [] zero p e = absurd (cc)
  made_next f [] (suc s) p e = absurd (cc)
  made_next f (x ∷ xs) zero p e = ap (λ (y : A). f y ∷ []) (sym (some_is x p e))
  made_next {B} f (x ∷ xs) (suc s) p e = ap (λ (l : List B). f x ∷ l) (made_next f xs s p e)

  pub made_step : {B : Type 0} (f : A → B) (o : List A) (s : ℕ) (p : A) → slice_get o s ≡ Some p → map f (take s o) ++ f p ∷ [] ≡ map f (take (s + 1) o)
  made_step f o s p e = subst (λ (k : ℕ). map f (take s o) ++ f p ∷ [] ≡ map f (take k o)) (sym (add-one s)) (made_next f o s p e)

-- ---- a list made of another, its first elements in one way and the others in another

module _ {A B : Type 0} (f g : A → B) where
  pub turned_here : (o : List A) (s : ℕ) (p : A) → slice_get o s ≡ Some p → slice_get (map f (take s o) ++ map g (drop s o)) s ≡ Some (g p)
  turned_here [] s p e = absurd (cc)
  turned_here (x ∷ xs) zero p e = ap (λ (y : A). Some (g y)) (some_is x p e)
  turned_here (x ∷ xs) (suc s) p e = turned_here xs s p e

  turned_next : (o : List A) (s : ℕ) (p : A) → slice_get o s ≡ Some p → set (map f (take s o) ++ map g (drop s o)) s (f p) ≡ map f (take (suc s) o) ++ map g (drop (suc s) o)
  turned_next [] s p e = absurd (cc)
  turned_next (x ∷ xs) zero p e = ap (λ (y : A). f y ∷ map g xs) (sym (some_is x p e))
  turned_next (x ∷ xs) (suc s) p e = ap (λ (l : List B). f x ∷ l) (turned_next xs s p e)

  pub turned_step : (o : List A) (s : ℕ) (p : A) → slice_get o s ≡ Some p → set (map f (take s o) ++ map g (drop s o)) s (f p) ≡ map f (take (s + 1) o) ++ map g (drop (s + 1) o)
  turned_step o s p e = subst (λ (k : ℕ). set (map f (take s o) ++ map g (drop s o)) s (f p) ≡ map f (take k o) ++ map g (drop k o)) (sym (add-one s)) (turned_next o s p e)

  pub turned_long : (o : List A) (s : ℕ) → length (map f (take s o) ++ map g (drop s o)) ≡ length o
  turned_long [] zero = refl
  turned_long [] (suc s) = refl
  turned_long (x ∷ xs) zero = ap suc (length_map g xs)
  turned_long (x ∷ xs) (suc s) = ap suc (turned_long xs s)
