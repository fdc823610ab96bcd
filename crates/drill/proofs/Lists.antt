-- Calls and draws among steps, and places in lists.
use Rattle.std.proofs.Common.{◌≡◌, ◌⊎◌, inl, inr, ℕ, zero, suc, List, [], ◌∷◌, ◌++◌, length, slice_get, Some, None, All, refl, ap, subst}
use Rattle.std.proofs.lemmas.List.Elements.{All-head, All-tail}
use Rattle.admission.specs.Steps.{Step, Drew, Called}
use Rattle.drill.specs.Deciding.{calls_in, draws_in}
use Rattle.nonce_shard.specs.declared.calls.Call.{Call}

pub calls_more : (done more : List Step) → calls_in (done ++ more) ≡ calls_in done ++ calls_in more
calls_more [] more = refl
calls_more (Drew words ∷ done) more = calls_more done more
calls_more (Called shard before call ∷ done) more = ap (λ (l : List Call). call ∷ l) (calls_more done more)

pub draws_more : (done more : List Step) → draws_in (done ++ more) ≡ draws_in done ++ draws_in more
draws_more [] more = refl
draws_more (Drew words ∷ done) more = ap (λ (l : List (List ℕ)). words ∷ l) (draws_more done more)
draws_more (Called shard before call ∷ done) more = draws_more done more

not_empty : {X : Type 0} (before : List X) (y : X) (after : List X) → [] ≡ before ++ y ∷ after → ⊥
not_empty [] y after e = cc
not_empty (b ∷ before) y after e = cc

-- a place in a list with one more is one in the list, or the last
pub snoc_split : {X : Type 0} (xs : List X) (x : X) (before : List X) (y : X) (after : List X) → xs ++ x ∷ [] ≡ before ++ y ∷ after
    → ((rest : List X) × (xs ≡ before ++ y ∷ rest)) ⊎ ((before ≡ xs) × (y ≡ x))
snoc_split [] x [] y after e = inr (refl, (let same : x ∷ [] ≡ y ∷ after = e in cc))
snoc_split [] x (b ∷ before) y after e = absurd (not_empty before y after (let same : x ∷ [] ≡ b ∷ (before ++ y ∷ after) = e in cc))
snoc_split (a ∷ xs) x [] y after e = inl (xs, (let same : a ∷ (xs ++ x ∷ []) ≡ y ∷ after = e in cc))
snoc_split {X} (a ∷ xs) x (b ∷ before) y after e =
    let same : a ∷ (xs ++ x ∷ []) ≡ b ∷ (before ++ y ∷ after) = e in
    more (cc) (snoc_split xs x before y after (cc))
  where
    more : a ≡ b → ((rest : List X) × (xs ≡ before ++ y ∷ rest)) ⊎ ((before ≡ xs) × (y ≡ x)) → ((rest : List X) × (a ∷ xs ≡ b ∷ (before ++ y ∷ rest))) ⊎ ((b ∷ before ≡ a ∷ xs) × (y ≡ x))
    more heads (inl p) = inl (p.0, (let t = p.1 in cc))
    more heads (inr p) = inr ((let t = p.0 in cc), p.1)

-- what stands at a place stays there
pub get_more : {X : Type 0} (xs ys : List X) (i : ℕ) (x : X) → slice_get xs i ≡ Some x → slice_get (xs ++ ys) i ≡ Some x
get_more [] ys i x e = absurd (let no : None ≡ Some x = e in cc)
get_more (a ∷ xs) ys zero x e = e
get_more (a ∷ xs) ys (suc i) x e = get_more xs ys i x e

-- an element of a list with one more is one of the list, or the last
pub get_snoc : {X : Type 0} (xs : List X) (y : X) (i : ℕ) (x : X) → slice_get (xs ++ y ∷ []) i ≡ Some x → (slice_get xs i ≡ Some x) ⊎ ((i ≡ length xs) × (x ≡ y))
get_snoc [] y zero x e = inr (refl, (let same : Some y ≡ Some x = e in cc))
get_snoc [] y (suc i) x e = absurd (let no : None ≡ Some x = e in cc)
get_snoc (a ∷ xs) y zero x e = inl e
get_snoc {X} (a ∷ xs) y (suc i) x e = more (get_snoc xs y i x e)
  where
    more : (slice_get xs i ≡ Some x) ⊎ ((i ≡ length xs) × (x ≡ y)) → (slice_get xs i ≡ Some x) ⊎ ((suc i ≡ suc (length xs)) × (x ≡ y))
    more (inl p) = inl p
    more (inr p) = inr (ap suc p.0, p.1)

-- what holds of all holds of the one at a place
pub all_get : {X : Type 0} (P : X → Type 0) (xs : List X) (i : ℕ) (x : X) → All P xs → slice_get xs i ≡ Some x → P x
all_get P [] i x all e = absurd (let no : None ≡ Some x = e in cc)
all_get P (a ∷ xs) zero x all e = subst P (let same : Some a ≡ Some x = e in cc) (All-head P a xs all)
all_get P (a ∷ xs) (suc i) x all e = all_get P xs i x (All-tail P a xs all) e

pub all_weaker : {X : Type 0} (P Q : X → Type 0) (xs : List X) → ((x : X) → P x → Q x) → All P xs → All Q xs
all_weaker P Q xs f all k d lt = f _ (all k d lt)
