-- Lists of entries that a history begins with.
use Rattle.std.proofs.Common.{Bool, cond, ◌≡◌, ◌≢◌, ℕ, suc, ◌≤◌, ◌⊎◌, List, [], ◌∷◌, ◌++◌, length, sym, refl, ap, ◌∙◌, subst, inl, inr, ⊎_elim, append_assoc, append-nil, arith}
use Rattle.std.proofs.lemmas.Bool.{le-ltb, lt-ltb}
use mathlib.Core.Logic.{dite}
use native.Mathlib.Decide.{ℕ_discrete, dec_le}
use Rattle.turn_table.specs.Lists.{Each, BeginsWith, Lacks}
use Rattle.turn_table.specs.History.{Entry, Without, GrownByOthers, calls_in, longer, owners_of}
use Rattle.turn_table.proofs.ListFacts.{each_append, each_left, each_right, begins_self, cancel, shorter_begins}

module _ {C : Type 0} where
  pub own_self : (l : List (Entry C)) (o : ℕ) → GrownByOthers l o l
  own_self l o = ([], sym (append-nil l), tt)

  pub own_more : (log : List (Entry C)) (o p : ℕ) (c : C) (l : List (Entry C)) → p ≢ o → GrownByOthers log o l → GrownByOthers (log ++ (p, c) ∷ []) o l
  own_more log o p c l n f = (f.0 ++ (p, c) ∷ [], ap (λ (x : List (Entry C)). x ++ (p, c) ∷ []) f.1 ∙ append_assoc l f.0 ((p, c) ∷ []), each_append (λ e. e.0 ≢ o) f.0 ((p, c) ∷ []) f.2 (n, tt))

  pub longer_is : (l m : List (Entry C)) → ((longer l m ≡ l) × (length m ≤ length l)) ⊎ ((longer l m ≡ m) × (length l ≤ length m))
  longer_is l m = dite (dec_le (length m) (length l))
      (λ h. inl (ap (λ (b : Bool). cond b m l) (le-ltb (length l) (length m) h), h))
      (λ n. inr (ap (λ (b : Bool). cond b m l) (lt-ltb (length l) (length m) (omega arith)), omega arith))

  -- the longer of two beginnings of a log
  pub longer_begins : (log l m : List (Entry C)) → BeginsWith log l → BeginsWith log m → BeginsWith log (longer l m) × BeginsWith (longer l m) l × BeginsWith (longer l m) m
  longer_begins log l m p q = ⊎_elim
      (λ h. subst (λ (x : List (Entry C)). BeginsWith log x × BeginsWith x l × BeginsWith x m) (sym h.0) (p, begins_self l, shorter_begins m l q.0 p.0 (sym q.1 ∙ p.1) h.1))
      (λ h. subst (λ (x : List (Entry C)). BeginsWith log x × BeginsWith x l × BeginsWith x m) (sym h.0) (q, shorter_begins l m p.0 q.0 (sym p.1 ∙ q.1) h.1, begins_self m))
      (longer_is l m)

  -- a log has grown by others from a list, and so from each list between the two
  pub own_between : (log : List (Entry C)) (o : ℕ) (l m : List (Entry C)) → GrownByOthers log o l → BeginsWith log m → BeginsWith m l → GrownByOthers log o m × GrownByOthers m o l
  own_between log o l m f b t =
      let e : f.0 ≡ t.0 ++ b.0 = cancel l f.0 (t.0 ++ b.0) (sym f.1 ∙ b.1 ∙ ap (λ (x : List (Entry C)). x ++ b.0) t.1 ∙ append_assoc l t.0 b.0) in
      let w : Without o (t.0 ++ b.0) = subst (Without o) e f.2 in
      ((b.0, b.1, each_right (λ x. x.0 ≢ o) t.0 b.0 w), (t.0, t.1, each_left (λ x. x.0 ≢ o) t.0 b.0 w))

  pub own_then : (log : List (Entry C)) (o : ℕ) (l m : List (Entry C)) → GrownByOthers log o m → GrownByOthers m o l → GrownByOthers log o l
  own_then log o l m f t = (t.0 ++ f.0, f.1 ∙ ap (λ (x : List (Entry C)). x ++ f.0) t.1 ∙ append_assoc l t.0 f.0, each_append (λ x. x.0 ≢ o) t.0 f.0 t.2 f.2)

  -- a pair of this owner, or none
  pub find : (P : ℕ × List (Entry C) → Type 0) (k : ℕ) (kept : List (ℕ × List (Entry C))) → Each P kept → Lacks k (owners_of kept) ⊎ ((p : ℕ × List (Entry C)) × (p.0 ≡ k) × P p)
  find P k [] h = inl tt
  find P k (p ∷ ps) h = dite (ℕ_discrete p.0 k) (λ e. inr (p, e, h.0)) (λ ne. ⊎_elim (λ l. inl (ne, l)) (λ f. inr f) (find P k ps h.1))

  pub owners_snoc : (kept : List (ℕ × List (Entry C))) (p : ℕ × List (Entry C)) → owners_of (kept ++ p ∷ []) ≡ owners_of kept ++ p.0 ∷ []
  owners_snoc [] p = refl
  owners_snoc (x ∷ xs) p = ap (λ (l : List ℕ). x.0 ∷ l) (owners_snoc xs p)

  pub length_owners : (kept : List (ℕ × List (Entry C))) → length (owners_of kept) ≡ length kept
  length_owners [] = refl
  length_owners (x ∷ xs) = ap suc (length_owners xs)

  pub calls_snoc : (l : List (Entry C)) (e : Entry C) → calls_in (l ++ e ∷ []) ≡ calls_in l ++ e.1 ∷ []
  calls_snoc [] e = refl
  calls_snoc (x ∷ l) e = ap (λ (k : List C). x.1 ∷ k) (calls_snoc l e)

  pub calls_long : (l : List (Entry C)) → length (calls_in l) ≡ length l
  calls_long [] = refl
  calls_long (x ∷ l) = ap suc (calls_long l)
