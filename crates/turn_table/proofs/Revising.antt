-- One view becomes another, and the table's rule holds still: what the steps share.
use Rattle.std.proofs.Common.{◌≡◌, ◌≢◌, ℕ, ◌+◌, ◌%◌, ◌^◌, ◌≤◌, ◌⊎◌, true, false, Option, List, [], ◌∷◌, length, set, sym, ap, ◌∙◌, subst, inl, inr, ⊎_elim, arith, refl}
use mathlib.Core.Option.{some, some-injective}
use lib.ListN.{get_elem?}
use Rattle.atomic_table.specs.Table.{State}
use Rattle.atomic_table.proofs.Lists.{at_set, set_else}
use Rattle.turn_table.specs.declared.view.View.{View}
use Rattle.turn_table.specs.declared.view.Turn.{Turn}
use Rattle.turn_table.specs.Lists.{Each, Differ}
use Rattle.turn_table.specs.Views.{spent}
use Rattle.turn_table.specs.Rule.{Slot, IsHolding, TurnFits, IsInStep, IsOfPass, AreApart, IsAtHome, IsOut, Account}

pub no_name : {A : Type 0} → true ≡ false → A
no_name e = absurd (cc)

module _ {C S : Type 0} where
  pub apart_set : (views : List (View C S)) (id : ℕ) (v w : View C S) → AreApart views → get_elem? views id ≡ some v → v.named ≡ true → w.owner ≡ v.owner → AreApart (set views id w)
  apart_set views id v w a at nm same i j x y p q xn yn e = ⊎_elim
      (λ h. ⊎_elim (λ k. h.0 ∙ sym k.0) (λ k. h.0 ∙ a id j v y at k.1 nm yn (sym same ∙ ap (λ (z : View C S). z.owner) h.1 ∙ e)) (at_set views id j w y q))
      (λ h. ⊎_elim (λ k. a i id x v h.1 at xn nm (e ∙ sym (ap (λ (z : View C S). z.owner) k.1) ∙ same) ∙ sym k.0) (λ k. a i j x y h.1 k.1 xn yn e) (at_set views id j w y q))
      (at_set views id i w x p)

  pub apart_spent : (views : List (View C S)) (id : ℕ) → AreApart views → AreApart (set views id spent)
  apart_spent views id a i j x y p q xn yn e = ⊎_elim
      (λ h. no_name (sym (ap (λ (z : View C S). z.named) h.1 ∙ xn)))
      (λ h. ⊎_elim (λ k. no_name (sym (ap (λ (z : View C S). z.named) k.1 ∙ yn))) (λ k. a i j x y h.1 k.1 xn yn e) (at_set views id j spent y q))
      (at_set views id i spent x p)

module _ {D C S : Type 0} where
  -- a view that doesn't hold the object changes beside the one that does
  pub out_still : (homes : List (Slot D)) (views : List (View C S)) (id : ℕ) (v w : View C S) → get_elem? views id ≡ some v → (IsHolding v.turn → ⊥) → IsOut homes views → IsOut homes (set views id w)
  out_still homes views id v w at not out = let i = out.1 in let x = out.2 in (
    out.0,
    i,
    x,
    set_else views id i w (λ e. not (subst (λ (z : View C S). IsHolding z.turn) (some-injective x v (sym out.3 ∙ ap (λ (k : ℕ). get_elem? views k) e ∙ at)) out.5)) ∙ out.3,
    out.4,
    out.5,
  )

module _ {D C S : Type 0} (stands : D → List C → Type 0) (setting : D → S) (st : S) where
  pub slot_still : (s : State (Option D) (View C S)) (g : Account stands setting st s) (id : ℕ) (v w : View C S) → get_elem? s.views id ≡ some v → (IsHolding v.turn → ⊥)
      → IsAtHome stands setting st g.log s.homes ⊎ IsOut s.homes (set s.views id w)
  slot_still s g id v w at not = ⊎_elim (λ h. inl h) (λ h. inr (out_still s.homes s.views id v w at not h)) g.slot

  -- a view with a name becomes another of the same owner, and the log stays
  pub revised : (s : State (Option D) (View C S)) (g : Account stands setting st s) (id : ℕ) (v : View C S) → get_elem? s.views id ≡ some v → v.named ≡ true
      → (w : View C S) → w.owner ≡ v.owner → (ws : List ℕ) (hs : List (Slot D)) (served : ℕ) (queue : List ℕ)
      → ws ≡ length g.log ∷ (served + length queue) % 2 ^ 64 ∷ served % 2 ^ 64 ∷ []
      → Differ queue → Each (λ o. o ≤ g.made) queue
      → IsAtHome stands setting st g.log hs ⊎ IsOut hs (set s.views id w)
      → IsInStep g.log w → IsOfPass st g.log served queue hs g.made g.kept w
      → ((o : ℕ) (u : Turn C) → o ≢ v.owner → TurnFits g.log g.served g.queue s.homes o u → TurnFits g.log served queue hs o u)
      → Account stands setting st (record { words = ws; homes = hs; views = set s.views id w })
  revised s g id v at nm w same ws hs served queue words once waiting slot in_step of_pass others = record {
    log = g.log;
    served = served;
    queue = queue;
    made = g.made;
    kept = g.kept;
    words = words;
    short = g.short;
    few = g.few;
    by = g.by;
    once = once;
    waiting = waiting;
    joined = g.joined;
    lists = g.lists;
    slot = slot;
    all = λ i x e. ⊎_elim (λ h. subst (λ (z : View C S). IsInStep g.log z) h.1 in_step) (λ h. g.all i x h.1) (at_set s.views id i w x e);
    passes = λ i x e xn. ⊎_elim
        (λ h. subst (λ (z : View C S). IsOfPass st g.log served queue hs g.made g.kept z) h.1 of_pass)
        (λ h. let a = g.passes i x h.1 xn in record { owner = a.owner; not_joined = a.not_joined; setting = a.setting; own = a.own; was = a.was; turn = others x.owner x.turn (λ q. h.0 (g.apart i id x v h.1 at xn nm q)) a.turn; opening = a.opening })
        (at_set s.views id i w x e);
    apart = apart_set s.views id v w g.apart at nm same;
  }

  -- a view without a name is spent
  pub forgotten : (s : State (Option D) (View C S)) → Account stands setting st s → (id : ℕ) (v : View C S) → get_elem? s.views id ≡ some v → v.named ≡ false
      → Account stands setting st (record { words = s.words; homes = s.homes; views = set s.views id spent })
  forgotten s g id v at un =
      let gone : View C S = spent in
      record {
        log = g.log;
        served = g.served;
        queue = g.queue;
        made = g.made;
        kept = g.kept;
        words = g.words;
        short = g.short;
        few = g.few;
        by = g.by;
        once = g.once;
        waiting = g.waiting;
        joined = g.joined;
        lists = g.lists;
        slot = ⊎_elim (λ h. inl h) (λ t. inr (t.0, t.1, t.2, set_else s.views id t.1 gone (λ e. no_name (sym t.4 ∙ ap (λ (z : View C S). z.named) (some-injective t.2 v (sym t.3 ∙ ap (λ (k : ℕ). get_elem? s.views k) e ∙ at)) ∙ un)) ∙ t.3, t.4, t.5)) g.slot;
        all = λ i x e. ⊎_elim (λ h. subst (λ (z : View C S). IsInStep g.log z) h.1 (record { seen = (g.log, refl); heard = ([], refl); noted = omega arith })) (λ h. g.all i x h.1) (at_set s.views id i gone x e);
        passes = λ i x e xn. ⊎_elim (λ h. no_name (sym (ap (λ (z : View C S). z.named) h.1 ∙ xn))) (λ h. g.passes i x h.1 xn) (at_set s.views id i gone x e);
        apart = apart_spent s.views id g.apart;
      }
