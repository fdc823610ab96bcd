-- A pass that is split from the opening one, and a note, keep the rule.
use Rattle.std.proofs.Common.{◌≡◌, ◌≢◌, ℕ, ◌+◌, ◌^◌, ◌<◌, ◌≤◌, true, List, [], ◌∷◌, ◌++◌, set, sym, refl, ap, ◌∙◌, subst, inl, inr, ⊎_elim, arith}
use mathlib.Core.Option.{some}
use lib.ListN.{get_elem?}
use Rattle.atomic_table.specs.Table.{Splits}
use Rattle.atomic_table.proofs.Lists.{at_set, set_again, at_longer}
use Rattle.turn_table.specs.declared.view.View.{View}
use Rattle.turn_table.specs.declared.view.Turn.{Turn}
use Rattle.turn_table.specs.declared.view.Turn.TheVariants.{Idle}
use Rattle.turn_table.specs.Lists.{Each}
use Rattle.turn_table.specs.History.{Entry, GrownByOthers}
use Rattle.turn_table.specs.Views.{split_left, split_right, note_of}
use Rattle.turn_table.specs.Rule.{Slot, IsHolding, IsInStep, IsOfPass, AreApart, IsOut, Account}
use Rattle.turn_table.proofs.ListFacts.{each_as, each_right, each_to_map, at_end}
use Rattle.turn_table.proofs.HistoryFacts.{own_self}
use Rattle.turn_table.proofs.Revising.{no_name, apart_set, out_still}

module _ {C S : Type 0} where
  apart_snoc : (views : List (View C S)) (w : View C S) → AreApart views → (w.named ≡ true → (i : ℕ) (x : View C S) → get_elem? views i ≡ some x → x.named ≡ true → x.owner ≢ w.owner) → AreApart (views ++ w ∷ [])
  apart_snoc views w a new i j x y p q xn yn e = ⊎_elim
      (λ h. ⊎_elim
      (λ k. a i j x y h k xn yn e)
      (λ k. absurd (new (ap (λ (z : View C S). z.named) k.0 ∙ yn) i x h xn (e ∙ sym (ap (λ (z : View C S). z.owner) k.0))))
      (at_end views w y j q))
      (λ h. ⊎_elim
      (λ k. absurd (new (ap (λ (z : View C S). z.named) h.0 ∙ xn) j y k yn (sym e ∙ sym (ap (λ (z : View C S). z.owner) h.0))))
      (λ k. h.1 ∙ sym k.1)
      (at_end views w y j q))
      (at_end views w x i p)

module _ {D C S : Type 0} where
  out_longer : (homes : List (Slot D)) (views : List (View C S)) (w : View C S) → IsOut homes views → IsOut homes (views ++ w ∷ [])
  out_longer homes views w out = (out.0, out.1, out.2, at_longer views (w ∷ []) out.1 out.2 out.3, out.4, out.5)

module _ {D C S : Type 0} (stands : D → List C → Type 0) (setting : D → S) (st : S) where
  pub splits : (id : ℕ) (v : View C S) → v.named ≡ true → v.owner ≡ 0 → v.made + 1 < 2 ^ 32 → v.turn ≡ Idle → Splits (Account stands setting st) id v (split_left v) (split_right v)
  splits id v nm zero_is few idle s g at =
      let a = g.passes id v at nm in
      let o = a.opening zero_is in
      let made : v.made ≡ g.made = o.0 in
      let w : View C S = split_left v in
      let new : View C S = split_right v in
      let not : IsHolding v.turn → ⊥ = λ i. subst (λ (t : Turn C). IsHolding t) idle i in
      let now = set s.views id w in
      let b = g.all id v at in
      record {
        log = g.log;
        served = g.served;
        queue = g.queue;
        made = v.made + 1;
        kept = g.kept;
        words = g.words;
        short = g.short;
        few = few;
        by = each_as (λ x. x.0 ≤ g.made) (λ x. x.0 ≤ v.made + 1) (λ x h. omega arith) g.log g.by;
        once = g.once;
        waiting = each_as (λ x. x ≤ g.made) (λ x. x ≤ v.made + 1) (λ x h. omega arith) g.queue g.waiting;
        joined = g.joined;
        lists = each_as (λ p. (1 ≤ p.0) × (p.0 ≤ g.made) × GrownByOthers g.log p.0 p.1) (λ p. (1 ≤ p.0) × (p.0 ≤ v.made + 1) × GrownByOthers g.log p.0 p.1) (λ p h. let h' = h.1 in (h.0, omega arith, h.2)) g.kept g.lists;
        slot = ⊎_elim (λ h. inl h) (λ h. inr (out_longer s.homes now new (out_still s.homes s.views id v w at not h))) g.slot;
        all = λ i x p. ⊎_elim
            (λ h. ⊎_elim (λ k. subst (λ (z : View C S). IsInStep g.log z) k.1 (record { seen = b.seen; heard = b.heard; noted = b.noted })) (λ k. g.all i x k.1) (at_set s.views id i w x h))
            (λ h. subst (λ (z : View C S). IsInStep g.log z) h.0 (record { seen = b.seen; heard = (v.seen, refl); noted = omega arith }))
            (at_end now new x i p);
        passes = λ i x p xn. ⊎_elim
            (λ h. ⊎_elim
            (λ k. subst (λ (z : View C S). IsOfPass st g.log g.served g.queue s.homes (v.made + 1) g.kept z) k.1 (record {
              owner = omega arith;
              not_joined = a.not_joined;
              setting = a.setting;
              own = a.own;
              was = a.was;
              turn = a.turn;
              opening = λ _. (refl, o.1, o.2);
            }))
            (λ k. let c = g.passes i x k.1 xn in let c' = c.owner in record {
              owner = omega arith;
              not_joined = c.not_joined;
              setting = c.setting;
              own = c.own;
              was = c.was;
              turn = c.turn;
              opening = λ z. absurd (k.0 (g.apart i id x v k.1 at xn nm (z ∙ sym zero_is)));
            })
            (at_set s.views id i w x h))
            (λ h. subst (λ (z : View C S). IsOfPass st g.log g.served g.queue s.homes (v.made + 1) g.kept z) h.0 (record {
              owner = omega arith;
              not_joined = each_to_map (λ (y : ℕ). y ≢ v.made + 1) (λ (q : ℕ × List (Entry C)). q.0) g.kept (each_as (λ q. (1 ≤ q.0) × (q.0 ≤ g.made) × GrownByOthers g.log q.0 q.1) (λ q. q.0 ≢ v.made + 1) (λ q f e. let f' = f.1 in omega arith) g.kept g.lists);
              setting = a.setting;
              own = (b.seen.0, b.seen.1, each_as (λ e. e.0 ≤ g.made) (λ e. e.0 ≢ v.made + 1) (λ e f q. omega arith) b.seen.0 (each_right (λ e. e.0 ≤ g.made) v.seen b.seen.0 (subst (Each (λ (e : Entry C). e.0 ≤ g.made)) b.seen.1 g.by)));
              was = own_self v.seen (v.made + 1);
              turn = each_as (λ y. y ≤ g.made) (λ y. y ≢ v.made + 1) (λ y f q. omega arith) g.queue g.waiting;
              opening = λ z. absurd (omega arith);
            }))
            (at_end now new x i p);
        apart = apart_snoc now new (apart_set s.views id v w g.apart at nm refl) (λ _ i x p xn e. ⊎_elim
            (λ k. let k' = ap (λ (z : View C S). z.owner) k.1 in let e' : x.owner ≡ v.made + 1 = e in absurd (omega arith))
            (λ k. let c = (g.passes i x k.1 xn).owner in let e' : x.owner ≡ v.made + 1 = e in absurd (omega arith))
            (at_set s.views id i w x p));
      }

  pub notes : (id : ℕ) (v : View C S) → Splits (Account stands setting st) id v v (note_of v)
  notes id v s g at =
      let note : View C S = note_of v in
      let b = g.all id v at in
      let still : set s.views id v ≡ s.views = set_again s.views id v at in
      subst (λ (l : List (View C S)). Account stands setting st (record { words = s.words; homes = s.homes; views = l ++ note ∷ [] })) (sym still) (record {
        log = g.log;
        served = g.served;
        queue = g.queue;
        made = g.made;
        kept = g.kept;
        words = g.words;
        short = g.short;
        few = g.few;
        by = g.by;
        once = g.once;
        waiting = g.waiting;
        joined = g.joined;
        lists = g.lists;
        slot = ⊎_elim (λ h. inl h) (λ h. inr (out_longer s.homes s.views note h)) g.slot;
        all = λ i x p. ⊎_elim (λ h. g.all i x h) (λ h. subst (λ (z : View C S). IsInStep g.log z) h.0 (record { seen = b.seen; heard = b.heard; noted = b.noted })) (at_end s.views note x i p);
        passes = λ i x p xn. ⊎_elim (λ h. g.passes i x h xn) (λ h. no_name (sym (ap (λ (z : View C S). z.named) h.0 ∙ xn))) (at_end s.views note x i p);
        apart = apart_snoc s.views note g.apart (λ e. no_name (sym e));
      })
