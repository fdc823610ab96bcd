-- A pass that is joined into the opening one, a note that a pass hears, and the look that comes after each keep the rule.
use Rattle.std.proofs.Common.{◌≡◌, ◌≢◌, ℕ, ◌≤◌, true, false, List, [], ◌∷◌, ◌++◌, set, get_or, sym, refl, ap, ◌∙◌, subst, inl, inr, ⊎_elim, arith, Option}
use mathlib.Core.Option.{some}
use lib.ListN.{get_elem?}
use Rattle.atomic_table.specs.Table.{Me, keeps, Allows, Joins}
use Rattle.atomic_table.proofs.Lists.{at_set, set_else}
use Rattle.turn_table.specs.declared.view.View.{View}
use Rattle.turn_table.specs.declared.view.Turn.{Turn}
use Rattle.turn_table.specs.declared.view.Turn.TheVariants.{Idle}
use Rattle.turn_table.specs.Lists.{Each, BeginsWith, Lacks, Differ}
use Rattle.turn_table.specs.History.{Entry, GrownByOthers, longer, owners_of}
use Rattle.turn_table.specs.Views.{joined, told, spent}
use Rattle.turn_table.specs.Rule.{IsHolding, IsInStep, IsOfPass, Account}
use Rattle.turn_table.specs.Steps.{Looked}
use Rattle.turn_table.proofs.ListFacts.{each_append, each_as, differ_snoc, begins_then}
use Rattle.turn_table.proofs.HistoryFacts.{own_self, own_between, own_then, longer_begins, owners_snoc}
use Rattle.turn_table.proofs.Revising.{no_name, apart_set, apart_spent, out_still, slot_still, revised, forgotten}

module _ {D C S : Type 0} (stands : D → List C → Type 0) (setting : D → S) (st : S) where
  pub joins : (id : ℕ) (v : View C S) (other : ℕ) (w : View C S) → v.named ≡ true → v.owner ≡ 0 → v.turn ≡ Idle → w.named ≡ true → w.turn ≡ Idle → Joins (Account stands setting st) id v other w (joined v w) spent
  joins id v other w nm zero_is idle wn widle s g at apart there =
      let both : View C S = joined v w in
      let gone : View C S = spent in
      let one = set s.views id both in
      let was : get_elem? s.views other ≡ some w = sym (set_else s.views id other both apart) ∙ there in
      let a = g.passes id v at nm in
      let b = g.all id v at in
      let c = g.passes other w was wn in
      let d = g.all other w was in
      let o = a.opening zero_is in
      let l = longer v.seen w.seen in
      let p : ℕ × List (Entry C) = (w.owner, w.seen) in
      let kept : List (ℕ × List (Entry C)) = v.kept ++ p ∷ [] in
      let same : g.kept ≡ v.kept = sym o.1 in
      let long = longer_begins g.log v.seen w.seen b.seen d.seen in
      let between = own_between g.log v.owner v.seen l a.own long.0 long.1 in
      let other_is : w.owner ≢ 0 = λ e. apart (g.apart other id w v was at wn nm (e ∙ sym zero_is)) in
      let vn = b.noted in let wnoted = d.noted in
      let not : IsHolding v.turn → ⊥ = λ i. subst (λ (t : Turn C). IsHolding t) idle i in
      let wnot : IsHolding w.turn → ⊥ = λ i. subst (λ (t : Turn C). IsHolding t) widle i in
      let lacks : (x : ℕ) → Lacks x (owners_of g.kept) → w.owner ≢ x → Lacks x (owners_of kept) = λ x f n. subst (Lacks x) (sym (owners_snoc v.kept p)) (each_append (λ y. y ≢ x) (owners_of v.kept) (w.owner ∷ []) (subst (λ (k : List (ℕ × List (Entry C))). Lacks x (owners_of k)) same f) (n, tt)) in
      record {
        log = g.log;
        served = g.served;
        queue = g.queue;
        made = g.made;
        kept = kept;
        words = g.words;
        short = g.short;
        few = g.few;
        by = g.by;
        once = g.once;
        waiting = g.waiting;
        joined = subst Differ (sym (owners_snoc v.kept p)) (differ_snoc (owners_of v.kept) w.owner (subst (λ (k : List (ℕ × List (Entry C))). Differ (owners_of k)) same g.joined) (subst (λ (k : List (ℕ × List (Entry C))). Lacks w.owner (owners_of k)) same c.not_joined));
        lists = each_append (λ q. (1 ≤ q.0) × (q.0 ≤ g.made) × GrownByOthers g.log q.0 q.1) v.kept (p ∷ []) (subst (Each (λ (q : ℕ × List (Entry C)). (1 ≤ q.0) × (q.0 ≤ g.made) × GrownByOthers g.log q.0 q.1)) same g.lists) ((omega arith, c.owner, c.own), tt);
        slot = ⊎_elim (λ h. inl h) (λ h. inr (out_still s.homes one other w gone there wnot (out_still s.homes s.views id v both at not h))) g.slot;
        all = λ i x q. ⊎_elim
            (λ h. subst (λ (z : View C S). IsInStep g.log z) h.1 (record { seen = (g.log, refl); heard = ([], refl); noted = omega arith }))
            (λ h. ⊎_elim (λ k. subst (λ (z : View C S). IsInStep g.log z) k.1 (record { seen = long.0; heard = long.2; noted = omega arith })) (λ k. g.all i x k.1) (at_set s.views id i both x h.1))
            (at_set one other i gone x q);
        passes = λ i x q xn. ⊎_elim
            (λ h. no_name (sym (ap (λ (z : View C S). z.named) h.1 ∙ xn)))
            (λ h. ⊎_elim
            (λ k. subst (λ (z : View C S). IsOfPass st g.log g.served g.queue s.homes g.made kept z) k.1 (record {
              owner = a.owner;
              not_joined = lacks v.owner a.not_joined (λ e. other_is (e ∙ zero_is));
              setting = a.setting;
              own = between.0;
              was = own_then l v.owner v.was v.seen between.1 a.was;
              turn = a.turn;
              opening = λ _. (
                o.0,
                refl,
                each_append (λ y. BeginsWith l y.1) v.kept (p ∷ [])
                    (each_as (λ (y : ℕ × List (Entry C)). BeginsWith v.seen y.1) (λ y. BeginsWith l y.1) (λ y f. begins_then y.1 v.seen l f long.1) v.kept (subst (Each (λ (y : ℕ × List (Entry C)). BeginsWith v.seen y.1)) same o.2))
                    (long.2, tt),
              );
            }))
            (λ k. let f = g.passes i x k.1 xn in record {
              owner = f.owner;
              not_joined = lacks x.owner f.not_joined (λ e. h.0 (g.apart i other x w k.1 was xn wn (sym e)));
              setting = f.setting;
              own = f.own;
              was = f.was;
              turn = f.turn;
              opening = λ z. absurd (k.0 (g.apart i id x v k.1 at xn nm (z ∙ sym zero_is)));
            })
            (at_set s.views id i both x h.1))
            (at_set one other i gone x q);
        apart = apart_spent one other (apart_set s.views id v both g.apart at nm refl);
      }

  pub hears : (id : ℕ) (v : View C S) (other : ℕ) (w : View C S) → v.named ≡ true → v.turn ≡ Idle → w.named ≡ false → Joins (Account stands setting st) id v other w (told v w) spent
  hears id v other w nm idle wn s g at apart there =
      let both : View C S = told v w in
      let was : get_elem? s.views other ≡ some w = sym (set_else s.views id other both apart) ∙ there in
      let a = g.passes id v at nm in
      let b = g.all id v at in
      let l = longer v.seen w.seen in
      let long = longer_begins g.log v.seen w.seen b.seen (g.all other w was).seen in
      let between = own_between g.log v.owner v.seen l a.own long.0 long.1 in
      let not : IsHolding v.turn → ⊥ = λ i. subst (λ (t : Turn C). IsHolding t) idle i in
      forgotten stands setting st _
      (revised stands setting st s g id v at nm both refl s.words s.homes g.served g.queue g.words g.once g.waiting (slot_still stands setting st s g id v both at not)
      (record { seen = long.0; heard = long.2; noted = b.noted })
      (record {
        owner = a.owner;
        not_joined = a.not_joined;
        setting = a.setting;
        own = between.0;
        was = own_then l v.owner v.was v.seen between.1 a.was;
        turn = a.turn;
        opening = λ z. let o = a.opening z in (o.0, o.1, each_as (λ (y : ℕ × List (Entry C)). BeginsWith v.seen y.1) (λ y. BeginsWith l y.1) (λ y f. begins_then y.1 v.seen l f long.1) g.kept o.2);
      })
      (λ o u ne t. t))
      other w there wn

  pub looks : (id : ℕ) (m : Me (Option D) (View C S)) → m.0.named ≡ true → m.0.turn ≡ Idle → Allows (Account stands setting st) 1 id m 0 (λ n. n) (λ _. Looked m)
  looks id m nm idle s g wide at fits =
      let v = m.0 in
      let w : View C S = record v { was = v.seen; heard = [] } in
      let a = g.passes id v at nm in
      let b = g.all id v at in
      let not : IsHolding v.turn → ⊥ = λ i. subst (λ (t : Turn C). IsHolding t) idle i in (
        w,
        keeps,
        tt,
        revised stands setting st s g id v at nm w refl _ s.homes g.served g.queue (ap (λ (ws : List ℕ). set ws 0 (get_or ws 0 0)) g.words) g.once g.waiting (slot_still stands setting st s g id v w at not)
            (record { seen = b.seen; heard = (v.seen, refl); noted = b.noted })
            (record { owner = a.owner; not_joined = a.not_joined; setting = a.setting; own = a.own; was = own_self v.seen v.owner; turn = a.turn; opening = a.opening })
            (λ o u ne t. t),
        (refl, a.was, b.heard),
      )
