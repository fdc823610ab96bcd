-- The step that commits a call keeps the rule.
use Rattle.std.proofs.Common.{◌≡◌, ◌≢◌, ℕ, ◌+◌, ◌%◌, ◌^◌, ◌<◌, ◌≤◌, true, List, [], ◌∷◌, ◌++◌, length, set, get_or, Option, Some, sym, refl, ap, ◌∙◌, subst, inr, ⊎_elim, arith, length-append}
use mathlib.Core.Option.{some, some-injective}
use lib.ListN.{get_elem?}
use Rattle.atomic_table.specs.Table.{Me, keeps, Allows}
use Rattle.atomic_table.proofs.Lists.{at_set, set_here}
use Rattle.turn_table.specs.declared.object.TheConstants.{MOST_CALLS}
use Rattle.turn_table.specs.declared.view.View.{View}
use Rattle.turn_table.specs.declared.view.Turn.{Turn}
use Rattle.turn_table.specs.declared.view.Turn.TheVariants.{Idle, Waiting, Ready, Holding}
use Rattle.turn_table.specs.Lists.{Each, BeginsWith}
use Rattle.turn_table.specs.History.{Entry, GrownByOthers}
use Rattle.turn_table.specs.Views.{committed}
use Rattle.turn_table.specs.Rule.{Slot, TurnFits, IsInStep, IsOfPass, Account}
use Rattle.turn_table.specs.Steps.{Committed}
use Rattle.turn_table.proofs.ListFacts.{each_append, each_as, each_both, each_of_map, at_short, begins_self, begins_then, begins_more}
use Rattle.turn_table.proofs.HistoryFacts.{own_self, own_more}
use Rattle.turn_table.proofs.Revising.{apart_set}

module _ {D C : Type 0} where
  committed_else : (log more : List (Entry C)) (served : ℕ) (q : List ℕ) (homes : List (Slot D)) (mine o : ℕ) (u : Turn C) → get_elem? q 0 ≡ some mine → o ≢ mine → TurnFits log served q homes o u → TurnFits more served q homes o u
  committed_else log more served q homes mine o Idle h ne f = f
  committed_else log more served q homes mine o (Waiting n) h ne f = f
  committed_else log more served q homes mine o Ready h ne f = f
  committed_else log more served q homes mine o (Holding l) h ne f = absurd (ne (some-injective o mine (sym f.0 ∙ h)))

module _ {C : Type 0} where
  holding_same : (l k : List (Entry C)) (t : Turn C) → t ≡ Holding l → t ≡ Holding k → l ≡ k
  holding_same l k t d e = cc

module _ {D C S : Type 0} (stands : D → List C → Type 0) (setting : D → S) (st : S) where
  pub commits : (id : ℕ) (m : Me (Option D) (View C S)) (c : C) (l : List (Entry C)) → m.0.named ≡ true → m.0.turn ≡ Holding l → length l < MOST_CALLS
      → Allows (Account stands setting st) 1 id m 0 (λ n. (n + 1) % 2 ^ 64) (λ _. Committed m (Some c))
  commits id m c l nm holding room s g wide at fits =
      let v = m.0 in
      let a = g.passes id v at nm in
      let f : TurnFits g.log g.served g.queue s.homes v.owner (Holding l) = subst (λ (t : Turn C). TurnFits g.log g.served g.queue s.homes v.owner t) holding a.turn in
      let is : g.log ≡ l = sym f.1 in
      let e : Entry C = (v.owner, c) in
      let log : List (Entry C) = l ++ e ∷ [] in
      let w : View C S = committed v log in
      let long : length log ≡ length l + 1 = length-append l (e ∷ []) in
      let same : length g.log ≡ length l = ap length is in
      let next : (length g.log + 1) % 2 ^ 64 ≡ length log = omega arith in
      let before : BeginsWith l v.seen = subst (λ (x : List (Entry C)). BeginsWith x v.seen) is (g.all id v at).seen in (
        w,
        keeps,
        tt,
        record {
          log = log;
          served = g.served;
          queue = g.queue;
          made = g.made;
          kept = g.kept;
          words = ap (λ (ws : List ℕ). set ws 0 ((get_or ws 0 0 + 1) % 2 ^ 64)) g.words ∙ ap (λ (k : ℕ). k ∷ (g.served + length g.queue) % 2 ^ 64 ∷ g.served % 2 ^ 64 ∷ []) next;
          short = omega arith;
          few = g.few;
          by = each_append (λ x. x.0 ≤ g.made) l (e ∷ []) (subst (Each (λ (x : Entry C). x.0 ≤ g.made)) is g.by) (a.owner, tt);
          once = g.once;
          waiting = g.waiting;
          joined = g.joined;
          lists = each_both (λ p. p.0 ≢ v.owner) (λ p. (1 ≤ p.0) × (p.0 ≤ g.made) × GrownByOthers g.log p.0 p.1) (λ p. (1 ≤ p.0) × (p.0 ≤ g.made) × GrownByOthers log p.0 p.1)
              (λ p n h. (h.0, h.1, own_more l p.0 v.owner c p.1 (λ q. n (sym q)) (subst (λ (x : List (Entry C)). GrownByOthers x p.0 p.1) is h.2)))
              g.kept (each_of_map (λ (x : ℕ). x ≢ v.owner) (λ (p : ℕ × List (Entry C)). p.0) g.kept a.not_joined) g.lists;
          slot = inr (f.2, id, w, set_here s.views id w (at_short s.views id v at), nm, tt);
          all = λ i x p. ⊎_elim
              (λ h. let b = (g.all id v at).noted in subst (λ (z : View C S). IsInStep log z) h.1 (record { seen = begins_self log; heard = (log, refl); noted = omega arith }))
              (λ h. let b = g.all i x h.1 in let b' = b.noted in record { seen = begins_more l e x.seen (subst (λ (y : List (Entry C)). BeginsWith y x.seen) is b.seen); heard = b.heard; noted = omega arith })
              (at_set s.views id i w x p);
          passes = λ i x p xn. ⊎_elim
              (λ h. subst (λ (z : View C S). IsOfPass st log g.served g.queue s.homes g.made g.kept z) h.1 (record {
                owner = a.owner;
                not_joined = a.not_joined;
                setting = a.setting;
                own = own_self log v.owner;
                was = own_self log v.owner;
                turn = (f.0, refl, f.2);
                opening = λ z. let o = a.opening z in (o.0, o.1, each_as (λ (p : ℕ × List (Entry C)). BeginsWith v.seen p.1) (λ p. BeginsWith log p.1) (λ p b. begins_then p.1 v.seen log b (begins_more l e v.seen before)) g.kept o.2);
              }))
              (λ h. let b = g.passes i x h.1 xn in
              let ne : x.owner ≢ v.owner = λ q. h.0 (g.apart i id x v h.1 at xn nm q) in
              record {
                owner = b.owner;
                not_joined = b.not_joined;
                setting = b.setting;
                own = own_more l x.owner v.owner c x.seen (λ q. ne (sym q)) (subst (λ (y : List (Entry C)). GrownByOthers y x.owner x.seen) is b.own);
                was = b.was;
                turn = committed_else g.log log g.served g.queue s.homes v.owner x.owner x.turn f.0 ne b.turn;
                opening = b.opening;
              })
              (at_set s.views id i w x p);
          apart = apart_set s.views id v w g.apart at nm refl;
        },
        λ k q. ap (λ (y : List (Entry C)). (committed v (y ++ e ∷ []), m.1)) (holding_same l k v.turn holding q),
      )
