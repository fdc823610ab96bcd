-- What the opening pass knows once every other pass was joined, and that a new table keeps the rule.
use Rattle.std.proofs.Common.{◌≡◌, ◌≢◌, ℕ, zero, suc, ◌<◌, ◌≤◌, true, List, [], ◌∷◌, ◌++◌, length, Option, Some, sym, refl, ap, ◌∙◌, subst, inl, ⊎_elim, arith, append-nil, append_assoc}
use mathlib.Core.Logic.{dite}
use mathlib.Core.Option.{some, some-injective, some-ne-none}
use native.Mathlib.Decide.{ℕ_discrete}
use lib.ListN.{get_elem?}
use Rattle.atomic_table.specs.Table.{State, opening}
use Rattle.atomic_table.specs.Seated.{TableId}
use Rattle.turn_table.specs.declared.view.View.{View}
use Rattle.turn_table.specs.declared.view.Turn.{Turn}
use Rattle.turn_table.specs.declared.view.Turn.TheVariants.{Idle}
use Rattle.turn_table.specs.Lists.{Each, BeginsWith, Lacks, Differ}
use Rattle.turn_table.specs.History.{Entry, Without, GrownByOthers, owners_of}
use Rattle.turn_table.specs.Passes.{HasWholeHistory}
use Rattle.turn_table.specs.Views.{first_view, facts_of}
use Rattle.turn_table.specs.Rule.{IsHolding, IsInStep, IsAtHome, IsOfPass, Account}
use Rattle.turn_table.proofs.ListFacts.{each_as, each_both, each_right, each_to_map, differ_below, cancel, lacks_or_contains}
use Rattle.turn_table.proofs.HistoryFacts.{find, length_owners}

module _ {C S : Type 0} where
  first_is : {st : S} (i : ℕ) (w : View C S) → get_elem? (first_view st ∷ []) i ≡ some w → (i ≡ 0) × (first_view {C = C} st ≡ w)
  first_is {st} zero w e = (refl, some-injective (first_view st) w e)
  first_is (suc i) w e = absurd (some-ne-none w (sym e))

module _ {D C S : Type 0} (stands : D → List C → Type 0) (setting : D → S) (st : S) where
  -- an owner from 1 to `made` is in `kept`
  pub all_joined : (made k : ℕ) (owners : List ℕ) → Differ owners → Each (λ o. (1 ≤ o) × (o ≤ made)) owners → length owners ≡ made → k ≢ 0 → k ≤ made → Lacks k owners → ⊥
  all_joined made k owners d b long ne le lacks =
      let h = differ_below (suc made) (0 ∷ k ∷ owners) ((ne, each_as (λ o. (1 ≤ o) × (o ≤ made)) (λ o. o ≢ 0) (λ o f e. let f' = f.0 in omega arith) owners b), (lacks, d)) (omega arith, (omega arith, each_as (λ o. (1 ≤ o) × (o ≤ made)) (λ o. o < suc made) (λ o f. let f' = f.1 in omega arith) owners b)) in
      omega arith

  -- every pass but the opening one was joined
  pub none_left : (s : State (Option D) (View C S)) (g : Account stands setting st s) (id : ℕ) (v : View C S) → get_elem? s.views id ≡ some v → v.named ≡ true → v.owner ≡ 0 → length v.kept ≡ v.made → (k : ℕ) → k ≢ 0 → k ≤ g.made → Lacks k (owners_of g.kept) → ⊥
  none_left s g id v at nm zero_is count k ne le lacks =
      let o = (g.passes id v at nm).opening zero_is in
      all_joined g.made k (owners_of g.kept) g.joined
      (each_to_map (λ (x : ℕ). (1 ≤ x) × (x ≤ g.made)) (λ (p : ℕ × List (Entry C)). p.0) g.kept (each_as (λ p. (1 ≤ p.0) × (p.0 ≤ g.made) × GrownByOthers g.log p.0 p.1) (λ p. (1 ≤ p.0) × (p.0 ≤ g.made)) (λ p h. (h.0, h.1)) g.kept g.lists))
      (length_owners g.kept ∙ sym (ap length o.1) ∙ count ∙ o.0) ne le lacks

  seen_all : (log seen more : List (Entry C)) (made : ℕ) (kept : List (ℕ × List (Entry C))) → log ≡ seen ++ more → Without 0 more → Each (λ e. e.0 ≤ made) log
      → Each (λ p. GrownByOthers log p.0 p.1) kept → Each (λ p. BeginsWith seen p.1) kept → ((k : ℕ) → k ≢ 0 → k ≤ made → Lacks k (owners_of kept) → ⊥) → log ≡ seen
  seen_all log seen [] made kept e w b f p all = e ∙ append-nil seen
  seen_all log seen (x ∷ more) made kept e w b f p all =
      let le : x.0 ≤ made = (each_right (λ (y : Entry C). y.0 ≤ made) seen (x ∷ more) (subst (Each (λ (y : Entry C). y.0 ≤ made)) e b)).0 in
      ⊎_elim
      (λ l. absurd (all x.0 w.0 le l))
      (λ t. let q = t.0 in let fit = t.2.0 in let beg = t.2.1 in
      let rest_is : fit.0 ≡ beg.0 ++ x ∷ more = cancel q.1 fit.0 (beg.0 ++ x ∷ more) (sym fit.1 ∙ e ∙ ap (λ (y : List (Entry C)). y ++ x ∷ more) beg.1 ∙ append_assoc q.1 beg.0 (x ∷ more)) in
      let lacks : Without q.0 (x ∷ more) = each_right (λ y. y.0 ≢ q.0) beg.0 (x ∷ more) (subst (Without q.0) rest_is fit.2) in
      absurd (lacks.0 (sym t.1)))
      (find (λ q. GrownByOthers log q.0 q.1 × BeginsWith seen q.1) x.0 kept (each_both (λ q. GrownByOthers log q.0 q.1) (λ q. BeginsWith seen q.1) (λ q. GrownByOthers log q.0 q.1 × BeginsWith seen q.1) (λ q y z. (y, z)) kept f p))

  -- at the close the opening pass has seen the whole log, and the value is at home
  pub closes : (s : State (Option D) (View C S)) (id : ℕ) (v : View C S) → Account stands setting st s → get_elem? s.views id ≡ some v → v.named ≡ true → v.owner ≡ 0 → v.turn ≡ Idle → length v.kept ≡ v.made
      → IsAtHome stands setting st v.seen s.homes × ((table : TableId) → HasWholeHistory (facts_of table v)) × (v.setting ≡ Some st)
  closes s id v g at nm zero_is idle count =
      let a = g.passes id v at nm in
      let b = g.all id v at in
      let o = a.opening zero_is in
      let all = none_left s g id v at nm zero_is count in
      let fits : GrownByOthers g.log 0 v.seen = subst (λ (k : ℕ). GrownByOthers g.log k v.seen) zero_is a.own in
      let is : g.log ≡ v.seen = seen_all g.log v.seen fits.0 g.made g.kept fits.1 fits.2 g.by
      (each_as (λ p. (1 ≤ p.0) × (p.0 ≤ g.made) × GrownByOthers g.log p.0 p.1) (λ p. GrownByOthers g.log p.0 p.1) (λ p h. h.2) g.kept g.lists) o.2 all in
      let home : IsAtHome stands setting st g.log s.homes = ⊎_elim (λ h. h)
      (λ out. let x = out.2 in dite (ℕ_discrete out.1 id)
      (λ e. absurd (subst (λ (t : Turn C). IsHolding t) (ap (λ (z : View C S). z.turn) (some-injective x v (sym out.3 ∙ ap (λ (k : ℕ). get_elem? s.views k) e ∙ at)) ∙ idle) out.5))
      (λ ne. let c = g.passes out.1 x out.3 out.4 in absurd (all x.owner (λ e. ne (g.apart out.1 id x v out.3 at out.4 nm (e ∙ sym zero_is))) c.owner c.not_joined)))
      g.slot in
      let noted = b.noted in
      let same : length g.log ≡ length v.seen = ap length is in (
        subst (λ (l : List (Entry C)). IsAtHome stands setting st l s.homes) is home,
        λ table. record {
          owners = subst (λ (n : ℕ). Each (λ (e : Entry C). e.0 ≤ n) v.seen) (sym o.0) (subst (Each (λ (e : Entry C). e.0 ≤ g.made)) is g.by);
          differ = subst (λ (k : List (ℕ × List (Entry C))). Differ (owners_of k)) (sym o.1) g.joined;
          lists = subst (λ (k : List (ℕ × List (Entry C))). Each (λ p. (1 ≤ p.0) × (p.0 ≤ v.made) × GrownByOthers v.seen p.0 p.1) k) (sym o.1)
              (subst (λ (n : ℕ). Each (λ (p : ℕ × List (Entry C)). (1 ≤ p.0) × (p.0 ≤ n) × GrownByOthers v.seen p.0 p.1) g.kept) (sym o.0)
              (subst (λ (l : List (Entry C)). Each (λ (p : ℕ × List (Entry C)). (1 ≤ p.0) × (p.0 ≤ g.made) × GrownByOthers l p.0 p.1) g.kept) is g.lists));
          every = λ k one le. let le' : k ≤ g.made = subst (λ (n : ℕ). k ≤ n) o.0 le in ⊎_elim (λ lacks. absurd (all k (λ e. omega arith) le' (subst (λ (q : List (ℕ × List (Entry C))). Lacks k (owners_of q)) o.1 lacks))) (λ c. c) (lacks_or_contains k (owners_of v.kept));
          noted = omega arith;
        },
        a.setting,
      )

  pub opens : (o : D) → stands o [] → setting o ≡ st → Account stands setting st (opening (0 ∷ 0 ∷ 0 ∷ []) (Some o ∷ []) (first_view st))
  opens o ok same = record {
    log = [];
    served = 0;
    queue = [];
    made = 0;
    kept = [];
    words = refl;
    short = omega arith;
    few = omega arith;
    by = tt;
    once = tt;
    waiting = tt;
    joined = tt;
    lists = tt;
    slot = inl (o, refl, ok, same);
    all = λ i w e. subst (λ (z : View C S). IsInStep [] z) (first_is i w e).1 (record { seen = ([], refl); heard = ([], refl); noted = omega arith });
    passes = λ i w e wn. subst (λ (z : View C S). IsOfPass {D = D} st [] 0 [] (some (Some o) ∷ []) 0 [] z) (first_is i w e).1 (record {
      owner = omega arith;
      not_joined = tt;
      setting = refl;
      own = ([], refl, tt);
      was = ([], refl, tt);
      turn = tt;
      opening = λ _. (refl, refl, tt);
    });
    apart = λ i j v w p q vn wn e. (first_is i v p).0 ∙ sym (first_is j w q).0;
  }
