-- What a pass knows in its turn, in terms of what it knew before it.
use Rattle.std.proofs.Common.{◌≡◌, ℕ, ◌≤◌, List, [], ◌∷◌, ◌++◌, Option, Some, None, sym, ap, ◌∙◌, subst}
use Rattle.atomic_table.specs.Table.{Me}
use Rattle.turn_table.specs.declared.view.View.{View}
use Rattle.turn_table.specs.declared.view.Turn.TheVariants.{Idle, Waiting, Ready, Holding}
use Rattle.turn_table.specs.History.{Entry, GrownByOthers}
use Rattle.turn_table.specs.Views.{committed}
use Rattle.turn_table.specs.Steps.{Drew, Counted}

some_is : {A : Type 0} (x y : A) → Some x ≡ Some y → x ≡ y
some_is x y e = cc

head_is : {A : Type 0} (x y : A) (l m : List A) → x ∷ l ≡ y ∷ m → x ≡ y
head_is x y l m e = cc

-- what a slot is out with
pub carried_is : {A : Type 0} (x y : A) (l : List (ℕ × Option A)) → l ≡ (0, Some x) ∷ [] → l ≡ (0, Some y) ∷ [] → x ≡ y
carried_is {A} x y l p q = some_is x y (ap (λ (s : ℕ × Option A). s.1) (head_is (0, Some x) (0, Some y) [] [] (sym p ∙ q)))

module _ {D C S : Type 0} (stands : D → List C → Type 0) (setting : D → S) where
  -- from the drawing of a number to the look at the calls
  pub began : (m0 m1 m2 m3 : Me (Option D) (View C S)) (number found : ℕ) → Drew m0 number m1 → m2 ≡ (record (m1.0) { turn = Ready }, m1.1) → Counted stands setting m2 found m3 → Counted stands setting m0 found m3
  began m0 m1 m2 m3 number found drew ready counted =
      let M : Type 0 = Me (Option D) (View C S) in
      let e1 : m1 ≡ (record (m0.0) { turn = Waiting drew.0 }, m0.1) = drew.2 in
      let e : m2 ≡ (record (m0.0) { turn = Ready }, m0.1) = ready ∙ ap (λ (m : M). (record (m.0) { turn = Ready }, m.1)) e1 in (
        λ lt. let t = counted.0 lt in record {
          object = t.object;
          log = t.log;
          long = t.long;
          me = t.me ∙ ap (λ (m : M). (record (m.0) { turn = Holding t.log }, (0, Some t.object) ∷ m.1)) e;
          stands_is = t.stands_is;
          setting_is = ap (λ (m : M). m.0.setting) (sym e) ∙ t.setting_is;
          own = subst (λ (m : M). GrownByOthers t.log m.0.owner m.0.seen) e t.own;
        },
        λ full. let t = counted.1 full in record {
          most = t.most;
          below = subst (λ (m : M). m.0.noted ≤ found) e t.below;
          me = t.me ∙ ap (λ (m : M). (record (m.0) { turn = Ready; noted = found }, m.1)) e;
        },
      )

module _ {D C S : Type 0} where
  -- from the taking of the object to the commit, and to the giving back
  pub made : (m0 m1 m2 : Me (Option D) (View C S)) (c : C) (log : List (Entry C)) → m0.0.turn ≡ Holding log → m1 ≡ (m0.0, (0, None) ∷ [])
      → ((l : List (Entry C)) → m1.0.turn ≡ Holding l → m2 ≡ (committed m1.0 (l ++ (m1.0.owner, c) ∷ []), m1.1))
      → m2 ≡ (committed m0.0 (log ++ (m0.0.owner, c) ∷ []), (0, None) ∷ [])
  made m0 m1 m2 c log turn took commits =
      let M : Type 0 = Me (Option D) (View C S) in
      commits log (ap (λ (m : M). m.0.turn) took ∙ turn) ∙ ap (λ (m : M). (committed m.0 (log ++ (m.0.owner, c) ∷ []), m.1)) took

  pub given : (m0 m2 m3 : Me (Option D) (View C S)) (c : C) (log : List (Entry C)) (o : D) → m2 ≡ (committed m0.0 (log ++ (m0.0.owner, c) ∷ []), (0, None) ∷ []) → m3 ≡ (m2.0, (0, Some o) ∷ [])
      → m3 ≡ (committed m0.0 (log ++ (m0.0.owner, c) ∷ []), (0, Some o) ∷ [])
  given m0 m2 m3 c log o e f = f ∙ ap (λ (m : Me (Option D) (View C S)). (m.0, (0, Some o) ∷ [])) e

  -- a whole call, from a pass at rest to one at rest
  pub answered : (m0 m1 m2 : Me (Option D) (View C S)) (c : C) (log : List (Entry C)) (o : D) → m1 ≡ (record (m0.0) { turn = Holding log }, (0, Some o) ∷ m0.1)
      → ((l : List (Entry C)) → m1.0.turn ≡ Holding l → m2 ≡ (record (committed m1.0 (l ++ (m1.0.owner, c) ∷ [])) { turn = Idle }, []))
      → m2 ≡ (record (committed m0.0 (log ++ (m0.0.owner, c) ∷ [])) { turn = Idle }, [])
  answered m0 m1 m2 c log o took makes =
      let M : Type 0 = Me (Option D) (View C S) in
      makes log (ap (λ (m : M). m.0.turn) took) ∙ ap (λ (m : M). (record (committed m.0 (log ++ (m.0.owner, c) ∷ [])) { turn = Idle }, [])) took
