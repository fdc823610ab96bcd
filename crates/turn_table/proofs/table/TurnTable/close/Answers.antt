use Rattle.std.proofs.Common.{◌≡◌, List, length, Some, refl, sym, ap, ◌∙◌, subst}
use Rattle.std.specs.Option.{IsSome}
use lib.ListN.{get_elem?}
use mathlib.Core.Option.{some-injective}
use Rattle.turn_table.specs.History.{calls_in}
use Rattle.turn_table.specs.Passes.{PassFacts, HasWholeHistory}
use Rattle.turn_table.specs.Rule.{Slot}
use Rattle.turn_table.proofs.Closing.{closes}
use Rattle.turn_table.proofs.table.TurnTable.close.Goals as goal

some_is : {A : Type 0} (x y : A) → Some x ≡ Some y → x ≡ y
some_is x y e = cc

pub unwrap-requires : goal.unwrap-requires
unwrap-requires g c =
    let K : Type 0 = PassFacts g.row.O-Call.Denot g.row.O-Setting.Denot in
    let v = c.close_with-closed.ensures.values.2 in
    let k = c.pass.view_is in
    let t = closes _ _ _ v.0 _ _ v.1.0 v.1.1 c.pass.invariant.0.named (ap (λ (x : K). x.owner) k ∙ c.requires.opening) c.pass.invariant.0.turn (subst (λ (x : K). length x.kept ≡ x.made) (sym k) c.requires.all_joined) in
    let there = v.4 0 (Some t.0.0) (ap (λ (h : List (Slot g.row.O.Denot)). get_elem? h 0) t.0.1) in
    let taken = some-injective _ _ (sym c.take-object.ensures.value ∙ there) in
    subst IsSome (sym taken) refl

pub returns-clause-object : goal.returns-clause-object
returns-clause-object g c =
    let K : Type 0 = PassFacts g.row.O-Call.Denot g.row.O-Setting.Denot in
    let v = c.close_with-closed.ensures.values.2 in
    let k = c.pass.view_is in
    let t = closes _ _ _ v.0 _ _ v.1.0 v.1.1 c.pass.invariant.0.named (ap (λ (x : K). x.owner) k ∙ c.requires.opening) c.pass.invariant.0.turn (subst (λ (x : K). length x.kept ≡ x.made) (sym k) c.requires.all_joined) in
    let there = v.4 0 (Some t.0.0) (ap (λ (h : List (Slot g.row.O.Denot)). get_elem? h 0) t.0.1) in
    let taken = some-injective _ _ (sym c.take-object.ensures.value ∙ there) in
    let o = some_is t.0.0 c.unwrap.result (sym taken ∙ c.unwrap.ensures) in
    subst (λ (x : K). g.O.Object.stands_for c.unwrap.result (calls_in x.seen)) k (subst (λ (y : g.row.O.Denot). g.O.Object.stands_for y (calls_in c.pass.inside.seat.me.0.seen)) o t.0.2)

pub returns-clause-setting : goal.returns-clause-setting
returns-clause-setting g c =
    let K : Type 0 = PassFacts g.row.O-Call.Denot g.row.O-Setting.Denot in
    let v = c.close_with-closed.ensures.values.2 in
    let k = c.pass.view_is in
    let t = closes _ _ _ v.0 _ _ v.1.0 v.1.1 c.pass.invariant.0.named (ap (λ (x : K). x.owner) k ∙ c.requires.opening) c.pass.invariant.0.turn (subst (λ (x : K). length x.kept ≡ x.made) (sym k) c.requires.all_joined) in
    let there = v.4 0 (Some t.0.0) (ap (λ (h : List (Slot g.row.O.Denot)). get_elem? h 0) t.0.1) in
    let taken = some-injective _ _ (sym c.take-object.ensures.value ∙ there) in
    let o = some_is t.0.0 c.unwrap.result (sym taken ∙ c.unwrap.ensures) in
    sym (ap (λ (x : K). x.setting) k) ∙ t.2 ∙ ap Some (sym t.0.3) ∙ ap (λ (y : g.row.O.Denot). Some (g.O.Object.setting y)) o

pub returns-clause-history : goal.returns-clause-history
returns-clause-history g c =
    let K : Type 0 = PassFacts g.row.O-Call.Denot g.row.O-Setting.Denot in
    let v = c.close_with-closed.ensures.values.2 in
    let k = c.pass.view_is in
    let t = closes _ _ _ v.0 _ _ v.1.0 v.1.1 c.pass.invariant.0.named (ap (λ (x : K). x.owner) k ∙ c.requires.opening) c.pass.invariant.0.turn (subst (λ (x : K). length x.kept ≡ x.made) (sym k) c.requires.all_joined) in
    subst HasWholeHistory k (t.1 c.pass.inside.seat.table_id)
