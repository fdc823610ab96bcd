use Rattle.std.proofs.Common.{◌≡◌, ℕ, List, [], ◌∷◌, ◌++◌, length, map, Some, sym, ap, ◌∙◌, subst, ⊎_elim, length-append, arith}
use Rattle.std.specs.List.{slice_get}
use Rattle.std.proofs.lemmas.List.{map-append}
use Rattle.turn_table.specs.Passes.{PassFacts, TableFacts}
use Rattle.nonce_shard.specs.declared.calls.Call.{Call}
use Rattle.nonce_shard.specs.declared.sizes.Setting.{Setting}
use Rattle.nonce_table.specs.Shards.{opening_of}
use Rattle.nonce_table.specs.Tables.{AreShards}
use Rattle.nonce_table.proofs.Places.{at_end}
use Rattle.nonce_table.proofs.Taking.{taken_next, taken_all, taken_at}
use Rattle.nonce_table.proofs.table.NonceTable.of.Goals as goal

abbrev One : Type 0
One = PassFacts Call Setting

abbrev Turns : Type 0
Turns = TableFacts Setting

pub open_shard-requires : goal.open_shard-requires
open_shard-requires g c =
    let i = c.loop-object.invariant in
    let yielded = c.loop-object.yielded in
    let o = c.in-Some.object in
    let here : slice_get c.args.objects.items (length yielded) ≡ Some o = ap (λ l. slice_get l (length yielded)) (sym c.into_iter-object-iterator.ensures.into_iter_gives.0) ∙ taken_at _ yielded _ _ _ o i.taken c.in-Some.ensures.steps.0 in
    (c.requires.each (length yielded) o here).1

pub loop-object-preserved : goal.loop-object-preserved
loop-object-preserved g c =
    let i = c.loop-object.invariant in
    let yielded = c.loop-object.yielded in
    let o = c.in-Some.object in
    let old = c.loop-object.shards.items in
    let t = c.in_ok-turns.turns in
    let p = c.in_ok-turns.opening in
    let items = c.push_reserved.ensures.items in
    let here : slice_get c.args.objects.items (length yielded) ≡ Some o = ap (λ l. slice_get l (length yielded)) (sym c.into_iter-object-iterator.ensures.into_iter_gives.0) ∙ taken_at _ yielded _ _ _ o i.taken c.in-Some.ensures.steps.0 in
    let new = c.requires.each (length yielded) o here in
    let more = length-append yielded (o ∷ []) in
    let longer = length-append old (t ∷ []) in
    let count = ap length items in
    record {
      taken = taken_next _ yielded _ _ _ _ o i.taken c.in-Some.ensures.steps.0 c.in-Some.ensures.steps.1;
      room = c.push_reserved.ensures.capacity ∙ i.room;
      openings_room = c.push_reserved-in-loop-object.ensures.capacity ∙ i.openings_room;
      long = let before = i.long in omega arith;
      setting = λ k u e. ⊎_elim
          (λ h. i.setting k u h)
          (λ h. ap (λ (v : Turns). v.setting) (sym h.0) ∙ c.in_ok-turns.ensures.setting ∙ new.0
          ∙ ap (λ (n : ℕ). let st : Setting = record { number = n; sizes = c.args.sizes.now } in st) (sym i.long ∙ sym h.1))
          (at_end old t u k (ap (λ (l : List Turns). slice_get l k) (sym items) ∙ e));
      openings = c.push_reserved-in-loop-object.ensures.items ∙ ap (λ (l : List One). l ++ p ∷ []) i.openings
          ∙ ap (λ (y : One). map (opening_of 0) old ++ y ∷ []) c.in_ok-turns.ensures.opening
          ∙ sym (map-append (opening_of 0) old (t ∷ [])) ∙ ap (λ (l : List Turns). map (opening_of 0) l) (sym items);
    }

pub invariant_of-result : goal.invariant_of-result
invariant_of-result g c =
    let i = c.loop-object.invariant in
    let whole : c.loop-object.yielded ≡ c.args.objects.items = taken_all _ c.loop-object.yielded _ _ i.taken c.in-None.ensures.steps.0 ∙ c.into_iter-object-iterator.ensures.into_iter_gives.0 in
    let sizes = c.args.sizes.now in
    let are : AreShards sizes 0 c.loop-object.shards.items c.loop-object.openings.items = record {
      valid = c.requires.valid;
      long = i.long ∙ ap length whole ∙ c.requires.long;
      few = omega arith;
      setting = i.setting;
      opened = i.openings;
    } in
    subst (λ (l : List Turns). AreShards sizes 0 l c.loop-object.openings.items) (sym c.of.ensures) are
