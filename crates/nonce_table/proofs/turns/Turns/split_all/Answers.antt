use Rattle.std.proofs.Common.{◌≡◌, ◌+◌, ◌<◌, List, [], ◌∷◌, ◌++◌, map, take, drop, length, set, Some, ap, ◌∙◌, arith}
use Rattle.std.specs.List.{slice_get}
use Rattle.turn_table.specs.Passes.{PassFacts, next_pass}
use Rattle.nonce_shard.specs.declared.calls.Call.{Call}
use Rattle.nonce_shard.specs.declared.sizes.Setting.{Setting}
use Rattle.nonce_table.specs.Shards.{opening_of, split_pass}
use Rattle.nonce_table.proofs.Joining.{read_is}
use Rattle.nonce_table.proofs.Making.{new_of}
use Rattle.nonce_table.proofs.Places.{got, turned_here, turned_step, made_step}
use Rattle.nonce_table.proofs.turns.Turns.split_all.Goals as goal

abbrev One : Type 0
One = PassFacts Call Setting

pub loop-s-preserved : goal.loop-s-preserved
loop-s-preserved g c =
    let made = c.args.made in
    let turns = c.self.inside.shards.items in
    let s = c.loop-s.s in
    let i = c.loop-s.invariant in
    let below : s < length turns = omega arith in
    let t = got turns s below in
    let x = c.index_mut.result.now in
    let now = c.loop-s.openings.items in
    let here : slice_get now s ≡ Some (opening_of made t.0) = ap (λ (l : List One). slice_get l s) i.openings ∙ turned_here (opening_of (made + 1)) (opening_of made) turns s t.0 t.1 in
    let is : x ≡ opening_of made t.0 = read_is now s (opening_of made t.0) x here c.index_mut.ensures.value in
    let new : c.split.new.pass ≡ opening_of (made + 1) t.0 = c.split.ensures.pass ∙ ap split_pass is in
    let one : c.split.result ≡ new_of made t.0 = c.split.ensures.new ∙ ap (λ (p : One). next_pass p) is in
    record {
      openings = ap (λ (l : List One). set l s c.split.new.pass) i.openings
          ∙ ap (λ (y : One). set (map (opening_of (made + 1)) (take s turns) ++ map (opening_of made) (drop s turns)) s y) new
          ∙ turned_step (opening_of (made + 1)) (opening_of made) turns s t.0 t.1;
      passes = c.push_reserved.ensures.items ∙ ap (λ (l : List One). l ++ c.split.result ∷ []) i.passes
          ∙ ap (λ (y : One). map (new_of made) (take s turns) ++ y ∷ []) one ∙ made_step (new_of made) turns s t.0 t.1;
      room = c.push_reserved.ensures.capacity ∙ i.room;
    }
