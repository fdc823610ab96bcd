use Rattle.std.proofs.Common.{◌≡◌, ℕ, ◌<◌, List, [], ◌∷◌, length, map, set, Some, sym, ap, ◌∙◌, length-append, arith}
use Rattle.std.specs.List.{slice_get}
use Rattle.turn_table.specs.Passes.{PassFacts, TableFacts, joined_pass}
use Rattle.nonce_shard.specs.declared.calls.Call.{Call}
use Rattle.nonce_shard.specs.declared.sizes.Setting.{Setting}
use Rattle.nonce_table.specs.Passes.{TablePassFacts, name_of}
use Rattle.nonce_table.specs.Tables.{names_of}
use Rattle.nonce_table.specs.Closing.{joined_at}
use Rattle.nonce_table.proofs.Taking.{taken_next, taken_all, taken_at}
use Rattle.nonce_table.proofs.Places.{some_is, get_short}
use Rattle.nonce_table.proofs.Joining.{as_many, all_joined, joined_done, joined_rest, named_at, openings_set, read_at}
use Rattle.nonce_table.proofs.turns.Turns.join.Goals as goal

abbrev One : Type 0
One = PassFacts Call Setting

abbrev Turns : Type 0
Turns = TableFacts Setting

pub join_shard-requires-clause-opening : goal.join_shard-requires-clause-opening
join_shard-requires-clause-opening g c =
    let i = c.loop-one.invariant in
    let s = c.loop-one.s in
    let all = c.into_passes-one-items.result.items in
    let turns = c.self.inside.shards.items in
    let now = c.loop-one.openings.items in
    let names : map (λ (p : One). name_of p.table) all ≡ names_of turns = ap (λ (k : TablePassFacts). k.table) c.into_passes-one-items.ensures.same ∙ c.requires.pass ∙ ap names_of (sym c.self.view_is) in
    let here : slice_get all s ≡ Some c.in-Some.one = ap (λ (k : ℕ). slice_get all k) i.place ∙ ap (λ (l : List One). slice_get l (length c.loop-one.yielded)) (sym c.into_iter-one-iterator.ensures.into_iter_gives.0) ∙ taken_at _ c.loop-one.yielded _ _ _ c.in-Some.one i.taken c.in-Some.ensures.steps.0 in
    let n = named_at all turns names s c.in-Some.one here in
    let below : s < length turns = get_short turns s n.0 n.1 in
    let long = i.openings.long in
    i.openings.each s c.index.result.now c.index_mut.result.now (read_at turns s c.index.result.now below c.index.ensures) (read_at now s c.index_mut.result.now (omega arith) c.index_mut.ensures.value)

pub join_shard-requires-clause-table : goal.join_shard-requires-clause-table
join_shard-requires-clause-table g c =
    let i = c.loop-one.invariant in
    let s = c.loop-one.s in
    let all = c.into_passes-one-items.result.items in
    let turns = c.self.inside.shards.items in
    let names : map (λ (p : One). name_of p.table) all ≡ names_of turns = ap (λ (k : TablePassFacts). k.table) c.into_passes-one-items.ensures.same ∙ c.requires.pass ∙ ap names_of (sym c.self.view_is) in
    let here : slice_get all s ≡ Some c.in-Some.one = ap (λ (k : ℕ). slice_get all k) i.place ∙ ap (λ (l : List One). slice_get l (length c.loop-one.yielded)) (sym c.into_iter-one-iterator.ensures.into_iter_gives.0) ∙ taken_at _ c.loop-one.yielded _ _ _ c.in-Some.one i.taken c.in-Some.ensures.steps.0 in
    let n = named_at all turns names s c.in-Some.one here in
    let below : s < length turns = get_short turns s n.0 n.1 in
    n.2 ∙ ap (λ (t : Turns). t.id) (some_is n.0 c.index.result.now (sym n.1 ∙ read_at turns s c.index.result.now below c.index.ensures))

pub loop-one-preserved : goal.loop-one-preserved
loop-one-preserved g c =
    let i = c.loop-one.invariant in
    let s = c.loop-one.s in
    let all = c.into_passes-one-items.result.items in
    let turns = c.self.inside.shards.items in
    let first = c.args.openings.now.items in
    let now = c.loop-one.openings.items in
    let yielded = c.loop-one.yielded in
    let one = c.in-Some.one in
    let t = c.index.result.now in
    let x = c.index_mut.result.now in
    let names : map (λ (p : One). name_of p.table) all ≡ names_of turns = ap (λ (k : TablePassFacts). k.table) c.into_passes-one-items.ensures.same ∙ c.requires.pass ∙ ap names_of (sym c.self.view_is) in
    let here : slice_get all s ≡ Some one = ap (λ (k : ℕ). slice_get all k) i.place ∙ ap (λ (l : List One). slice_get l (length yielded)) (sym c.into_iter-one-iterator.ensures.into_iter_gives.0) ∙ taken_at _ yielded _ _ _ one i.taken c.in-Some.ensures.steps.0 in
    let n = named_at all turns names s one here in
    let below : s < length turns = get_short turns s n.0 n.1 in
    let long = i.openings.long in
    let at_t : slice_get turns s ≡ Some t = read_at turns s t below c.index.ensures in
    let at_x : slice_get now s ≡ Some x = read_at now s x (omega arith) c.index_mut.ensures.value in
    let new : c.join_shard.new.opening ≡ joined_pass x one = c.join_shard.ensures.joined in
    record {
      taken = taken_next _ yielded _ _ _ _ one i.taken c.in-Some.ensures.steps.0 c.in-Some.ensures.steps.1;
      place = omega (arith, length-append yielded (one ∷ []), i.place);
      openings = openings_set turns now s t x c.join_shard.new.opening i.openings at_t at_x c.join_shard.ensures.opening;
      done = λ k z q e f. ap (λ (y : One). slice_get (set now s y) k) new ∙ joined_done first now yielded one x s i.place at_x i.rest i.done k z q e f;
      rest = λ k h. ap (λ (y : One). slice_get (set now s y) k) new ∙ joined_rest first now yielded one x s i.place at_x i.rest k h;
    }

pub returns-clause-each : goal.returns-clause-each
returns-clause-each g c = λ s x at.
    let i = c.loop-one.invariant in
    let all = c.into_passes-one-items.result.items in
    let turns = c.self.inside.shards.items in
    let pass = c.args.pass in
    let names : map (λ (p : One). name_of p.table) all ≡ names_of turns = ap (λ (k : TablePassFacts). k.table) c.into_passes-one-items.ensures.same ∙ c.requires.pass ∙ ap names_of (sym c.self.view_is) in
    let many : length all ≡ length turns = as_many all turns names in
    let same : length turns ≡ length c.args.self.now = ap length c.self.view_is in
    let long = c.requires.openings.long in
    let whole : c.loop-one.yielded ≡ all = taken_all _ c.loop-one.yielded _ _ i.taken c.in-None.ensures.steps.0 ∙ c.into_iter-one-iterator.ensures.into_iter_gives.0 in
    all_joined c.args.openings.now.items c.loop-one.openings.items pass.owner pass.sizes all c.loop-one.yielded c.into_passes-one-items.ensures.of whole (omega arith) i.done s x at
    ∙ ap (λ (p : TablePassFacts). Some (joined_at s x p)) c.into_passes-one-items.ensures.same
