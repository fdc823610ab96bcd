use Rattle.std.proofs.Common.{◌≡◌, ℕ, ◌<◌, List, [], ◌∷◌, length, fold, Some, sym, refl, ap, ◌∙◌, subst, arith}
use Rattle.std.specs.List.{slice_get}
use Rattle.std.proofs.lemmas.List.Sums.{fold-append}
use Rattle.turn_table.specs.Passes.{PassFacts}
use Rattle.nonce_shard.specs.declared.calls.Call.{Call}
use Rattle.nonce_shard.specs.declared.sizes.Setting.{Setting}
use Rattle.nonce_table.specs.Passes.{TablePassFacts}
use Rattle.nonce_table.specs.Tables.{NonceTableFacts}
use Rattle.nonce_table.specs.Closing.{joined_at, CountsHistories}
use Rattle.nonce_table.proofs.Taking.{taken_next, taken_all}
use Rattle.nonce_table.proofs.Making.{are_openings}
use Rattle.nonce_table.proofs.Histories.{all_kept, counts, closing_history}
use Rattle.nonce_table.proofs.table.NonceTable.close.Goals as goal

abbrev One : Type 0
One = PassFacts Call Setting

pub loop-pass-init : goal.loop-pass-init
loop-pass-init g c =
    let i = c.self.inside in
    let gives = c.into_iter-pass-iterator.ensures.into_iter_gives in
    record {
      taken = record { items = refl; number = let items = ap length gives.0 in omega (arith, gives.1, c.args.passes.ok.0) };
      lists = λ s x at. at;
      openings = are_openings i.sizes i.made i.turns i.openings.items c.self.invariant;
    }

pub loop-pass-preserved : goal.loop-pass-preserved
loop-pass-preserved g c =
    let i = c.loop-pass.invariant in
    let yielded = c.loop-pass.yielded in
    let pass = c.in-Some.pass in
    record {
      taken = taken_next _ yielded _ _ _ _ pass i.taken c.in-Some.ensures.steps.0 c.in-Some.ensures.steps.1;
      lists = λ s x at. c.join.ensures.each s (fold (joined_at s) x yielded) (i.lists s x at) ∙ ap (λ (y : One). Some y) (sym (fold-append (joined_at s) x yielded (pass ∷ [])));
      openings = c.join.ensures.openings;
    }

pub close-requires-clause-joined : goal.close-requires-clause-joined
close-requires-clause-joined g c =
    let i = c.self.inside in
    let l = c.loop-pass.invariant in
    let passes = c.args.passes.items in
    let whole : c.loop-pass.yielded ≡ passes = taken_all _ c.loop-pass.yielded _ _ l.taken c.in-None.ensures.steps.0 ∙ c.into_iter-pass-iterator.ensures.into_iter_gives.0 in
    let lists : (s : ℕ) (x : One) → slice_get i.openings.items s ≡ Some x → slice_get c.loop-pass.openings.items s ≡ Some (fold (joined_at s) x passes)
    = λ s x at. l.lists s x at ∙ ap (λ (ps : List TablePassFacts). Some (fold (joined_at s) x ps)) whole in
    let given : length passes ≡ i.made = omega (arith, c.len-given.ensures, c.if-given-self.false) in
    all_kept i.sizes i.made i.turns i.openings.items c.loop-pass.openings.items passes c.self.invariant l.openings lists given

pub returns-clause-totals : goal.returns-clause-totals
returns-clause-totals g c =
    let i = c.self.inside in
    let l = c.loop-pass.invariant in
    let passes = c.args.passes.items in
    let whole : c.loop-pass.yielded ≡ passes = taken_all _ c.loop-pass.yielded _ _ l.taken c.in-None.ensures.steps.0 ∙ c.into_iter-pass-iterator.ensures.into_iter_gives.0 in
    let lists : (s : ℕ) (x : One) → slice_get i.openings.items s ≡ Some x → slice_get c.loop-pass.openings.items s ≡ Some (fold (joined_at s) x passes)
    = λ s x at. l.lists s x at ∙ ap (λ (ps : List TablePassFacts). Some (fold (joined_at s) x ps)) whole in
    subst (λ (t : NonceTableFacts). CountsHistories t.sizes passes c.close.result) c.self.view_is
    (counts i.sizes i.made i.turns i.openings.items c.loop-pass.openings.items passes c.self.invariant l.openings lists c.close.result c.close.ensures.totals)

pub returns-clause-histories : goal.returns-clause-histories
returns-clause-histories g c = λ s h.
    let i = c.self.inside in
    let l = c.loop-pass.invariant in
    let passes = c.args.passes.items in
    let whole : c.loop-pass.yielded ≡ passes = taken_all _ c.loop-pass.yielded _ _ l.taken c.in-None.ensures.steps.0 ∙ c.into_iter-pass-iterator.ensures.into_iter_gives.0 in
    let lists : (s : ℕ) (x : One) → slice_get i.openings.items s ≡ Some x → slice_get c.loop-pass.openings.items s ≡ Some (fold (joined_at s) x passes)
    = λ s x at. l.lists s x at ∙ ap (λ (ps : List TablePassFacts). Some (fold (joined_at s) x ps)) whole in
    closing_history i.sizes i.made i.turns i.openings.items c.loop-pass.openings.items passes c.self.invariant l.openings lists c.close.ensures.whole s
    (subst (λ (t : NonceTableFacts). s < t.sizes.shards) (sym c.self.view_is) h)
