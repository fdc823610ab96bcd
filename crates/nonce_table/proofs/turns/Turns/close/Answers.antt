use mathlib.Core.Logic.{dite}
use native.Mathlib.Decide.{ℕ_discrete}
use Rattle.std.proofs.Common.{◌≡◌, ℕ, suc, List, [], ◌∷◌, ◌++◌, drop, length, Some, sym, ap, ◌∙◌, subst, length-append, arith}
use Rattle.std.specs.List.{slice_get}
use Rattle.std.specs.Vec.Iter.{into_iter_items}
use Rattle.turn_table.specs.Passes.{PassFacts, TableFacts, HasWholeHistory}
use Rattle.nonce_shard.specs.declared.calls.Call.{Call}
use Rattle.nonce_shard.specs.declared.sizes.Setting.{Setting}
use Rattle.nonce_shard.specs.declared.totals.Totals.{Totals}
use Rattle.nonce_table.specs.declared.closing.Closed.{Closed}
use Rattle.nonce_table.specs.Shards.{totals_at, totals_of}
use Rattle.nonce_table.specs.Closing.{sum_of}
use Rattle.nonce_table.proofs.Places.{some_is, get_short}
use Rattle.nonce_table.proofs.Taking.{taken_next, taken_all, taken_at, next_dropped}
use Rattle.nonce_table.proofs.Totalling.{more, sum_more, totals_more}
use Rattle.nonce_table.proofs.turns.Turns.close.Goals as goal

abbrev One : Type 0
One = PassFacts Call Setting

abbrev Turns : Type 0
Turns = TableFacts Setting

pub close_shard-requires-clause-opening : goal.close_shard-requires-clause-opening
close_shard-requires-clause-opening g c =
    let i = c.loop-turns.invariant in
    let yielded = c.loop-turns.yielded in
    let t = c.in-Some.turns in
    let p = c.in-Some-next.opening in
    let at_t : slice_get c.args.self (length yielded) ≡ Some t = ap (λ (l : List Turns). slice_get l (length yielded)) (sym c.self.view_is ∙ sym c.into_iter-turns-iterator.ensures.into_iter_gives.0) ∙ taken_at _ yielded _ _ _ t i.taken c.in-Some.ensures.steps.0 in
    let at_p : slice_get c.args.openings.items (length yielded) ≡ Some p = ap (λ (l : List One). slice_get l (length yielded)) (sym c.into_iter-rest.ensures.rest) ∙ (next_dropped _ (length yielded) p _ (sym i.rest ∙ c.in-Some-next.ensures.cases.0)).0 in
    c.requires.openings.each (length yielded) t p at_t at_p

pub close_shard-requires-clause-joined : goal.close_shard-requires-clause-joined
close_shard-requires-clause-joined g c =
    let i = c.loop-turns.invariant in
    let yielded = c.loop-turns.yielded in
    let p = c.in-Some-next.opening in
    let at_p : slice_get c.args.openings.items (length yielded) ≡ Some p = ap (λ (l : List One). slice_get l (length yielded)) (sym c.into_iter-rest.ensures.rest) ∙ (next_dropped _ (length yielded) p _ (sym i.rest ∙ c.in-Some-next.ensures.cases.0)).0 in
    c.requires.joined (length yielded) p at_p

pub loop-turns-preserved : goal.loop-turns-preserved
loop-turns-preserved g c =
    let i = c.loop-turns.invariant in
    let yielded = c.loop-turns.yielded in
    let t = c.in-Some.turns in
    let p = c.in-Some-next.opening in
    let all : List One = into_iter_items c.into_iter-rest.result in
    let next = next_dropped all (length yielded) p _ (sym i.rest ∙ c.in-Some-next.ensures.cases.0) in
    let small = c.close_shard.ensures.small in
    let new = c.add.ensures in
    let calls = ap (λ (z : Closed). z.calls) new in
    let issued = ap (λ (z : Closed). z.issued) new in
    let admitted = ap (λ (z : Closed). z.admitted) new in
    let repeated = ap (λ (z : Closed). z.repeated) new in
    let long = length-append yielded (t ∷ []) in
    let count : suc (length yielded) ≡ length (yielded ++ t ∷ []) = omega arith in
    record {
      taken = taken_next _ yielded _ _ _ _ t i.taken c.in-Some.ensures.steps.0 c.in-Some.ensures.steps.1;
      rest = next.1 ∙ ap (λ (n : ℕ). drop n all) count;
      left = let a = c.in-Some-next.ensures.cases.1 in let b = c.in-Some.ensures.steps.1 in let d = i.left in omega arith;
      totals = new ∙ ap (λ (z : Closed). more z c.close_shard.result) i.totals ∙ ap (λ (u : Totals). more (sum_of (totals_of yielded all)) u) c.close_shard.ensures.totals
          ∙ sym (sum_more (totals_of yielded all) (totals_at t p)) ∙ ap sum_of (sym (totals_more yielded all t p next.0));
      whole = λ s x h e. dite (ℕ_discrete s (length yielded))
          (λ same. subst (λ (q : One). HasWholeHistory q) (some_is p x (sym next.0 ∙ ap (λ (k : ℕ). slice_get all k) (sym same) ∙ e)) c.close_shard.ensures.history)
          (λ other. i.whole s x (omega arith) e);
      calls = let a = i.calls in let b = small.0 in omega arith;
      issued = let a = i.issued in let b = small.1 in omega arith;
      admitted = let a = i.admitted in let b = small.2 in omega arith;
      repeated = let a = i.repeated in let b = small.3 in omega arith;
    }

pub returns-clause-whole : goal.returns-clause-whole
returns-clause-whole g c = λ s x e.
    let i = c.loop-turns.invariant in
    let whole : c.loop-turns.yielded ≡ c.args.self = taken_all _ c.loop-turns.yielded _ _ i.taken c.in-None.ensures.steps.0 ∙ c.into_iter-turns-iterator.ensures.into_iter_gives.0 ∙ c.self.view_is in
    let many : length c.loop-turns.yielded ≡ length c.args.self = ap length whole in
    let long = c.requires.openings.long in
    let short = get_short c.args.openings.items s x e in
    i.whole s x (omega arith) (ap (λ (l : List One). slice_get l s) c.into_iter-rest.ensures.rest ∙ e)
