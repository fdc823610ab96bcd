use Rattle.std.proofs.Common.{Err, ap, sym, ◌∙◌}
use Rattle.std.proofs.lemmas.Result.{err_from_is_err_and}
use Rattle.drill.specs.Requests.{can_send}
use Rattle.drill.specs.declared.error.DrillError.TheVariants.{Worn}
use Rattle.drill.proofs.Stepping.{deliver_at, deliver_worn_at, passes_at, same_error}
use Rattle.drill.proofs.world.World.deliver.Goals as goal

pub decide_with-requires-clause-can : goal.decide_with-requires-clause-can
decide_with-requires-clause-can g c = passes_at can_send c.self.inside.made c.args.k c.in-Some.item.now c.self.invariant.sendable (sym c.in-Some.ensures)

pub returns-in_err-verdict-clause-worn : goal.returns-in_err-verdict-clause-worn
returns-in_err-verdict-clause-worn g c calls is =
    let s = c.self.inside in
    let p = err_from_is_err_and c.from_residual.result c.from_residual.ensures.1 in
    let error = same_error c.from_residual.result c.in_err-verdict.field-0.0 (Worn calls) (p.1 ∙ ap Err p.2) is in
    deliver_worn_at c.args.self.now s.client s.made s.clock s.tally c.args.table.now c.decide_with.new.table calls c.args.k c.in-Some.item.now c.self.view_is (sym c.in-Some.ensures)
    (c.in_err-verdict.ensures.worn calls (ap Err error))

pub returns-clause-ok : goal.returns-clause-ok
returns-clause-ok g c =
    let s = c.self.inside in
    deliver_at c.args.self.now s.client s.made s.clock s.tally c.count.new.self c.args.table.now c.decide_with.new.table (g.W.Words.drawn c.args.random.now) (g.W.Words.drawn c.decide_with.new.random)
    c.args.k c.in-Some.item.now c.in_ok-verdict.verdict c.self.view_is (sym c.in-Some.ensures) c.in_ok-verdict.ensures.ok c.count.ensures
