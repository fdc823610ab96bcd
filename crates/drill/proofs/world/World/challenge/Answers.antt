use Rattle.std.proofs.Common.{Err, ap, ◌∙◌}
use Rattle.std.proofs.lemmas.Result.{err_from_is_err_and}
use Rattle.auth_decide.specs.declared.verdict.Ask.TheVariants.{Verdict}
use Rattle.client_core.specs.declared.state.State.{State}
use Rattle.drill.specs.World.{answered}
use Rattle.drill.specs.declared.error.DrillError.TheVariants.{Worn}
use Rattle.drill.proofs.Stepping.{challenge_at, challenge_worn_at, same_error}
use Rattle.drill.proofs.world.World.challenge.Goals as goal

pub returns-in_err-verdict-clause-worn : goal.returns-in_err-verdict-clause-worn
returns-in_err-verdict-clause-worn g c calls is =
    let s = c.self.inside in
    let p = err_from_is_err_and c.from_residual.result c.from_residual.ensures.1 in
    let error = same_error c.from_residual.result c.in_err-verdict.field-0.0 (Worn calls) (p.1 ∙ ap Err p.2) is in
    challenge_worn_at c.args.self.now s.client s.made s.clock s.tally c.args.table.now c.decide_plain.new.table calls c.self.view_is (c.in_err-verdict.ensures.worn calls (ap Err error))

pub returns-clause-ok : goal.returns-clause-ok
returns-clause-ok g c =
    let s = c.self.inside in
    let verdict = c.in_ok-verdict.verdict in
    challenge_at c.args.self.now s.client c.hear.new.client s.made s.clock s.tally c.args.table.now c.decide_plain.new.table (g.W.Words.drawn c.args.random.now) (g.W.Words.drawn c.decide_plain.new.random)
    verdict c.self.view_is c.in_ok-verdict.ensures.ok (c.in_ok-hear.ensures.ok ∙ ap (λ (x : State). answered x s.clock (Verdict verdict)) c.forget.ensures)
