use Rattle.std.proofs.Common.{◌∙◌, refl}
use Rattle.request_deciding.proofs.Decisions.{goes_start, question_is, start_no_memory}
use Rattle.request_deciding.specs.Outside.{table_state}
use Rattle.request_deciding.specs.Serving.{incoming_of, server}
use Rattle.request_deciding.proofs.deciding.decide.Goals as goal

pub returns-in-Ok : goal.returns-in-Ok
returns-in-Ok g c =
    let e = c.in-Ok.ensures in
    let t = incoming_of c.args.incoming.now in
    let s = server c.args.site.now (g.T.TableSeat.seat c.args.seat.now).shards in
    let table = table_state g.W.Words.drawn g.W.Words.faults g.T.TableSeat.seat c.args.random.now c.args.seat.now in
    let question = question_is c.in-Ok.decision.question c.args.role s t e.role e.request e.moment e.site (e.shards ∙ c.shards-shards.ensures.number) in
    record { draws = c.run-verdict.ensures.draws; decided = c.run-verdict.ensures.decided table c.args.role s t (goes_start table c.args.role s t c.in-Ok.decision question e.credentials e.stage) }

pub returns-in-Err : goal.returns-in-Err
returns-in-Err g c = record { draws = λ _. refl; decided = start_no_memory _ _ _ _ }
