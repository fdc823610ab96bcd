use Rattle.std.proofs.Common.{◌≡◌, Ok, Err, None, rules}
use Rattle.request_deciding.specs.Serving.{incoming_of, server}
use Rattle.proxy_core.proofs.Carried.{answers_no_target}
use Rattle.proxy_core.specs.Outside.{outside_at}
use Rattle.proxy_core.specs.Targets.{authority_of}
use Rattle.proxy_core.proofs.serving.answer.Goals as goal

pub returns-in-Ok-clause-answers : goal.returns-in-Ok-clause-answers
returns-in-Ok-clause-answers g c =
    let at = outside_at g.D.Dial.dialled g.D.Dial.coming g.D.Dial.handed g.D.Dial.faults g.D.Dial.link_faults g.W.Words.drawn g.W.Words.faults g.T.TableSeat.seat in
    let none : authority_of c.args.incoming.now.request.now.target ≡ None = search rules in
    answers_no_target (at c.args.dial.now c.args.random.now c.args.seat.now) (server c.args.site.now (g.T.TableSeat.seat c.args.seat.now).shards) (incoming_of c.args.incoming.now) (Ok c.in-Ok.reply) none c.in-Ok.ensures

pub returns-in-Err-clause-answers : goal.returns-in-Err-clause-answers
returns-in-Err-clause-answers g c =
    let at = outside_at g.D.Dial.dialled g.D.Dial.coming g.D.Dial.handed g.D.Dial.faults g.D.Dial.link_faults g.W.Words.drawn g.W.Words.faults g.T.TableSeat.seat in
    let none : authority_of c.args.incoming.now.request.now.target ≡ None = search rules in
    answers_no_target (at c.args.dial.now c.args.random.now c.args.seat.now) (server c.args.site.now (g.T.TableSeat.seat c.args.seat.now).shards) (incoming_of c.args.incoming.now) (Err c.in-Err.field-0) none c.in-Err.ensures
