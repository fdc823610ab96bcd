use Rattle.std.proofs.Common.{Ok, Err, refl}
use Rattle.request_deciding.specs.Serving.{incoming_of, server}
use Rattle.proxy_core.proofs.Carried.{answers_none_as, answers_to}
use Rattle.proxy_core.specs.Outside.{outside_at}
use Rattle.proxy_core.proofs.serving.answer_to.Goals as goal

pub returns-in_err-verdict-clause-answers : goal.returns-in_err-verdict-clause-answers
returns-in_err-verdict-clause-answers g c =
    let at = outside_at g.D.Dial.dialled g.D.Dial.coming g.D.Dial.handed g.D.Dial.faults g.D.Dial.link_faults g.W.Words.drawn g.W.Words.faults g.T.TableSeat.seat in
    let s = server c.args.site.now (g.T.TableSeat.seat c.args.seat.now).shards in
    answers_none_as (at c.args.dial.now c.args.random.now c.args.seat.now) (at c.args.dial.now c.decide.new.random c.decide.new.seat) c.args.authority.now s (incoming_of c.args.incoming.now) c.in_err-verdict.field-0.0 c.from_residual.result
    c.from_residual.ensures.1 c.requires c.in_err-verdict.ensures.decided refl

pub returns-in-Ok-clause-answers : goal.returns-in-Ok-clause-answers
returns-in-Ok-clause-answers g c =
    let at = outside_at g.D.Dial.dialled g.D.Dial.coming g.D.Dial.handed g.D.Dial.faults g.D.Dial.link_faults g.W.Words.drawn g.W.Words.faults g.T.TableSeat.seat in
    let s = server c.args.site.now (g.T.TableSeat.seat c.args.seat.now).shards in
    answers_to (at c.args.dial.now c.args.random.now c.args.seat.now) (at c.carry_out.new.dial c.decide.new.random c.decide.new.seat) c.args.authority.now s (incoming_of c.args.incoming.now) c.in_ok-verdict.verdict (Ok c.in-Ok.reply)
    c.requires c.in_ok-verdict.ensures.decided (c.in-Ok.ensures s)

pub returns-in-Err-clause-answers : goal.returns-in-Err-clause-answers
returns-in-Err-clause-answers g c =
    let at = outside_at g.D.Dial.dialled g.D.Dial.coming g.D.Dial.handed g.D.Dial.faults g.D.Dial.link_faults g.W.Words.drawn g.W.Words.faults g.T.TableSeat.seat in
    let s = server c.args.site.now (g.T.TableSeat.seat c.args.seat.now).shards in
    answers_to (at c.args.dial.now c.args.random.now c.args.seat.now) (at c.carry_out.new.dial c.decide.new.random c.decide.new.seat) c.args.authority.now s (incoming_of c.args.incoming.now) c.in_ok-verdict.verdict (Err c.in-Err.field-0)
    c.requires c.in_ok-verdict.ensures.decided (c.in-Err.ensures s)
