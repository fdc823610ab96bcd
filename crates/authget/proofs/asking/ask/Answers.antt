use Rattle.std.proofs.Common.{refl}
use Rattle.std.proofs.lemmas.Result.{err_from_is_err_and}
use Rattle.authget.specs.Outside.{dial_of, outside, views}
use Rattle.authget.specs.declared.stop.Stop.TheVariants.{OutOfMemory}
use Rattle.authget.proofs.Making.{begins_dial, begins_not, begins_undialled, begins_undrawn, begins_unheard, makes}
use Rattle.authget.proofs.asking.ask.Goals as goal

pub returns-in_err-request-clause-asks : goal.returns-in_err-request-clause-asks
returns-in_err-request-clause-asks g c =
    let at = outside (views (dial_of g.N.Dial.dialled g.N.Dial.coming g.N.Dial.handed g.N.Dial.faults g.N.Dial.link_faults) g.C.Clock.shown g.W.Words.drawn g.W.Words.faults) in
    let u = at c.args.dial.now c.args.clock.now c.args.random.now in
    let p = err_from_is_err_and c.from_residual.result c.from_residual.ensures.1 in
    rw (p.1, p.2) (begins_not c.args.plan.now c.args.url.now c.args.client.now u OutOfMemory)

pub returns-in_default-clause-asks : goal.returns-in_default-clause-asks
returns-in_default-clause-asks g c =
    let at = outside (views (dial_of g.N.Dial.dialled g.N.Dial.coming g.N.Dial.handed g.N.Dial.faults g.N.Dial.link_faults) g.C.Clock.shown g.W.Words.drawn g.W.Words.faults) in
    let u = at c.args.dial.now c.args.clock.now c.args.random.now in
    let v = at c.args.dial.now c.now-moment.new.self c.draw.new.self in
    begins_undrawn c.args.plan.now c.args.url.now c.args.client.now u v c.now-moment.result c.now-moment.ensures.shown c.in_default.ensures.drawn_at_fault refl

pub returns-in_err-sent-clause-asks : goal.returns-in_err-sent-clause-asks
returns-in_err-sent-clause-asks g c =
    let at = outside (views (dial_of g.N.Dial.dialled g.N.Dial.coming g.N.Dial.handed g.N.Dial.faults g.N.Dial.link_faults) g.C.Clock.shown g.W.Words.drawn g.W.Words.faults) in
    let u = at c.args.dial.now c.args.clock.now c.args.random.now in
    let v = at c.args.dial.now c.now-moment.new.self c.draw.new.self in
    let p = err_from_is_err_and c.from_residual-in_err-sent.result c.from_residual-in_err-sent.ensures.1 in
    rw (p.1, p.2) (begins_undialled c.args.plan.now c.args.url.now c.args.client.now u v c.now-moment.result c.in-Ok.words c.now-moment.ensures.shown c.in-Ok.ensures.drawn refl)

pub returns-in_err-text-clause-asks : goal.returns-in_err-text-clause-asks
returns-in_err-text-clause-asks g c =
    let at = outside (views (dial_of g.N.Dial.dialled g.N.Dial.coming g.N.Dial.handed g.N.Dial.faults g.N.Dial.link_faults) g.C.Clock.shown g.W.Words.drawn g.W.Words.faults) in
    let u = at c.args.dial.now c.args.clock.now c.args.random.now in
    let v = at c.args.dial.now c.now-moment.new.self c.draw.new.self in
    let p = err_from_is_err_and c.from_residual-in_err-text.result c.from_residual-in_err-text.ensures.1 in
    rw (p.1, p.2) (begins_undialled c.args.plan.now c.args.url.now c.args.client.now u v c.now-moment.result c.in-Ok.words c.now-moment.ensures.shown c.in-Ok.ensures.drawn refl)

pub returns-in_err-reply-clause-asks : goal.returns-in_err-reply-clause-asks
returns-in_err-reply-clause-asks g c =
    let at = outside (views (dial_of g.N.Dial.dialled g.N.Dial.coming g.N.Dial.handed g.N.Dial.faults g.N.Dial.link_faults) g.C.Clock.shown g.W.Words.drawn g.W.Words.faults) in
    let u = at c.args.dial.now c.args.clock.now c.args.random.now in
    let v = at c.exchange.new.dial c.now-moment.new.self c.draw.new.self in
    let p = err_from_is_err_and c.from_residual-in_err-reply.result c.from_residual-in_err-reply.ensures.1 in
    rw (p.1, p.2)
    (begins_dial c.args.plan.now c.args.url.now c.args.client.now c.credentials_for.new.self u v c.now-moment.result c.in-Ok.words c.peer.result.now c.in_ok-text.text c.bytes.result.now c.in_ok-request.request c.in_ok-sent.sent c.in_err-reply.field-0.0
    c.in_ok-request.ensures c.in_ok-sent.ensures.ok c.in_ok-text.ensures c.bytes.ensures c.peer.ensures
    c.now-moment.ensures.shown c.in-Ok.ensures.drawn c.in_err-reply.ensures.exchanges)

pub returns-in_err-hear-clause-asks : goal.returns-in_err-hear-clause-asks
returns-in_err-hear-clause-asks g c =
    let at = outside (views (dial_of g.N.Dial.dialled g.N.Dial.coming g.N.Dial.handed g.N.Dial.faults g.N.Dial.link_faults) g.C.Clock.shown g.W.Words.drawn g.W.Words.faults) in
    let u = at c.args.dial.now c.args.clock.now c.args.random.now in
    let v = at c.exchange.new.dial c.now-moment.new.self c.draw.new.self in
    let p = err_from_is_err_and c.from_residual-in_err-hear.result c.from_residual-in_err-hear.ensures.1 in
    rw (p.1, p.2)
    (begins_unheard c.args.plan.now c.args.url.now c.args.client.now c.credentials_for.new.self u v c.now-moment.result c.in-Ok.words c.peer.result.now c.in_ok-text.text c.bytes.result.now c.in_ok-request.request c.in_ok-sent.sent c.in_ok-reply.reply
    c.in_ok-request.ensures c.in_ok-sent.ensures.ok c.in_ok-text.ensures c.bytes.ensures c.peer.ensures
    c.now-moment.ensures.shown c.in-Ok.ensures.drawn c.in_ok-reply.ensures.exchanges)

pub returns-clause-asks : goal.returns-clause-asks
returns-clause-asks g c =
    let at = outside (views (dial_of g.N.Dial.dialled g.N.Dial.coming g.N.Dial.handed g.N.Dial.faults g.N.Dial.link_faults) g.C.Clock.shown g.W.Words.drawn g.W.Words.faults) in
    let u = at c.args.dial.now c.args.clock.now c.args.random.now in
    let v = at c.exchange.new.dial c.now-moment.new.self c.draw.new.self in
    makes c.args.plan.now c.args.url.now c.args.client.now c.credentials_for.new.self c.hear.new.client u v c.now-moment.result c.in-Ok.words c.peer.result.now c.in_ok-text.text c.bytes.result.now c.in_ok-request.request c.in_ok-sent.sent c.in_ok-reply.reply c.in_ok-hear.field-0
    c.in_ok-request.ensures c.in_ok-sent.ensures.ok c.in_ok-text.ensures c.bytes.ensures c.peer.ensures
    c.now-moment.ensures.shown c.in-Ok.ensures.drawn c.in_ok-reply.ensures.exchanges c.in_ok-hear.ensures
