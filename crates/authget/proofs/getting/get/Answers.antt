use Rattle.std.proofs.Common.{◌≡◌, ◌+◌, ◌-◌, suc, arith}
use Rattle.std.proofs.lemmas.Result.{err_from_is_err_and}
use Rattle.authget.specs.Outside.{dial_of, outside, views}
use Rattle.authget.proofs.Accounts.{same_none, same_then}
use Rattle.authget.proofs.Rounds.{tries_cut, tries_end, tries_more, tries_out, tries_start}
use Rattle.authget.proofs.getting.get.Goals as goal

pub loop-made-init : goal.loop-made-init
loop-made-init g c =
    let at = outside (views (dial_of g.N.Dial.dialled g.N.Dial.coming g.N.Dial.handed g.N.Dial.faults g.N.Dial.link_faults) g.C.Clock.shown g.W.Words.drawn g.W.Words.faults) in
    let u = at c.args.dial.now c.args.clock.now c.args.random.now in
    (tries_start c.args.plan.now c.args.url.now c.args.client.now u, same_none u)

pub returns-in_err-end-clause-gets : goal.returns-in_err-end-clause-gets
returns-in_err-end-clause-gets g c =
    let at = outside (views (dial_of g.N.Dial.dialled g.N.Dial.coming g.N.Dial.handed g.N.Dial.faults g.N.Dial.link_faults) g.C.Clock.shown g.W.Words.drawn g.W.Words.faults) in
    let u = at c.args.dial.now c.args.clock.now c.args.random.now in
    let v = at c.loop-made.dial c.loop-made.clock c.loop-made.random in
    let w = at c.ask.new.dial c.ask.new.clock c.ask.new.random in
    let m = 8 - c.loop-made.made in
    let n = 8 - (c.loop-made.made + 1) in
    let next : m ≡ suc n = omega arith in
    let p = err_from_is_err_and c.from_residual.result c.from_residual.ensures.1 in
    rw (p.1, p.2) (tries_cut c.args.plan.now c.args.url.now c.args.client.now c.loop-made.client m n u v w c.in_err-end.field-0.0 next c.loop-made.invariant.0 c.in_err-end.ensures.asks)

pub returns-in-Some-clause-gets : goal.returns-in-Some-clause-gets
returns-in-Some-clause-gets g c =
    let at = outside (views (dial_of g.N.Dial.dialled g.N.Dial.coming g.N.Dial.handed g.N.Dial.faults g.N.Dial.link_faults) g.C.Clock.shown g.W.Words.drawn g.W.Words.faults) in
    let u = at c.args.dial.now c.args.clock.now c.args.random.now in
    let v = at c.loop-made.dial c.loop-made.clock c.loop-made.random in
    let w = at c.ask.new.dial c.ask.new.clock c.ask.new.random in
    let m = 8 - c.loop-made.made in
    let n = 8 - (c.loop-made.made + 1) in
    let next : m ≡ suc n = omega arith in
    tries_end c.args.plan.now c.args.url.now c.args.client.now c.loop-made.client c.ask.new.client m n u v w c.in-Some.end next c.loop-made.invariant.0 (rw c.in-Some.is at c.in_ok-end.ensures.asks)

pub loop-made-preserved : goal.loop-made-preserved
loop-made-preserved g c =
    let at = outside (views (dial_of g.N.Dial.dialled g.N.Dial.coming g.N.Dial.handed g.N.Dial.faults g.N.Dial.link_faults) g.C.Clock.shown g.W.Words.drawn g.W.Words.faults) in
    let u = at c.args.dial.now c.args.clock.now c.args.random.now in
    let v = at c.loop-made.dial c.loop-made.clock c.loop-made.random in
    let w = at c.ask.new.dial c.ask.new.clock c.ask.new.random in
    let m = 8 - c.loop-made.made in
    let n = 8 - (c.loop-made.made + 1) in
    let next : m ≡ suc n = omega arith in
    (tries_more c.args.plan.now c.args.url.now c.args.client.now c.loop-made.client c.ask.new.client m n u v w next c.loop-made.invariant.0 (rw c.in_default.is at c.in_ok-end.ensures.asks), same_then u v w c.loop-made.invariant.1 c.in_ok-end.ensures.kept)

pub returns-clause-gets : goal.returns-clause-gets
returns-clause-gets g c =
    let at = outside (views (dial_of g.N.Dial.dialled g.N.Dial.coming g.N.Dial.handed g.N.Dial.faults g.N.Dial.link_faults) g.C.Clock.shown g.W.Words.drawn g.W.Words.faults) in
    let u = at c.args.dial.now c.args.clock.now c.args.random.now in
    let v = at c.loop-made.dial c.loop-made.clock c.loop-made.random in
    let n = 8 - c.loop-made.made in
    let none : n ≡ 0 = omega arith in
    tries_out c.args.plan.now c.args.url.now c.args.client.now c.loop-made.client n u v none c.loop-made.invariant.0
