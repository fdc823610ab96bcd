use Rattle.std.proofs.Common.{◌+◌, ◌∙◌, drop, refl, subst, sym, arith}
use Rattle.std.proofs.lemmas.Result.{err_from_is_err_and}
use Rattle.authget.specs.Endings.{scene}
use Rattle.authget.specs.Outside.{dial_of, outside, views}
use Rattle.authget.specs.Telling.{heard}
use Rattle.authget.specs.declared.end.End.TheVariants as end
use Rattle.authget.proofs.Accounts.{same_none, same_then}
use Rattle.authget.proofs.Places.{Place, next_url, no_url, place_cut, place_done, place_more, place_over, place_start, place_unput}
use Rattle.authget.proofs.fetching.fetch_all.Goals as goal

pub loop-url-init : goal.loop-url-init
loop-url-init g c =
    let at = outside (views (dial_of g.N.Dial.dialled g.N.Dial.coming g.N.Dial.handed g.N.Dial.faults g.N.Dial.link_faults) g.C.Clock.shown g.W.Words.drawn g.W.Words.faults) in
    let see = heard g.D.Sink.written g.D.Sink.faults in
    let u = scene (at c.args.dial.now c.args.clock.now c.args.random.now) (g.O.Sink.written c.args.output.now) (see c.args.diag.now) in
    (place_start c.args.plan.now c.args.client.now u, same_none u.outside, refl, omega arith)

pub returns-in_err-proved-clause-fetches : goal.returns-in_err-proved-clause-fetches
returns-in_err-proved-clause-fetches g c =
    let at = outside (views (dial_of g.N.Dial.dialled g.N.Dial.coming g.N.Dial.handed g.N.Dial.faults g.N.Dial.link_faults) g.C.Clock.shown g.W.Words.drawn g.W.Words.faults) in
    let see = heard g.D.Sink.written g.D.Sink.faults in
    let u = scene (at c.args.dial.now c.args.clock.now c.args.random.now) (g.O.Sink.written c.args.output.now) (see c.args.diag.now) in
    let v = scene (at c.loop-url.dial c.loop-url.clock c.loop-url.random) (g.O.Sink.written c.loop-url.output) (see c.loop-url.diag) in
    let w = scene (at c.get.new.dial c.get.new.clock c.get.new.random) (g.O.Sink.written c.loop-url.output) (see c.loop-url.diag) in
    let urls = c.args.plan.now.urls in
    let i = c.loop-url.url-index in
    let url = c.bytes-url.result.now in
    let is = next_url c.as_slice-url-items.result.now urls i c.url-item.result url c.as_slice-url-items.ensures c.loop-url-test.true c.url-item.is c.bytes-url.ensures in
    let p = err_from_is_err_and c.from_residual.result c.from_residual.ensures.1 in
    rw (p.1, p.2)
    (place_cut c.args.plan.now c.args.client.now c.loop-url.client url (drop i urls) (drop (i + 1) urls) u v w c.loop-url.status c.loop-url.on c.in_err-proved.field-0.0 is c.loop-url.invariant.0 c.in_err-proved.ensures.gets refl refl)

pub returns-in_err-on-in-Got-clause-fetches : goal.returns-in_err-on-in-Got-clause-fetches
returns-in_err-on-in-Got-clause-fetches g c =
    let at = outside (views (dial_of g.N.Dial.dialled g.N.Dial.coming g.N.Dial.handed g.N.Dial.faults g.N.Dial.link_faults) g.C.Clock.shown g.W.Words.drawn g.W.Words.faults) in
    let see = heard g.D.Sink.written g.D.Sink.faults in
    let u = scene (at c.args.dial.now c.args.clock.now c.args.random.now) (g.O.Sink.written c.args.output.now) (see c.args.diag.now) in
    let v = scene (at c.loop-url.dial c.loop-url.clock c.loop-url.random) (g.O.Sink.written c.loop-url.output) (see c.loop-url.diag) in
    let w = scene (at c.get.new.dial c.get.new.clock c.get.new.random) (g.O.Sink.written c.put.new.output) (see c.put.new.diag) in
    let urls = c.args.plan.now.urls in
    let i = c.loop-url.url-index in
    let url = c.bytes-url.result.now in
    let is = next_url c.as_slice-url-items.result.now urls i c.url-item.result url c.as_slice-url-items.ensures c.loop-url-test.true c.url-item.is c.bytes-url.ensures in
    let p = err_from_is_err_and c.from_residual-in_err-on-in-Got.result c.from_residual-in_err-on-in-Got.ensures.1 in
    rw (p.1, p.2)
    (place_unput c.args.plan.now c.args.client.now c.loop-url.client c.get.new.client url (drop i urls) (drop (i + 1) urls) u v w c.loop-url.status c.loop-url.on c.in-Got.proved c.in-Got.response c.in_err-on-in-Got.field-0.0 is
    c.loop-url.invariant.0 (rw c.in-Got.is at c.in_ok-proved.ensures.gets) c.in_err-on-in-Got.ensures.puts)

pub returns-in-Refused-clause-fetches : goal.returns-in-Refused-clause-fetches
returns-in-Refused-clause-fetches g c =
    let at = outside (views (dial_of g.N.Dial.dialled g.N.Dial.coming g.N.Dial.handed g.N.Dial.faults g.N.Dial.link_faults) g.C.Clock.shown g.W.Words.drawn g.W.Words.faults) in
    let see = heard g.D.Sink.written g.D.Sink.faults in
    let u = scene (at c.args.dial.now c.args.clock.now c.args.random.now) (g.O.Sink.written c.args.output.now) (see c.args.diag.now) in
    let v = scene (at c.loop-url.dial c.loop-url.clock c.loop-url.random) (g.O.Sink.written c.loop-url.output) (see c.loop-url.diag) in
    let w = scene (at c.get.new.dial c.get.new.clock c.get.new.random) (g.O.Sink.written c.loop-url.output) (see c.loop-url.diag) in
    let urls = c.args.plan.now.urls in
    let i = c.loop-url.url-index in
    let url = c.bytes-url.result.now in
    let is = next_url c.as_slice-url-items.result.now urls i c.url-item.result url c.as_slice-url-items.ensures c.loop-url-test.true c.url-item.is c.bytes-url.ensures in
    place_over c.args.plan.now c.args.client.now c.loop-url.client c.get.new.client url (drop i urls) (drop (i + 1) urls) u v w c.loop-url.status 2 c.loop-url.on end.Refused is refl (λ run none. (none, refl)) refl
    c.loop-url.invariant.0 (rw c.in-Refused.is at c.in_ok-proved.ensures.gets) refl refl

pub returns-in-WrongProof-clause-fetches : goal.returns-in-WrongProof-clause-fetches
returns-in-WrongProof-clause-fetches g c =
    let at = outside (views (dial_of g.N.Dial.dialled g.N.Dial.coming g.N.Dial.handed g.N.Dial.faults g.N.Dial.link_faults) g.C.Clock.shown g.W.Words.drawn g.W.Words.faults) in
    let see = heard g.D.Sink.written g.D.Sink.faults in
    let u = scene (at c.args.dial.now c.args.clock.now c.args.random.now) (g.O.Sink.written c.args.output.now) (see c.args.diag.now) in
    let v = scene (at c.loop-url.dial c.loop-url.clock c.loop-url.random) (g.O.Sink.written c.loop-url.output) (see c.loop-url.diag) in
    let w = scene (at c.get.new.dial c.get.new.clock c.get.new.random) (g.O.Sink.written c.loop-url.output) (see c.loop-url.diag) in
    let urls = c.args.plan.now.urls in
    let i = c.loop-url.url-index in
    let url = c.bytes-url.result.now in
    let is = next_url c.as_slice-url-items.result.now urls i c.url-item.result url c.as_slice-url-items.ensures c.loop-url-test.true c.url-item.is c.bytes-url.ensures in
    place_over c.args.plan.now c.args.client.now c.loop-url.client c.get.new.client url (drop i urls) (drop (i + 1) urls) u v w c.loop-url.status 3 c.loop-url.on end.WrongProof is refl (λ run none. (none, refl)) refl
    c.loop-url.invariant.0 (rw c.in-WrongProof.is at c.in_ok-proved.ensures.gets) refl refl

pub returns-in-Malformed-clause-fetches : goal.returns-in-Malformed-clause-fetches
returns-in-Malformed-clause-fetches g c =
    let at = outside (views (dial_of g.N.Dial.dialled g.N.Dial.coming g.N.Dial.handed g.N.Dial.faults g.N.Dial.link_faults) g.C.Clock.shown g.W.Words.drawn g.W.Words.faults) in
    let see = heard g.D.Sink.written g.D.Sink.faults in
    let u = scene (at c.args.dial.now c.args.clock.now c.args.random.now) (g.O.Sink.written c.args.output.now) (see c.args.diag.now) in
    let v = scene (at c.loop-url.dial c.loop-url.clock c.loop-url.random) (g.O.Sink.written c.loop-url.output) (see c.loop-url.diag) in
    let w = scene (at c.get.new.dial c.get.new.clock c.get.new.random) (g.O.Sink.written c.loop-url.output) (see c.loop-url.diag) in
    let urls = c.args.plan.now.urls in
    let i = c.loop-url.url-index in
    let url = c.bytes-url.result.now in
    let is = next_url c.as_slice-url-items.result.now urls i c.url-item.result url c.as_slice-url-items.ensures c.loop-url-test.true c.url-item.is c.bytes-url.ensures in
    place_over c.args.plan.now c.args.client.now c.loop-url.client c.get.new.client url (drop i urls) (drop (i + 1) urls) u v w c.loop-url.status 4 c.loop-url.on end.Malformed is refl (λ run none. (none, refl)) refl
    c.loop-url.invariant.0 (rw c.in-Malformed.is at c.in_ok-proved.ensures.gets) refl refl

pub returns-in-NoOffer-clause-fetches : goal.returns-in-NoOffer-clause-fetches
returns-in-NoOffer-clause-fetches g c =
    let at = outside (views (dial_of g.N.Dial.dialled g.N.Dial.coming g.N.Dial.handed g.N.Dial.faults g.N.Dial.link_faults) g.C.Clock.shown g.W.Words.drawn g.W.Words.faults) in
    let see = heard g.D.Sink.written g.D.Sink.faults in
    let u = scene (at c.args.dial.now c.args.clock.now c.args.random.now) (g.O.Sink.written c.args.output.now) (see c.args.diag.now) in
    let v = scene (at c.loop-url.dial c.loop-url.clock c.loop-url.random) (g.O.Sink.written c.loop-url.output) (see c.loop-url.diag) in
    let w = scene (at c.get.new.dial c.get.new.clock c.get.new.random) (g.O.Sink.written c.loop-url.output) (see c.loop-url.diag) in
    let urls = c.args.plan.now.urls in
    let i = c.loop-url.url-index in
    let url = c.bytes-url.result.now in
    let is = next_url c.as_slice-url-items.result.now urls i c.url-item.result url c.as_slice-url-items.ensures c.loop-url-test.true c.url-item.is c.bytes-url.ensures in
    place_over c.args.plan.now c.args.client.now c.loop-url.client c.get.new.client url (drop i urls) (drop (i + 1) urls) u v w c.loop-url.status 8 c.loop-url.on end.NoOffer is refl (λ run none. (none, refl)) refl
    c.loop-url.invariant.0 (rw c.in-NoOffer.is at c.in_ok-proved.ensures.gets) refl refl

pub loop-url-preserved : goal.loop-url-preserved
loop-url-preserved g c =
    let at = outside (views (dial_of g.N.Dial.dialled g.N.Dial.coming g.N.Dial.handed g.N.Dial.faults g.N.Dial.link_faults) g.C.Clock.shown g.W.Words.drawn g.W.Words.faults) in
    let see = heard g.D.Sink.written g.D.Sink.faults in
    let u = scene (at c.args.dial.now c.args.clock.now c.args.random.now) (g.O.Sink.written c.args.output.now) (see c.args.diag.now) in
    let v = scene (at c.loop-url.dial c.loop-url.clock c.loop-url.random) (g.O.Sink.written c.loop-url.output) (see c.loop-url.diag) in
    let w = scene (at c.get.new.dial c.get.new.clock c.get.new.random) (g.O.Sink.written c.put.new.output) (see c.put.new.diag) in
    let urls = c.args.plan.now.urls in
    let i = c.loop-url.url-index in
    let url = c.bytes-url.result.now in
    let is = next_url c.as_slice-url-items.result.now urls i c.url-item.result url c.as_slice-url-items.ensures c.loop-url-test.true c.url-item.is c.bytes-url.ensures in
    let more = place_more c.args.plan.now c.args.client.now c.loop-url.client c.get.new.client url (drop i urls) (drop (i + 1) urls) u v w c.loop-url.status c.loop-url.on c.in_ok-on-in-Got.on c.in-Got.proved c.in-Got.response is
    c.loop-url.invariant.0 (rw c.in-Got.is at c.in_ok-proved.ensures.gets) c.in_ok-on-in-Got.ensures.puts in (
      subst (λ n. Place c.args.plan.now c.args.client.now c.get.new.client (drop (i + 1) urls) u w n c.in_ok-on-in-Got.on) (sym c.status_after-status.ensures.status) more,
      same_then u.outside v.outside w.outside c.loop-url.invariant.1 c.in_ok-proved.ensures.kept,
      c.in_ok-on-in-Got.ensures.kept ∙ c.loop-url.invariant.2,
      c.status_after-status.ensures.known c.loop-url.invariant.3,
    )

pub returns-clause-fetches : goal.returns-clause-fetches
returns-clause-fetches g c =
    let at = outside (views (dial_of g.N.Dial.dialled g.N.Dial.coming g.N.Dial.handed g.N.Dial.faults g.N.Dial.link_faults) g.C.Clock.shown g.W.Words.drawn g.W.Words.faults) in
    let see = heard g.D.Sink.written g.D.Sink.faults in
    let u = scene (at c.args.dial.now c.args.clock.now c.args.random.now) (g.O.Sink.written c.args.output.now) (see c.args.diag.now) in
    let v = scene (at c.loop-url.dial c.loop-url.clock c.loop-url.random) (g.O.Sink.written c.loop-url.output) (see c.loop-url.diag) in
    let urls = c.args.plan.now.urls in
    let i = c.loop-url.url-index in
    let none = no_url c.as_slice-url-items.result.now urls i c.as_slice-url-items.ensures c.loop-url-test.false in
    place_done c.args.plan.now c.args.client.now c.loop-url.client (drop i urls) u v c.loop-url.status c.loop-url.on none c.loop-url.invariant.0
