use Rattle.std.proofs.Common.{◌≡◌, ◌≤◌, drop}
use Rattle.authget.specs.Endings.{scene}
use Rattle.authget.specs.Outside.{HasSameFaults, dial_of, outside, views}
use Rattle.authget.specs.Telling.{heard}
use Rattle.authget.proofs.Places.{Place}
use Rattle.authget.proofs.fetching.fetch_all.Given as goal

abbrev pub invariant-loop-url : goal.invariant-loop-url
invariant-loop-url g l =
    let at = outside (views (dial_of g.N.Dial.dialled g.N.Dial.coming g.N.Dial.handed g.N.Dial.faults g.N.Dial.link_faults) g.C.Clock.shown g.W.Words.drawn g.W.Words.faults) in
    Place l.plan l.initial.client l.client (drop l.url-index l.plan.urls)
    (scene (at l.initial.dial l.initial.clock l.initial.random) (g.O.Sink.written l.initial.output) (heard g.D.Sink.written g.D.Sink.faults l.initial.diag))
    (scene (at l.dial l.clock l.random) (g.O.Sink.written l.output) (heard g.D.Sink.written g.D.Sink.faults l.diag)) l.status l.on
    × HasSameFaults (at l.initial.dial l.initial.clock l.initial.random) (at l.dial l.clock l.random)
    × (g.O.Sink.faults l.output ≡ g.O.Sink.faults l.initial.output)
    × (l.status ≤ 1)
