use Rattle.std.proofs.Common.{◌-◌}
use Rattle.authget.specs.Outside.{HasSameFaults, dial_of, outside, views}
use Rattle.authget.proofs.Rounds.{Tries}
use Rattle.authget.proofs.getting.get.Given as goal

abbrev pub invariant-loop-made : goal.invariant-loop-made
invariant-loop-made g l =
    let at = outside (views (dial_of g.N.Dial.dialled g.N.Dial.coming g.N.Dial.handed g.N.Dial.faults g.N.Dial.link_faults) g.C.Clock.shown g.W.Words.drawn g.W.Words.faults) in
    Tries l.plan l.url l.initial.client l.client (8 - l.made) (at l.initial.dial l.initial.clock l.initial.random) (at l.dial l.clock l.random)
    × HasSameFaults (at l.initial.dial l.initial.clock l.initial.random) (at l.dial l.clock l.random)
