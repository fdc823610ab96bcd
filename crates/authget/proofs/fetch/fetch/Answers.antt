use Rattle.std.proofs.Common.{◌∙◌, Err, None, Ok, Some, map, refl, string_bytes}
use Rattle.authget.specs.Endings.{scene, world}
use Rattle.authget.specs.Outside.{dial_of, outside, views}
use Rattle.authget.specs.Telling.{heard}
use Rattle.authget.specs.Words.{asked_for}
use Rattle.authget.proofs.Whole.{by_words, does_done, does_refused, does_stopped}
use Rattle.authget.proofs.fetch.fetch.Goals as goal

pub returns-in-Some-clause-does : goal.returns-in-Some-clause-does
returns-in-Some-clause-does g c =
    let at = outside (views (dial_of g.N.Dial.dialled g.N.Dial.coming g.N.Dial.handed g.N.Dial.faults g.N.Dial.link_faults) g.C.Clock.shown g.W.Words.drawn g.W.Words.faults) in
    let see = heard g.D.Sink.written g.D.Sink.faults in
    let u = world (scene (at c.args.dial.now c.args.clock.now c.args.random.now) (g.O.Sink.written c.args.output.now) (see c.args.diag.now)) (g.S.Source.left c.args.input.now) (g.S.Source.faults c.args.input.now) (g.O.Sink.faults c.args.output.now) in
    let v = world (scene (at c.perform.new.dial c.perform.new.clock c.perform.new.random) (g.O.Sink.written c.perform.new.output) (see c.perform.new.diag)) (g.S.Source.left c.perform.new.input) (g.S.Source.faults c.perform.new.input) (g.O.Sink.faults c.perform.new.output) in
    let asked = asked_for (map string_bytes c.args.words.now.items) in
    let performs = rw c.in-Some.is at c.in-Ok.ensures.performs in
    does_done asked u v c.in-Some.status (by_words c.as_slice.result.now c.args.words.now.items c.as_slice.ensures.value (λ l. asked_for (map string_bytes l)) u v (Ok (Some c.in-Some.status)) performs)

pub returns-in-None-clause-does : goal.returns-in-None-clause-does
returns-in-None-clause-does g c =
    let at = outside (views (dial_of g.N.Dial.dialled g.N.Dial.coming g.N.Dial.handed g.N.Dial.faults g.N.Dial.link_faults) g.C.Clock.shown g.W.Words.drawn g.W.Words.faults) in
    let see = heard g.D.Sink.written g.D.Sink.faults in
    let u = world (scene (at c.args.dial.now c.args.clock.now c.args.random.now) (g.O.Sink.written c.args.output.now) (see c.args.diag.now)) (g.S.Source.left c.args.input.now) (g.S.Source.faults c.args.input.now) (g.O.Sink.faults c.args.output.now) in
    let v = world (scene (at c.perform.new.dial c.perform.new.clock c.perform.new.random) (g.O.Sink.written c.perform.new.output) (see c.perform.new.diag)) (g.S.Source.left c.perform.new.input) (g.S.Source.faults c.perform.new.input) (g.O.Sink.faults c.perform.new.output) in
    let w = world (scene (at c.perform.new.dial c.perform.new.clock c.perform.new.random) (g.O.Sink.written c.perform.new.output) (see c.refuse.new.diag)) (g.S.Source.left c.perform.new.input) (g.S.Source.faults c.perform.new.input) (g.O.Sink.faults c.perform.new.output) in
    let asked = asked_for (map string_bytes c.args.words.now.items) in
    let performs = rw c.in-None.is at c.in-Ok.ensures.performs in
    does_refused asked u v w c.refuse.result (by_words c.as_slice.result.now c.args.words.now.items c.as_slice.ensures.value (λ l. asked_for (map string_bytes l)) u v (Ok None) performs) (record { outside = refl; output = refl; left = refl }) c.refuse.ensures

pub returns-in-Err-clause-does : goal.returns-in-Err-clause-does
returns-in-Err-clause-does g c =
    let at = outside (views (dial_of g.N.Dial.dialled g.N.Dial.coming g.N.Dial.handed g.N.Dial.faults g.N.Dial.link_faults) g.C.Clock.shown g.W.Words.drawn g.W.Words.faults) in
    let see = heard g.D.Sink.written g.D.Sink.faults in
    let u = world (scene (at c.args.dial.now c.args.clock.now c.args.random.now) (g.O.Sink.written c.args.output.now) (see c.args.diag.now)) (g.S.Source.left c.args.input.now) (g.S.Source.faults c.args.input.now) (g.O.Sink.faults c.args.output.now) in
    let v = world (scene (at c.perform.new.dial c.perform.new.clock c.perform.new.random) (g.O.Sink.written c.perform.new.output) (see c.perform.new.diag)) (g.S.Source.left c.perform.new.input) (g.S.Source.faults c.perform.new.input) (g.O.Sink.faults c.perform.new.output) in
    let asked = asked_for (map string_bytes c.args.words.now.items) in
    let does = does_stopped asked u v c.in-Err.stop (by_words c.as_slice.result.now c.args.words.now.items c.as_slice.ensures.value (λ l. asked_for (map string_bytes l)) u v (Err c.in-Err.stop) c.in-Err.ensures.performs) in
    (does.0, c.status.ensures ∙ does.1, does.2)
