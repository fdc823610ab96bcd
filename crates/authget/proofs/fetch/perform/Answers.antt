use Rattle.std.proofs.Common.{◌∙◌, Err, Ok, List, ℕ, filter, map, string_bytes, subst, sym}
use Rattle.std.proofs.lemmas.Result.{err_from_is_err_and}
use Rattle.authget.specs.Endings.{scene, world}
use Rattle.authget.specs.Outside.{dial_of, outside, views}
use Rattle.authget.specs.Passwords.{ReadsLine}
use Rattle.authget.specs.Telling.{heard}
use Rattle.authget.specs.Words.{asked_for, is_option, is_plain}
use Rattle.authget.specs.declared.stop.Stop.TheVariants.{Fault}
use Rattle.authget.proofs.Targets.{targets}
use Rattle.authget.proofs.Whole.{performs_broken, performs_done, rose_in, stop_same}
use Rattle.authget.proofs.fetch.perform.Goals as goal

pub fetch_all-requires : goal.fetch_all-requires
fetch_all-requires g c =
    let words = map string_bytes c.args.words.now in
    targets (filter is_option words) (filter is_plain words) c.in-Some.plan (sym c.in_ok-plan.ensures ∙ c.in-Some.is)

pub returns-in_err-status-clause-performs : goal.returns-in_err-status-clause-performs
returns-in_err-status-clause-performs g c =
    let at = outside (views (dial_of g.N.Dial.dialled g.N.Dial.coming g.N.Dial.handed g.N.Dial.faults g.N.Dial.link_faults) g.C.Clock.shown g.W.Words.drawn g.W.Words.faults) in
    let see = heard g.D.Sink.written g.D.Sink.faults in
    let u = world (scene (at c.args.dial.now c.args.clock.now c.args.random.now) (g.O.Sink.written c.args.output.now) (see c.args.diag.now)) (g.S.Source.left c.args.input.now) (g.S.Source.faults c.args.input.now) (g.O.Sink.faults c.args.output.now) in
    let v = world (scene (at c.fetch_all.new.dial c.fetch_all.new.clock c.fetch_all.new.random) (g.O.Sink.written c.fetch_all.new.output) (see c.fetch_all.new.diag)) (g.S.Source.left c.read_line.new.input) (g.S.Source.faults c.read_line.new.input) (g.O.Sink.faults c.fetch_all.new.output) in
    let asked = asked_for (map string_bytes c.args.words.now) in
    let line = c.bytes.result.now in
    let reads = subst (λ (l : List ℕ). ReadsLine (g.S.Source.left c.args.input.now) (g.S.Source.left c.read_line.new.input) (Ok l)) (sym c.bytes.ensures) c.in_ok-password.ensures.line in
    let client = rw c.in-Some-2.is at c.in_ok-client.ensures in
    let is = sym c.in-Some.is ∙ c.in_ok-plan.ensures in
    let p = err_from_is_err_and c.from_residual-in_err-status.result c.from_residual-in_err-status.ensures.1 in
    rw (p.1, p.2) (performs_broken asked u v c.in-Some.plan line c.in-Some-2.client c.in_err-status.field-0.0 is reads client.0 client.1 c.in_err-status.ensures.fetches)

pub returns-in_err-status-clause-fault : goal.returns-in_err-status-clause-fault
returns-in_err-status-clause-fault g c = λ e.
    let p = err_from_is_err_and c.from_residual-in_err-status.result c.from_residual-in_err-status.ensures.1 in
    let stopped = stop_same c.from_residual-in_err-status.result p.0 c.in_err-status.field-0.0 Fault p.1 p.2 e in
    rose_in _ _ _ (c.in_err-status.ensures.fault (λ i. Err (stopped i)))

pub returns-clause-performs : goal.returns-clause-performs
returns-clause-performs g c =
    let at = outside (views (dial_of g.N.Dial.dialled g.N.Dial.coming g.N.Dial.handed g.N.Dial.faults g.N.Dial.link_faults) g.C.Clock.shown g.W.Words.drawn g.W.Words.faults) in
    let see = heard g.D.Sink.written g.D.Sink.faults in
    let u = world (scene (at c.args.dial.now c.args.clock.now c.args.random.now) (g.O.Sink.written c.args.output.now) (see c.args.diag.now)) (g.S.Source.left c.args.input.now) (g.S.Source.faults c.args.input.now) (g.O.Sink.faults c.args.output.now) in
    let v = world (scene (at c.fetch_all.new.dial c.fetch_all.new.clock c.fetch_all.new.random) (g.O.Sink.written c.fetch_all.new.output) (see c.fetch_all.new.diag)) (g.S.Source.left c.read_line.new.input) (g.S.Source.faults c.read_line.new.input) (g.O.Sink.faults c.fetch_all.new.output) in
    let asked = asked_for (map string_bytes c.args.words.now) in
    let line = c.bytes.result.now in
    let reads = subst (λ (l : List ℕ). ReadsLine (g.S.Source.left c.args.input.now) (g.S.Source.left c.read_line.new.input) (Ok l)) (sym c.bytes.ensures) c.in_ok-password.ensures.line in
    let client = rw c.in-Some-2.is at c.in_ok-client.ensures in
    let is = sym c.in-Some.is ∙ c.in_ok-plan.ensures in
    performs_done asked u v c.in-Some.plan line c.in-Some-2.client c.in_ok-status.status is reads client.0 client.1 c.in_ok-status.ensures.fetches
