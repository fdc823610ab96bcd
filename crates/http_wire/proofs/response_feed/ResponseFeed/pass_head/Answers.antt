use Rattle.std.proofs.Common.{◌≡◌, ◌++◌, ◌<◌, ◌≤◌, ◌+◌, ◌^◌, [], ℕ, length, drop, sym, ap, ◌∙◌, arith}
use Rattle.http_wire.specs.declared.response_stage.Stage.TheVariants.{Head}
use Rattle.http_wire.specs.declared.response_checks.JudgedResponse.TheVariants.{Sound, Informational, Faulty}
use Rattle.http_wire.specs.Responses.{Broken, body_front}
use Rattle.http_wire.specs.ResponseFeed.{place_of, stage_front}
use Rattle.http_wire.proofs.ResponseLaws.{window_head}
use Rattle.http_wire.proofs.ResponseFeedLemmas.{stop_steps, on_steps, head_front}
use Rattle.http_wire.proofs.response_feed.ResponseFeed.pass_head.Goals as goal

pub go_on-requires-clause-count : goal.go_on-requires-clause-count
go_on-requires-clause-count c = (window_head c.args.self.now.rest [] c.args.end c.requires.head).1

pub overflow_add-place : goal.overflow_add-place
overflow_add-place c =
    let le : c.args.end ≤ length c.args.self.now.rest = (window_head c.args.self.now.rest [] c.args.end c.requires.head).1 in
    let bound : c.place-in-Sound.result + length c.args.self.now.rest < 2 ^ 63 = c.place-in-Sound.ensures.bound in
    omega arith

pub go_on-requires-in-Sound-clause-count : goal.go_on-requires-in-Sound-clause-count
go_on-requires-in-Sound-clause-count c = (window_head c.args.self.now.rest [] c.args.end c.requires.head).1

pub go_on-requires-in-Sound-clause-stage : goal.go_on-requires-in-Sound-clause-stage
go_on-requires-in-Sound-clause-stage c = c.body_stage-stage.ensures.stage (drop c.args.end c.args.self.now.rest)

pub returns-in-Faulty : goal.returns-in-Faulty
returns-in-Faulty c =
    let o = c.args.self.now in
    stop_steps _ o c.stop.new.self c.place.result c.stop.result c.stop.ensures.result c.stop.ensures.after (λ more.
    head_front o.to_head (place_of o) o.rest c.args.end Faulty c.requires.head (sym c.in-Faulty.is ∙ c.requires.judged) more ∙ ap Broken (sym c.place.ensures.place))

pub returns-in-Informational : goal.returns-in-Informational
returns-in-Informational c =
    let o = c.args.self.now in
    let within = window_head o.rest [] c.args.end c.requires.head in
    on_steps _ o c.go_on.new.self c.args.end (Head 0) c.go_on.result c.go_on.ensures.result c.go_on.ensures.after c.go_on.ensures.fits c.requires.goes within.2 within.1 (λ more.
    sym (head_front o.to_head (place_of o) o.rest c.args.end Informational c.requires.head (sym c.in-Informational.is ∙ c.requires.judged) more))

pub returns-in-Sound : goal.returns-in-Sound
returns-in-Sound c =
    let o = c.args.self.now in
    let within = window_head o.rest [] c.args.end c.requires.head in
    let head = c.in-Sound.head in
    let stage = c.body_stage-stage in
    on_steps _ o c.go_on-in-Sound.new.self c.args.end stage.result c.go_on-in-Sound.result c.go_on-in-Sound.ensures.result c.go_on-in-Sound.ensures.after c.go_on-in-Sound.ensures.fits c.requires.goes within.2 within.1 (λ more.
    let place : place_of o + c.args.end ≡ c.place-in-Sound.result + c.args.end = ap (λ (p : ℕ). p + c.args.end) (sym c.place-in-Sound.ensures.place) in
    ap (λ (p : ℕ). stage_front o.to_head stage.result p (drop c.args.end o.rest ++ more)) place
    ∙ stage.ensures.front o.to_head (drop c.args.end o.rest ++ more)
    ∙ ap (λ (p : ℕ). body_front head.response head.framing p (drop c.args.end o.rest ++ more)) (sym place)
    ∙ sym (head_front o.to_head (place_of o) o.rest c.args.end (Sound head) c.requires.head (sym c.in-Sound.is ∙ c.requires.judged) more))
