use Rattle.std.proofs.Common.{◌++◌, ◌+◌, [], take, drop, refl, sym, ap, ◌∙◌}
use Rattle.http_wire.specs.declared.response_stage.Stage.TheVariants.{Body}
use Rattle.http_wire.specs.declared.response_stage.Part.TheVariants.{SizeLine}
use Rattle.http_wire.specs.Responses.{Broken, behind_line, chunks}
use Rattle.http_wire.specs.ChunkLine.{chunk_line}
use Rattle.http_wire.specs.ResponseFeed.{HeldResponse, place_of}
use Rattle.http_wire.proofs.ResponseLaws.{window_line}
use Rattle.http_wire.proofs.ResponseFeedLemmas.{wait_steps, stop_steps, on_steps, line_front, line_short, line_long, line_refused, first_line, first_line_text}
use Rattle.http_wire.proofs.response_feed.ResponseFeed.read_size_line.Goals as goal

pub chunk_size-size-requires : goal.chunk_size-size-requires
chunk_size-size-requires c =
    let o = c.args.self.now in
    let first = c.window-first.ensures ∙ ap (take 16384) (c.as_slice.ensures ∙ ap (λ (h : HeldResponse). h.rest) c.self.view_is) in
    (first_line_text o.rest c.window-first.result.now first c.in-Found.count c.in-Found.ensures.0 c.front_of.result.now c.front_of.ensures).0

pub go_on-requires-clause-count : goal.go_on-requires-clause-count
go_on-requires-clause-count c =
    let o = c.args.self.now in
    let first = c.window-first.ensures ∙ ap (take 16384) (c.as_slice.ensures ∙ ap (λ (h : HeldResponse). h.rest) c.self.view_is) in
    (window_line o.rest [] c.in-Found.count (first_line o.rest c.window-first.result.now first c.in-Found.count c.in-Found.ensures.0)).2

pub go_on-requires-clause-stage : goal.go_on-requires-clause-stage
go_on-requires-clause-stage c = c.chunk_stage-stage.ensures.stage (drop c.in-Found.count c.args.self.now.rest)

pub returns-in-Found : goal.returns-in-Found
returns-in-Found c =
    let o = c.args.self.now in
    let a = c.args in
    let n = c.in-Found.count in
    let first = c.window-first.ensures ∙ ap (take 16384) (c.as_slice.ensures ∙ ap (λ (h : HeldResponse). h.rest) c.self.view_is) in
    let line = first_line o.rest c.window-first.result.now first n c.in-Found.ensures.0 in
    let within = window_line o.rest [] n line in
    let size = c.chunk_size-size.ensures ∙ (first_line_text o.rest c.window-first.result.now first n c.in-Found.ensures.0 c.front_of.result.now c.front_of.ensures).1 in
    let stage = c.chunk_stage-stage in
    on_steps _ o c.go_on.new.self n stage.result c.go_on.result c.go_on.ensures.result c.go_on.ensures.after c.go_on.ensures.fits c.requires.goes within.3 within.2 (λ more.
    stage.ensures.front o.to_head (place_of o + n) (drop n o.rest ++ more)
    ∙ (λ i. behind_line (λ r p b. chunks r a.at p b) a.response a.at (c.place.ensures.place i) (place_of o + n) (size i) (drop n o.rest ++ more))
    ∙ sym (line_front a.response a.at (place_of o) o.rest n line more))

pub returns-in-Going : goal.returns-in-Going
returns-in-Going c =
    let o = c.args.self.now in
    let a = c.args in
    let first = c.window-first.ensures ∙ ap (take 16384) (c.as_slice.ensures ∙ ap (λ (h : HeldResponse). h.rest) c.self.view_is) in
    let unsure = ap chunk_line (sym first) ∙ c.in-Going.ensures.0 in
    wait_steps _ o c.wait_or_stop.new.self (Body a.response a.at (SizeLine c.in-Going.from c.in-Going.part)) c.place-in-Going.result c.wait_or_stop.result c.wait_or_stop.ensures refl (λ more. refl)
    (line_short a.response a.at (place_of o) o.rest unsure) (λ l more. line_long a.response a.at (place_of o) o.rest unsure l more ∙ ap Broken (sym c.place-in-Going.ensures.place))

pub returns-in-Refused : goal.returns-in-Refused
returns-in-Refused c =
    let o = c.args.self.now in
    let a = c.args in
    let first = c.window-first.ensures ∙ ap (take 16384) (c.as_slice.ensures ∙ ap (λ (h : HeldResponse). h.rest) c.self.view_is) in
    stop_steps _ o c.stop.new.self c.place-in-Refused.result c.stop.result c.stop.ensures.result c.stop.ensures.after (λ more.
    line_refused a.response a.at (place_of o) o.rest (ap chunk_line (sym first) ∙ c.in-Refused.ensures) more ∙ ap Broken (sym c.place-in-Refused.ensures.place))
