use Rattle.std.proofs.Common.{take, drop, Some, sym, ap, ◌∙◌, arith}
use Rattle.http_wire.specs.declared.response_stage.Stage.TheVariants.{Body}
use Rattle.http_wire.specs.declared.response_stage.Part.TheVariants.{SizeLine}
use Rattle.http_wire.specs.declared.chunk_line.LinePart.TheVariants.{Digits}
use Rattle.http_wire.specs.Responses.{chunks}
use Rattle.http_wire.specs.ResponseFeed.{HeldResponse, place_of}
use Rattle.http_wire.specs.ResponseSteps.{has_crlf}
use Rattle.http_wire.proofs.ChunkLineLemmas.{goes_on_none}
use Rattle.http_wire.proofs.ResponseFeedLemmas.{on_steps, crlf_found, crlf_two}
use Rattle.http_wire.proofs.response_feed.ResponseFeed.read_data_end.Goals as goal

pub go_on-requires-clause-stage : goal.go_on-requires-clause-stage
go_on-requires-clause-stage c = goes_on_none (take 16384 (drop 2 c.args.self.now.rest))

pub returns-in-Some-true : goal.returns-in-Some-true
returns-in-Some-true c =
    let a = c.args in
    let o = a.self.now in
    let found = ap has_crlf (sym (c.as_slice.ensures ∙ ap (λ (h : HeldResponse). h.rest) c.self.view_is)) ∙ sym c.has_crlf.ensures ∙ c.in-Some-true.is ∙ ap Some c.in-Some-true.field-0-test in
    on_steps _ o c.go_on.new.self 2 (Body a.response a.at (SizeLine 0 (Digits 0))) c.go_on.result c.go_on.ensures.result c.go_on.ensures.after c.go_on.ensures.fits c.requires (omega arith) (crlf_two o.rest found)
    (crlf_found (λ p b. chunks a.response a.at p b) a.at a.line_at (place_of o) o.rest found)
