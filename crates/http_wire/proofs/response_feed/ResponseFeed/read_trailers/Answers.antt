use Rattle.std.proofs.Common.{take, refl, sym, ap, ◌∙◌}
use Rattle.http_wire.specs.declared.response_stage.Stage.TheVariants.{Body}
use Rattle.http_wire.specs.declared.response_stage.Part.TheVariants.{Trailers}
use Rattle.http_wire.specs.Responses.{trailers_len}
use Rattle.http_wire.specs.ResponseFeed.{HeldResponse}
use Rattle.http_wire.proofs.ResponseFeedLemmas.{wait_steps, done_steps, trailers_found, trailers_short, trailers_long, trailers_within}
use Rattle.http_wire.proofs.response_feed.ResponseFeed.read_trailers.Goals as goal

pub give-requires : goal.give-requires
give-requires c =
    let o = c.args.self.now in
    let first = c.window.ensures ∙ ap (take 16384) (c.as_slice.ensures ∙ ap (λ (h : HeldResponse). h.rest) c.self.view_is) in
    trailers_within c.args.response c.args.at o.rest c.in-At.end (ap trailers_len (sym first) ∙ c.in-At.ensures)

pub returns-in-At : goal.returns-in-At
returns-in-At c =
    let o = c.args.self.now in
    let first = c.window.ensures ∙ ap (take 16384) (c.as_slice.ensures ∙ ap (λ (h : HeldResponse). h.rest) c.self.view_is) in
    done_steps _ o c.give.new.self c.in-At.end c.args.response c.give.result c.give.ensures.result c.give.ensures.after
    (trailers_found c.args.response c.args.at o.rest c.in-At.end (ap trailers_len (sym first) ∙ c.in-At.ensures))

pub returns-in-Missing : goal.returns-in-Missing
returns-in-Missing c =
    let o = c.args.self.now in
    let a = c.args in
    let first = c.window.ensures ∙ ap (take 16384) (c.as_slice.ensures ∙ ap (λ (h : HeldResponse). h.rest) c.self.view_is) in
    let none = ap trailers_len (sym first) ∙ c.in-Missing.ensures.0 in
    wait_steps _ o c.wait_or_stop.new.self (Body a.response a.at (Trailers c.in-Missing.from)) a.at c.wait_or_stop.result c.wait_or_stop.ensures refl (λ more. refl)
    (trailers_short a.response a.at o.rest none) (trailers_long a.response a.at o.rest none)
