use Rattle.std.proofs.Common.{◌-◌, ℕ, List, length, drop, refl, sym, ap, ◌∙◌}
use Rattle.http_wire.specs.declared.response.Response.{Response}
use Rattle.http_wire.specs.declared.response_stage.Stage.TheVariants.{Body, Head}
use Rattle.http_wire.specs.declared.response_stage.Part.TheVariants.{Known}
use Rattle.http_wire.specs.Responses.{Complete}
use Rattle.http_wire.specs.ResponseFeed.{HeldResponse}
use Rattle.http_wire.proofs.ResponseFeedLemmas.{body_waits, done_steps, moved_all, known_goes, known_waits, sized_whole}
use Rattle.http_wire.proofs.response_feed.ResponseFeed.read_known.Goals as goal

pub returns-then-count-left : goal.returns-then-count-left
returns-then-count-left c =
    let a = c.args in
    let o = a.self.now in
    let n = c.in-Ok.count in
    let after = c.give.ensures.after ∙ ap (λ (h : HeldResponse). record h { rest = drop 0 h.rest; stage = Head 0 }) c.in-Ok.ensures.after in
    let body = c.in-Ok.ensures.body in
    done_steps _ o c.give.new.self n _ c.give.result c.give.ensures.result after
    (sized_whole a.response a.at a.left n o.rest c.if-count-left.true c.in-Ok.ensures.count
    ∙ ap (λ (b : List ℕ). Complete (record a.response { body = b }) (drop n o.rest)) (sym body))

pub returns : goal.returns
returns c =
    let a = c.args in
    let o = a.self.now in
    let n = c.in-Ok.count in
    let moved = moved_all n a.left (length o.rest) c.in-Ok.ensures.count c.if-count-left.false in
    let response : Response = record a.response { body = c.move_body.new.body } in
    body_waits _ o c.move_body.new.self c.keep-2.new.self n (Body response a.at (Known (a.left - n))) c.keep-2.result c.keep-2.ensures.result c.in-Ok.ensures.after c.keep-2.ensures.after
    c.in-Ok.ensures.fits moved.0 refl
    (known_goes a.response a.at a.left n o.rest c.move_body.new.body moved.0 moved.1 c.in-Ok.ensures.body)
    (known_waits a.response a.at a.left n o.rest c.move_body.new.body moved.0 moved.1 c.in-Ok.ensures.body)
