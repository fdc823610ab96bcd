use Rattle.std.proofs.Common.{◌+◌, ◌-◌, ℕ, List, length, refl}
use Rattle.http_wire.specs.declared.response.Response.{Response}
use Rattle.http_wire.specs.declared.response_stage.Stage.TheVariants.{Body}
use Rattle.http_wire.specs.declared.response_stage.Part.TheVariants.{Data}
use Rattle.http_wire.specs.Responses.{ResponseFront, chunks}
use Rattle.http_wire.specs.ResponseFeed.{place_of}
use Rattle.http_wire.proofs.ResponseFeedLemmas.{body_waits, moved_all, chunk_goes, chunk_waits}
use Rattle.http_wire.proofs.response_feed.ResponseFeed.read_data.Goals as goal

pub returns : goal.returns
returns c =
    let a = c.args in
    let o = a.self.now in
    let n = c.in-Ok.count in
    let moved = moved_all n a.left (length o.rest) c.in-Ok.ensures.count c.if-count-left.false in
    let response : Response = record a.response { body = c.move_body.new.body } in
    let next : Response → ℕ → List ℕ → ResponseFront = λ r p b. chunks r a.at p b in
    body_waits _ o c.move_body.new.self c.keep-2.new.self n (Body response a.at (Data (a.left - n) a.line_at)) c.keep-2.result c.keep-2.ensures.result c.in-Ok.ensures.after c.keep-2.ensures.after
    c.in-Ok.ensures.fits moved.0 refl
    (chunk_goes a.response a.at a.left n o.rest c.move_body.new.body moved.0 moved.1 c.in-Ok.ensures.body next a.line_at (place_of o))
    (chunk_waits a.response a.at a.left n o.rest c.move_body.new.body moved.0 moved.1 c.in-Ok.ensures.body next a.line_at (place_of o + length o.rest))
