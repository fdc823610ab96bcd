use Rattle.std.proofs.Common.{◌≡◌, ◌++◌, ◌<◌, ◌≤◌, ◌+◌, ◌^◌, ℕ, List, length, sym, ap, ◌∙◌, subst, length-append, arith}
use Rattle.http_wire.specs.ResponseFeed.{HeldResponse, ahead}
use Rattle.http_wire.specs.ResponseSteps.{IsStage}
use Rattle.http_wire.proofs.ResponseFeedLemmas.{stage_more, push_ahead}
use Rattle.http_wire.proofs.response_feed.ResponseFeed.push.Goals as goal

pub invariant_of-self-2 : goal.invariant_of-self-2
invariant_of-self-2 c =
    let i = c.self.inside in
    let size : length c.extend.new.self ≡ length i.rest + length c.args.piece.now = ap length c.in_ok-extend.ensures.ok ∙ length-append i.rest c.args.piece.now in
    let room : i.count + length c.args.piece.now < 2 ^ 63 = subst (λ (h : HeldResponse). h.count + length c.args.piece.now < 2 ^ 63) (sym c.self.view_is) c.requires in
    let fits : length i.rest ≤ i.count = c.self.invariant.1 in
    (subst (λ (r : List ℕ). IsStage r i.stage) (sym c.in_ok-extend.ensures.ok) (stage_more i.stage i.rest c.args.piece.now c.self.invariant.0), omega arith, room)

pub returns-clause-ahead : goal.returns-clause-ahead
returns-clause-ahead c = λ more.
    let i = c.self.inside in
    push_ahead i.to_head i.count i.rest i.stage c.args.piece.now c.self.invariant.1 c.extend.new.self c.in_ok-extend.ensures.ok more
    ∙ ap (λ (h : HeldResponse). ahead h (c.args.piece.now ++ more)) c.self.view_is
