use Rattle.std.proofs.Common.{◌+◌, ◌<◌, ◌^◌, length, List, ℕ, sym, ap, ◌∙◌, subst}
use Rattle.http_wire.specs.RequestFeed.{pushed}
use Rattle.http_wire.proofs.StreamLemmas.{between_none, between_more, all_wrong, push_fits}
use Rattle.http_wire.proofs.streams.requests_of.Goals as goal

pub loop-piece-init : goal.loop-piece-init
loop-piece-init c = between_none c.new-feed.result c.new-requests.result.items c.new-feed.ensures c.new-requests.ensures.items

pub push-requires : goal.push-requires
push-requires c =
    let fits = push_fits c.args.pieces.now c.loop-piece.piece-index c.piece-item.result c.loop-piece-test.true c.piece-item.is c.loop-piece.feed c.loop-piece.requests.items c.loop-piece.invariant c.requires in
    subst (λ (l : List ℕ). c.loop-piece.feed.at + length c.loop-piece.feed.rest + length l < 2 ^ 63) (sym c.bytes.ensures) fits

pub returns-then-not-on : goal.returns-then-not-on
returns-then-not-on c =
    all_wrong c.args.pieces.now c.loop-piece.piece-index c.piece-item.result c.loop-piece-test.true c.piece-item.is c.loop-piece.feed c.push.new.self c.take_whole.new.feed
    c.loop-piece.requests.items c.take_whole.new.requests.items c.in_ok-on.on c.loop-piece.invariant (c.in_ok-push.ensures.ok ∙ ap (pushed c.loop-piece.feed) c.bytes.ensures) c.in_ok-on.ensures c.if-not-on.true

pub loop-piece-preserved : goal.loop-piece-preserved
loop-piece-preserved c =
    between_more c.args.pieces.now c.loop-piece.piece-index c.piece-item.result c.loop-piece-test.true c.piece-item.is c.loop-piece.feed c.push.new.self c.take_whole.new.feed
    c.loop-piece.requests.items c.take_whole.new.requests.items c.in_ok-on.on c.loop-piece.invariant (c.in_ok-push.ensures.ok ∙ ap (pushed c.loop-piece.feed) c.bytes.ensures) c.in_ok-on.ensures c.if-not-on.false
