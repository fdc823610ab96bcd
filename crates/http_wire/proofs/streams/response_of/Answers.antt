use Rattle.std.proofs.Common.{◌≡◌, ◌++◌, ◌<◌, ◌≤◌, ◌+◌, ◌^◌, ℕ, List, length, take, drop, sym, ap, ◌∙◌, subst, length-append, arith}
use Rattle.std.specs.List.{concat}
use Rattle.std.proofs.lemmas.List.{take_all}
use Rattle.http_wire.specs.Responses.{response_front}
use Rattle.http_wire.specs.ResponseFeed.{Holds, ahead, is_over}
use Rattle.http_wire.specs.Streams.{EndsIn}
use Rattle.http_wire.proofs.StreamLemmas.{concat_more, concat_others, holds_push, holds_stay, gives_ends, finish_ends, count_le}
use Rattle.http_wire.proofs.streams.response_of.Goals as goal

pub push-requires : goal.push-requires
push-requires c =
    let pieces = c.args.pieces.now in
    let i = c.loop-piece.piece-index in
    let piece = c.piece-item.result in
    let before = concat (take i pieces) in
    let others = concat (drop (i + 1) pieces) in
    let more : length (concat (take (i + 1) pieces)) ≡ length before + length piece = ap length (concat_more pieces i piece c.loop-piece-test.true c.piece-item.is) ∙ length-append before piece in
    let all : length (concat (take (i + 1) pieces)) + length others ≡ length (concat pieces) = sym (length-append (concat (take (i + 1) pieces)) others) ∙ ap length (concat_others pieces i piece c.loop-piece-test.true c.piece-item.is) in
    let size : length c.bytes.result.now ≡ length piece = ap length c.bytes.ensures in
    let count : c.loop-piece.feed.count ≤ length before = c.loop-piece.invariant.count in
    let room : length (concat pieces) < 2 ^ 63 = c.requires in
    omega arith

pub loop-piece-preserved : goal.loop-piece-preserved
loop-piece-preserved c =
    let pieces = c.args.pieces.now in
    let i = c.loop-piece.piece-index in
    let piece = c.piece-item.result in
    let before = concat (take i pieces) in
    let old = c.loop-piece.feed in
    let more = concat_more pieces i piece c.loop-piece-test.true c.piece-item.is in
    let size : length (concat (take (i + 1) pieces)) ≡ length before + length piece = ap length more ∙ length-append before piece in
    let is = c.bytes.ensures in
    let pushed = c.in-Ok.ensures.ahead in
    let holds : Holds c.push.new.self 0 (before ++ piece) =
    holds_push old c.push.new.self 0 before piece c.loop-piece.invariant.holds c.in-Ok.ensures.to_head (λ others. pushed others ∙ ap (λ (b : List ℕ). ahead old (b ++ others)) is) in
    let count : c.push.new.self.count ≤ length before + length c.bytes.result.now = count_le (is_over old) old.count (length c.bytes.result.now) (length before) c.push.new.self.count c.in-Ok.ensures.count c.loop-piece.invariant.count in
    let same : length c.bytes.result.now ≡ length piece = ap length is in
    let stays = c.in-NeedMore.ensures.1 in
    let kept : c.next.new.self.count ≡ c.push.new.self.count = stays.count in
    record {
      to_head = stays.to_head ∙ c.in-Ok.ensures.to_head ∙ c.loop-piece.invariant.to_head;
      count = omega arith;
      holds = subst (λ (b : List ℕ). Holds c.next.new.self 0 b) (sym more) (holds_stay c.push.new.self c.next.new.self 0 (before ++ piece) holds stays);
    }

pub returns-in_default-next : goal.returns-in_default-next
returns-in_default-next c =
    let pieces = c.args.pieces.now in
    let i = c.loop-piece.piece-index in
    let piece = c.piece-item.result in
    let before = concat (take i pieces) in
    let old = c.loop-piece.feed in
    let more = concat_more pieces i piece c.loop-piece-test.true c.piece-item.is in
    let pushed = c.in-Ok.ensures.ahead in
    let holds : Holds c.push.new.self 0 (before ++ piece) =
    holds_push old c.push.new.self 0 before piece c.loop-piece.invariant.holds c.in-Ok.ensures.to_head (λ others. pushed others ∙ ap (λ (b : List ℕ). ahead old (b ++ others)) c.bytes.ensures) in
    let whole : (before ++ piece) ++ concat (drop (i + 1) pieces) ≡ concat pieces =
    ap (λ (b : List ℕ). b ++ concat (drop (i + 1) pieces)) (sym more) ∙ concat_others pieces i piece c.loop-piece-test.true c.piece-item.is in
    subst (λ (b : List ℕ). EndsIn (response_front c.args.to_head 0 b) c.next.result) whole
    (gives_ends c.push.new.self c.next.new.self c.args.to_head (before ++ piece) (concat (drop (i + 1) pieces)) c.next.result holds (c.in-Ok.ensures.to_head ∙ c.loop-piece.invariant.to_head) c.next.ensures c.in_default-next.not-NeedMore)

pub returns : goal.returns
returns c =
    let pieces = c.args.pieces.now in
    let all : take c.loop-piece.piece-index pieces ≡ pieces = take_all c.loop-piece.piece-index pieces c.loop-piece-test.false in
    subst (λ (b : List ℕ). EndsIn (response_front c.args.to_head 0 b) c.finish.result) (ap concat all)
    (finish_ends c.loop-piece.feed c.finish.new.self c.args.to_head (concat (take c.loop-piece.piece-index pieces)) c.finish.result c.loop-piece.invariant.holds c.loop-piece.invariant.to_head c.finish.ensures)
