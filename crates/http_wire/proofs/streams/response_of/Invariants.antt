use Rattle.std.proofs.Common.{◌≡◌, ◌≤◌, length, take}
use Rattle.std.specs.List.{concat}
use Rattle.http_wire.specs.ResponseFeed.{Holds}
use Rattle.http_wire.proofs.streams.response_of.Given as goal

-- the feed stands for the pieces so far
abbrev pub invariant-loop-piece : goal.invariant-loop-piece
invariant-loop-piece l = record {
  to_head : l.feed.to_head ≡ l.to_head;
  count : l.feed.count ≤ length (concat (take l.piece-index l.pieces));
  holds : Holds l.feed 0 (concat (take l.piece-index l.pieces));
}
