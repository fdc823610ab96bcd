use Rattle.std.proofs.Common.{◌≡◌, ◌≤◌, ◌+◌, length}
use Rattle.http_wire.specs.Lines.{line_feeds}
use Rattle.http_wire.proofs.request_head.count_lines.Given as goal

abbrev pub invariant-feeds : goal.invariant-feeds
invariant-feeds l = record {
  all : l.count + length l.feeds ≡ line_feeds l.text;
  few : l.count + length l.feeds ≤ length l.text;
}

abbrev pub decreases-feeds : goal.decreases-feeds
decreases-feeds l = length l.feeds
