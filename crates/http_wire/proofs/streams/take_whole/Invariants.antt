use Rattle.std.proofs.Common.{◌+◌, ◌*◌, length, cond}
use Rattle.http_wire.specs.Streams.{Took}
use Rattle.http_wire.proofs.streams.take_whole.Given as goal

abbrev pub invariant-loop-request : goal.invariant-loop-request
invariant-loop-request l = Took l.fn.feed l.feed l.fn.requests.items l.requests.items

abbrev pub decreases-loop-request : goal.decreases-loop-request
decreases-loop-request l = 2 * length l.feed.rest + cond l.feed.told 0 1
