use Rattle.std.proofs.Common.{length, ◌-◌}
use Rattle.http_wire.specs.Search.{GoesOn}
use Rattle.http_wire.proofs.search.find_end.Given as goal

abbrev pub invariant-ends : goal.invariant-ends
invariant-ends l = GoesOn l.bytes l.from l.at

abbrev pub decreases-ends : goal.decreases-ends
decreases-ends l = length l.bytes - l.at
