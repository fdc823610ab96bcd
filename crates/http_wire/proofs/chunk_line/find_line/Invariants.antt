use Rattle.std.proofs.Common.{length, ◌-◌}
use Rattle.http_wire.specs.ChunkLine.{GoesOnLine}
use Rattle.http_wire.proofs.chunk_line.find_line.Given as goal

abbrev pub invariant-loop-at : goal.invariant-loop-at
invariant-loop-at l = GoesOnLine l.bytes l.at l.part

abbrev pub decreases-loop-at : goal.decreases-loop-at
decreases-loop-at l = length l.bytes - l.at
