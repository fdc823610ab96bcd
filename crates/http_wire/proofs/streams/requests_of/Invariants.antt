use Rattle.std.proofs.Common.{take}
use Rattle.std.specs.List.{concat}
use Rattle.http_wire.proofs.StreamLemmas.{Between}
use Rattle.http_wire.proofs.streams.requests_of.Given as goal

abbrev pub invariant-loop-piece : goal.invariant-loop-piece
invariant-loop-piece l = Between (concat (take l.piece-index l.pieces)) l.requests.items l.feed
