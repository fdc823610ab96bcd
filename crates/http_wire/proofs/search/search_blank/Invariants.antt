use Rattle.std.proofs.Common.{length, ◌-◌}
use Rattle.http_wire.specs.declared.search.Place.TheVariants.{Blank}
use Rattle.http_wire.specs.Search.{Tracks}
use Rattle.http_wire.proofs.search.search_blank.Given as goal

abbrev pub invariant-lines : goal.invariant-lines
invariant-lines l = Tracks l.bytes (Blank l.at)

abbrev pub decreases-lines : goal.decreases-lines
decreases-lines l = length l.bytes - l.at
