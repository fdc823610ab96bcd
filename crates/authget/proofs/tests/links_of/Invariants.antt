use Rattle.std.proofs.Common.{All}
use Rattle.auth_io.specs.Memory.{IsUnused}
use Rattle.authget.proofs.tests.links_of.Given as goal

abbrev pub invariant-loop-reply : goal.invariant-loop-reply
invariant-loop-reply l = All IsUnused l.links.items
