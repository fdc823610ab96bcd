use Rattle.std.proofs.Common.{◌≡◌}
use Rattle.nonce_shard.specs.Sizes.{single_sizes}
use Rattle.drill.proofs.tests.drilled.Given as goal

abbrev pub invariant-loop : goal.invariant-loop
invariant-loop l = l.table.sizes ≡ single_sizes
