use Rattle.std.proofs.Common.{◌≡◌}
use Rattle.nonce_shard.specs.Sizes.{single_sizes}
use Rattle.drill.specs.Steps.{world_at}
use Rattle.drill.proofs.Bounds.{IsWithin}
use Rattle.drill.proofs.Generation.{LeadsTo}
use Rattle.drill.proofs.drilling.drill_line.Given as goal

-- the steps so far lead here, and each added as much as a step can at most
abbrev pub invariant-loop : goal.invariant-loop
invariant-loop l = record {
  leads : LeadsTo l.fn.seed l.counter l.generator.state (world_at l.world l.table);
  within : IsWithin l.counter (world_at l.world l.table);
  limit : l.table.limit ≡ 12288;
  sizes : l.table.sizes ≡ single_sizes;
}
