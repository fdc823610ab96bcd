use Rattle.std.proofs.Common.{◌≡◌, ℕ, [], Some, length, vec_capacity}
use Rattle.std.specs.List.{slice_get}
use Rattle.nonce_shard.specs.Shard.{StandsFor, setting}
use Rattle.nonce_shard.specs.declared.shard.Shard.{Shard}
use Rattle.nonce_table.proofs.table.open_shards.Given as goal

abbrev pub invariant-loop-number : goal.invariant-loop-number
invariant-loop-number l = record {
  room : vec_capacity l.shards ≡ l.sizes.shards;
  long : length l.shards.items ≡ l.number;
  each : (k : ℕ) (o : Shard) → slice_get l.shards.items k ≡ Some o → (setting o ≡ record { number = k; sizes = l.sizes }) × StandsFor o [];
}
