use Rattle.std.proofs.Common.{◌≡◌, ℕ, Some, length, map, vec_capacity}
use Rattle.std.specs.List.{slice_get}
use Rattle.std.specs.Vec.Iter.{into_iter_items, into_iter_len}
use Rattle.turn_table.specs.Passes.{TableFacts}
use Rattle.nonce_shard.specs.declared.sizes.Setting.{Setting}
use Rattle.nonce_table.specs.Shards.{opening_of}
use Rattle.nonce_table.proofs.Taking.{Taken}
use Rattle.nonce_table.proofs.table.NonceTable.of.Given as goal

abbrev pub invariant-loop-object : goal.invariant-loop-object
invariant-loop-object g l = record {
  taken : Taken (into_iter_items l.initial.object-iterator) l.yielded (into_iter_items l.object-iterator) (into_iter_len l.object-iterator);
  room : vec_capacity l.shards ≡ vec_capacity l.initial.shards;
  openings_room : vec_capacity l.openings ≡ vec_capacity l.initial.openings;
  long : length l.shards.items ≡ length l.yielded;
  setting : (k : ℕ) (t : TableFacts Setting) → slice_get l.shards.items k ≡ Some t → t.setting ≡ record { number = k; sizes = l.sizes };
  openings : l.openings.items ≡ map (opening_of 0) l.shards.items;
}
