use Rattle.std.proofs.Common.{◌≡◌, ◌+◌, ℕ, Some, length, vec_capacity}
use Rattle.std.specs.List.{slice_get}
use Rattle.std.specs.Vec.Iter.{into_iter_items, into_iter_len}
use Rattle.nonce_table.specs.Passes.{TablePassFacts}
use Rattle.nonce_table.specs.Tables.{new_pass}
use Rattle.nonce_table.proofs.Taking.{Taken}
use Rattle.nonce_table.proofs.table.NonceTable.passes.Given as goal

abbrev pub invariant-loop-room : goal.invariant-loop-room
invariant-loop-room g l = record {
  taken : Taken (into_iter_items l.initial.room-iterator) l.yielded (into_iter_items l.room-iterator) (into_iter_len l.room-iterator);
  table : l.self ≡ record (l.initial.self) { made = l.initial.self.made + length l.yielded };
  capacity : vec_capacity l.passes ≡ l.n;
  long : length l.passes.items ≡ length l.yielded;
  new : (k : ℕ) (p : TablePassFacts) → slice_get l.passes.items k ≡ Some p → p ≡ new_pass l.initial.self (l.initial.self.made + 1 + k);
}
