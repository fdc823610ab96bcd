use Rattle.std.proofs.Common.{◌≡◌, ℕ, Some, fold}
use Rattle.std.specs.List.{slice_get}
use Rattle.std.specs.Vec.Iter.{into_iter_items, into_iter_len}
use Rattle.turn_table.specs.Passes.{PassFacts}
use Rattle.nonce_shard.specs.declared.calls.Call.{Call}
use Rattle.nonce_shard.specs.declared.sizes.Setting.{Setting}
use Rattle.nonce_table.specs.Shards.{AreOpenings}
use Rattle.nonce_table.specs.Closing.{joined_at}
use Rattle.nonce_table.proofs.Taking.{Taken}
use Rattle.nonce_table.proofs.table.NonceTable.close.Given as goal

abbrev pub invariant-loop-pass : goal.invariant-loop-pass
invariant-loop-pass g l = record {
  taken : Taken (into_iter_items l.initial.pass-iterator) l.yielded (into_iter_items l.pass-iterator) (into_iter_len l.pass-iterator);
  lists : (s : ℕ) (x : PassFacts Call Setting) → slice_get l.initial.openings.items s ≡ Some x → slice_get l.openings.items s ≡ Some (fold (joined_at s) x l.yielded);
  openings : AreOpenings l.turns l.openings.items;
}
