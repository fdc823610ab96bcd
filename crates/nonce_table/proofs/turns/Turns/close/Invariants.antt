use Rattle.std.proofs.Common.{◌≡◌, ◌*◌, ◌<◌, ◌≤◌, ◌^◌, ℕ, Some, length, drop}
use Rattle.std.specs.List.{slice_get}
use Rattle.std.specs.Vec.Iter.{into_iter_items, into_iter_len}
use Rattle.turn_table.specs.Passes.{PassFacts, HasWholeHistory}
use Rattle.nonce_shard.specs.declared.calls.Call.{Call}
use Rattle.nonce_shard.specs.declared.sizes.Setting.{Setting}
use Rattle.nonce_table.specs.Shards.{totals_of}
use Rattle.nonce_table.specs.Closing.{sum_of}
use Rattle.nonce_table.proofs.Taking.{Taken}
use Rattle.nonce_table.proofs.turns.Turns.close.Given as goal

abbrev pub invariant-loop-turns : goal.invariant-loop-turns
invariant-loop-turns g l = record {
  taken : Taken (into_iter_items l.initial.turns-iterator) l.yielded (into_iter_items l.turns-iterator) (into_iter_len l.turns-iterator);
  rest : into_iter_items l.rest ≡ drop (length l.yielded) (into_iter_items l.initial.rest);
  left : into_iter_len l.rest ≡ into_iter_len l.turns-iterator;
  totals : l.closed ≡ sum_of (totals_of l.yielded (into_iter_items l.initial.rest));
  whole : (s : ℕ) (x : PassFacts Call Setting) → s < length l.yielded → slice_get (into_iter_items l.initial.rest) s ≡ Some x → HasWholeHistory x;
  calls : l.closed.calls ≤ length l.yielded * 2 ^ 64;
  issued : l.closed.issued ≤ length l.yielded * 2 ^ 64;
  admitted : l.closed.admitted ≤ length l.yielded * 2 ^ 64;
  repeated : l.closed.repeated ≤ length l.yielded * 2 ^ 64;
}
