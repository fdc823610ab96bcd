use Rattle.std.proofs.Common.{◌≡◌, ◌≤◌, ℕ, Some, length}
use Rattle.std.specs.List.{slice_get}
use Rattle.std.specs.Vec.Iter.{into_iter_items, into_iter_len}
use Rattle.turn_table.specs.Passes.{PassFacts, joined_pass}
use Rattle.nonce_shard.specs.declared.calls.Call.{Call}
use Rattle.nonce_shard.specs.declared.sizes.Setting.{Setting}
use Rattle.nonce_table.specs.Shards.{AreOpenings}
use Rattle.nonce_table.proofs.Taking.{Taken}
use Rattle.nonce_table.proofs.turns.Turns.join.Given as goal

abbrev pub invariant-loop-one : goal.invariant-loop-one
invariant-loop-one g l = record {
  taken : Taken (into_iter_items l.initial.one-iterator) l.yielded (into_iter_items l.one-iterator) (into_iter_len l.one-iterator);
  place : l.s ≡ length l.yielded;
  openings : AreOpenings l.shards.items l.openings.items;
  done : (k : ℕ) (z q : PassFacts Call Setting) → slice_get l.initial.openings.items k ≡ Some z → slice_get l.yielded k ≡ Some q → slice_get l.openings.items k ≡ Some (joined_pass z q);
  rest : (k : ℕ) → l.s ≤ k → slice_get l.openings.items k ≡ slice_get l.initial.openings.items k;
}
