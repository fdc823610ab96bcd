use Rattle.std.proofs.Common.{◌≡◌, ◌+◌, ◌++◌, map, take, drop, vec_capacity}
use Rattle.nonce_table.specs.Shards.{opening_of}
use Rattle.nonce_table.proofs.Making.{new_of}
use Rattle.nonce_table.proofs.turns.Turns.split_all.Given as goal

abbrev pub invariant-loop-s : goal.invariant-loop-s
invariant-loop-s g l = record {
  openings : l.openings.items ≡ map (opening_of (l.made + 1)) (take l.s l.shards.items) ++ map (opening_of l.made) (drop l.s l.shards.items);
  passes : l.passes.items ≡ map (new_of l.made) (take l.s l.shards.items);
  room : vec_capacity l.passes ≡ vec_capacity l.initial.passes;
}
