use Rattle.std.proofs.Common.{◌≡◌, [], All, length, vec_capacity}
use Rattle.nonce_table.proofs.table.reserve.Given as goal

abbrev pub invariant-loop : goal.invariant-loop
invariant-loop g l = record {
  room : vec_capacity l.rooms ≡ l.n;
  long : length l.rooms.items ≡ l.counter;
  empty : All (λ r. (r.items ≡ []) × (vec_capacity r ≡ l.shards)) l.rooms.items;
}
