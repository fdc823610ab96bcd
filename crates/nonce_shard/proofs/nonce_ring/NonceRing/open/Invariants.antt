use Rattle.std.proofs.Common.{◌≡◌, vec_len}
use Rattle.nonce_shard.proofs.nonce_ring.NonceRing.open.Given as goal

abbrev pub invariant-loop : goal.invariant-loop
invariant-loop l = vec_len l.slots ≡ l.counter
