use Rattle.std.proofs.Common.{◌≡◌, slice_get, drop}
use Rattle.nonce_shard.specs.Nonces.{nonces}
use Rattle.nonce_shard.proofs.look_back.nonces.nonce_at.Given as goal

abbrev pub invariant-loop-a : goal.invariant-loop-a
invariant-loop-a l = slice_get (nonces (drop l.a-index l.past)) l.left ≡ slice_get (nonces l.past) l.serial
