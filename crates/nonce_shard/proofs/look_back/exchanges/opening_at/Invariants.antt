use Rattle.std.proofs.Common.{◌≡◌, slice_get, drop}
use Rattle.nonce_shard.specs.Exchanges.{openings}
use Rattle.nonce_shard.proofs.look_back.exchanges.opening_at.Given as goal

abbrev pub invariant-loop-a : goal.invariant-loop-a
invariant-loop-a l = slice_get (openings (drop l.a-index l.past)) l.left ≡ slice_get (openings l.past) l.serial
