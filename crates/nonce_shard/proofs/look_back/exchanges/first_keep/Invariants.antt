use Rattle.std.proofs.Common.{◌≡◌, drop}
use Rattle.nonce_shard.specs.Exchanges.{kept_at}
use Rattle.nonce_shard.proofs.look_back.exchanges.first_keep.Given as goal

abbrev pub invariant-loop-a : goal.invariant-loop-a
invariant-loop-a l = kept_at (drop l.a-index l.past) l.name ≡ kept_at l.past l.name
