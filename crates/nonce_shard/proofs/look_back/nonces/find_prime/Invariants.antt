use Rattle.std.proofs.Common.{◌≡◌, drop}
use Rattle.nonce_shard.specs.Nonces.{first_prime}
use Rattle.nonce_shard.proofs.look_back.nonces.find_prime.Given as goal

abbrev pub invariant-loop-a : goal.invariant-loop-a
invariant-loop-a l = first_prime (drop l.a-index l.past) l.name ≡ first_prime l.past l.name
