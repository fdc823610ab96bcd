use Rattle.nonce_shard.proofs.NoTwice.{tries_once}
use Rattle.nonce_shard.proofs.laws.tries_once.Goals as goal

pub returns : goal.returns
returns c = tries_once
