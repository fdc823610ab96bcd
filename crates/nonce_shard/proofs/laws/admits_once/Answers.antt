use Rattle.nonce_shard.proofs.NoTwice.{admits_once}
use Rattle.nonce_shard.proofs.laws.admits_once.Goals as goal

pub returns : goal.returns
returns c = admits_once
