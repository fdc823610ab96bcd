use Rattle.nonce_shard.proofs.OneName.{names_one}
use Rattle.nonce_shard.proofs.laws.names_one.Goals as goal

pub returns : goal.returns
returns c = names_one
