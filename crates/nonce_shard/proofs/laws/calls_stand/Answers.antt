use Rattle.nonce_shard.proofs.CallPlaces.{calls_stand}
use Rattle.nonce_shard.proofs.laws.calls_stand.Goals as goal

pub returns : goal.returns
returns c = calls_stand
