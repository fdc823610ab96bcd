use Rattle.proxy_core.proofs.Kept.{sent_only}
use Rattle.proxy_core.proofs.laws.dials_only_admitted.Goals as goal

pub returns : goal.returns
returns c = sent_only
