use Rattle.proxy_core.proofs.Kept.{none_up}
use Rattle.proxy_core.proofs.laws.sends_no_credentials.Goals as goal

pub returns : goal.returns
returns c = none_up
