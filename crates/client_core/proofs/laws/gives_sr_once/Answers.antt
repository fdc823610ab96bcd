use Rattle.client_core.proofs.OnceLaws.{gives_sr_once}
use Rattle.client_core.proofs.laws.gives_sr_once.Goals as goal

pub returns : goal.returns
returns c = gives_sr_once
