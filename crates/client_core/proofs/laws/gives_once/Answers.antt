use Rattle.client_core.proofs.OnceLaws.{gives_once}
use Rattle.client_core.proofs.laws.gives_once.Goals as goal

pub returns : goal.returns
returns c = gives_once
