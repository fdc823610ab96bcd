use Rattle.admission.proofs.ScramRequests.{again}
use Rattle.admission.proofs.laws.admits_again.Goals as goal

pub returns : goal.returns
returns c = again
