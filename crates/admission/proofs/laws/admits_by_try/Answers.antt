use Rattle.admission.proofs.ScramRequests.{by_try}
use Rattle.admission.proofs.laws.admits_by_try.Goals as goal

pub returns : goal.returns
returns c = by_try
