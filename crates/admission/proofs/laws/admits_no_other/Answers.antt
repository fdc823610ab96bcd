use Rattle.admission.proofs.NoOther.{no_other}
use Rattle.admission.proofs.laws.admits_no_other.Goals as goal

pub returns : goal.returns
returns c = no_other
