use Rattle.cred_store.proofs.OneFault.{one_fault}
use Rattle.cred_store.proofs.laws.has_one_first_fault.Goals as goal

pub returns : goal.returns
returns c = one_fault
