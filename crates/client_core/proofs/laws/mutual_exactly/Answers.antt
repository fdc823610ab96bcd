use Rattle.client_core.proofs.MutualLaws.{mutual_exactly}
use Rattle.client_core.proofs.laws.mutual_exactly.Goals as goal

pub returns : goal.returns
returns c = mutual_exactly
