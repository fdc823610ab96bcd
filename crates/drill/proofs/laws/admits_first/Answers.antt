use Rattle.drill.proofs.First.{first_exactly}
use Rattle.drill.proofs.laws.admits_first.Goals as goal

pub returns : goal.returns
returns c = first_exactly
