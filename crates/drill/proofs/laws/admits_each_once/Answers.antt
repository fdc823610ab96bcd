use Rattle.drill.proofs.Repeats.{each_once}
use Rattle.drill.proofs.laws.admits_each_once.Goals as goal

pub returns : goal.returns
returns c = each_once
