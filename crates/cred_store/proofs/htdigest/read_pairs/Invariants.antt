use Rattle.std.proofs.Common.{length}
use Rattle.cred_store.proofs.Pairs.{HasRead}
use Rattle.cred_store.proofs.htdigest.read_pairs.Given as goal

abbrev pub invariant-loop-rest : goal.invariant-loop-rest
invariant-loop-rest l = HasRead l.text l.rest l.number l.pairs

abbrev pub decreases-loop-rest : goal.decreases-loop-rest
decreases-loop-rest l = length l.rest
