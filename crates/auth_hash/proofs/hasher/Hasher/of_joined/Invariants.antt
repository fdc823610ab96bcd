use Rattle.std.proofs.Common.{map, take}
use Rattle.auth_hash.specs.Hash.{joined}
use Rattle.auth_hash.specs.Hasher.{Holding}
use Rattle.auth_hash.proofs.hasher.Hasher.of_joined.Given as goal

-- the hasher has taken the texts so far
abbrev pub invariant-loop-at : goal.invariant-loop-at
invariant-loop-at l = Holding l.hasher l.fn.algorithm (joined (map (λ text. text.now) (take l.at l.texts)))
