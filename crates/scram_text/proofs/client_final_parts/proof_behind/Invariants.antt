use Rattle.std.proofs.Common.{length}
use Rattle.scram_text.specs.Parts.{StandBefore}
use Rattle.scram_text.proofs.client_final_parts.proof_behind.Given as goal

-- extensions stand before the rest
abbrev pub invariant-parts : goal.invariant-parts
invariant-parts l = StandBefore l.rest l.text

abbrev pub decreases-parts : goal.decreases-parts
decreases-parts l = length l.rest
