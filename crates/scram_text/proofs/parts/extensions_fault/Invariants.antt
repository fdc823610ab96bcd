use Rattle.std.proofs.Common.{◌≡◌, ◌++◌, List, ℕ, length}
use Rattle.std.specs.List.{AllByRecursion}
use Rattle.scram_text.specs.Parts.{IsAtComma, IsAttribute, behind_commas}
use Rattle.scram_text.specs.declared.attribute.Attribute.TheVariants.{Extension}
use Rattle.scram_text.proofs.parts.extensions_fault.Given as goal

-- extensions stand before the rest
abbrev pub invariant-loop-more : goal.invariant-loop-more
invariant-loop-more l = (parts : List (List ℕ)) × AllByRecursion (IsAttribute Extension) parts × (l.text ≡ behind_commas parts ++ l.rest) × IsAtComma l.rest

abbrev pub decreases-loop-more : goal.decreases-loop-more
decreases-loop-more l = length l.rest
