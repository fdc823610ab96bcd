use Rattle.std.proofs.Common.{◌≡◌, ◌++◌, length}
use Rattle.spaces_map.specs.Texts.{IsSpaces, spaces_text}
use Rattle.spaces_map.proofs.texts.spaces_in.Given as goal

-- the text so far is that of the spaces so far
abbrev pub invariant-loop-rest : goal.invariant-loop-rest
invariant-loop-rest l = IsSpaces l.spaces × (l.text ≡ spaces_text l.spaces ++ l.rest)

abbrev pub decreases-loop-rest : goal.decreases-loop-rest
decreases-loop-rest l = length l.rest
