-- A text of spaces is read in one way.
use Rattle.std.specs.Prelude.{◌≡◌, ℕ, List, Result, Ok, Err}
use Rattle.spaces_map.specs.Texts.{IsBadLine, IsSamePrefix, IsSpaces, spaces_text}
use Rattle.spaces_map.specs.declared.space.Space.{Space}
use Rattle.spaces_map.specs.declared.error.SpacesError.{SpacesError}
use Rattle.spaces_map.specs.declared.error.SpacesError.TheVariants.{BadLine, SamePrefix, OutOfMemory}

-- what reading a text gives where there is memory
abbrev pub IsOutcome : List ℕ → Result (List Space) SpacesError → Type 0
IsOutcome text (Ok spaces) = IsSpaces spaces × (text ≡ spaces_text spaces)
IsOutcome text (Err (BadLine line)) = IsBadLine text line
IsOutcome text (Err (SamePrefix line)) = IsSamePrefix text line
IsOutcome text (Err OutOfMemory) = ⊥

-- no text has two outcomes
abbrev pub ReadsOneWay : Type 0
ReadsOneWay = (text : List ℕ) (a b : Result (List Space) SpacesError) → IsOutcome text a → IsOutcome text b → a ≡ b
