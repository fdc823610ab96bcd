-- The fault of one line.
use Rattle.std.specs.Prelude.{◌≡◌, ◌≢◌, ◌<◌, ◌≤◌, ◌+◌, ◌⊎◌, ℕ, true, List, length}
use Rattle.spaces_map.specs.Lines.{IsLine, line_text}
use Rattle.spaces_map.specs.Texts.{has_prefix}
use Rattle.spaces_map.specs.declared.space.Space.{Space}
use Rattle.spaces_map.specs.declared.error.SpacesError.{SpacesError}
use Rattle.spaces_map.specs.declared.error.SpacesError.TheVariants.{BadLine, SamePrefix, OutOfMemory}

-- the line is not that of a space
abbrev pub IsNoLine : List ℕ → Type 0
IsNoLine line = (space : Space) → IsLine space → line ≢ line_text space

-- the line is that of a space, and its prefix stood before
abbrev pub IsRepeat : List Space → List ℕ → Type 0
IsRepeat before line = (space : Space) × IsLine space × (line ≡ line_text space) × (has_prefix space.prefix before ≡ true)

-- the fault of the line behind these spaces, the first of them at line 2
abbrev pub IsLineFault : List Space → List ℕ → SpacesError → Type 0
IsLineFault before line (BadLine at) = (at ≡ length before + 2) × ((256 ≤ length before) ⊎ IsNoLine line)
IsLineFault before line (SamePrefix at) = (at ≡ length before + 2) × (length before < 256) × IsRepeat before line
IsLineFault before line OutOfMemory = Unit {0}
