-- The text of spaces, and its first fault.
use Rattle.std.specs.Prelude.{◌≡◌, ◌≢◌, ◌<◌, ◌≤◌, ◌+◌, ◌⊎◌, ℕ, Bool, true, false, bytes_eq, List, [], ◌∷◌, ◌++◌, length, codes}
use Rattle.std.specs.List.{flat_map, list_any, position_or_len}
use Rattle.spaces_map.specs.Follows.{EachFits}
use Rattle.spaces_map.specs.Lines.{IsLine, line_text}
use Rattle.spaces_map.specs.declared.space.Mode.{Mode}
use Rattle.spaces_map.specs.declared.space.Mode.TheVariants.{Open, Optional, Required}
use Rattle.spaces_map.specs.declared.space.Space.{Space}
use Rattle.spaces_map.specs.declared.error.SpacesError.{SpacesError}
use Rattle.spaces_map.specs.declared.error.SpacesError.TheVariants.{BadLine, SamePrefix, OutOfMemory}

-- whether a space has this prefix
abbrev pub has_prefix : List ℕ → List Space → Bool
has_prefix prefix spaces = list_any (λ space. bytes_eq space.prefix prefix) spaces

-- the number of a space behind others: the place of the first of its realm, its own if there is none or it has no realm
abbrev pub number_of : List Space → Mode → List ℕ → ℕ
number_of before Open realm = length before
number_of before Optional realm = position_or_len (λ space. bytes_eq space.realm realm) before
number_of before Required realm = position_or_len (λ space. bytes_eq space.realm realm) before

-- a space that may stand behind others
pub record MayFollow (before : List Space) (space : Space) : Type 0 where
  pub line : IsLine space
  pub prefix : has_prefix space.prefix before ≡ false
  pub number : space.number ≡ number_of before space.mode space.realm

-- the spaces of a site
pub record IsSpaces (spaces : List Space) : Type 0 where
  pub few : length spaces ≤ 256
  pub each : EachFits MayFollow [] spaces

-- the first line
unfoldable pub header : List ℕ
header = codes "authspaces 1" ++ 10 ∷ []

abbrev pub space_line : Space → List ℕ
space_line space = line_text space ++ 10 ∷ []

-- the text of spaces
abbrev pub spaces_text : List Space → List ℕ
spaces_text spaces = header ++ flat_map space_line spaces

-- the lines before this one are a text of spaces, and this one begins what is left
pub record Reaches (text : List ℕ) (line : ℕ) (before : List Space) (rest : List ℕ) : Type 0 where
  pub spaces : IsSpaces before
  pub is : text ≡ spaces_text before ++ rest
  pub at : line ≡ length before + 2

-- no line of a space stands at the beginning
abbrev pub HasNoLine : List ℕ → Type 0
HasNoLine rest = (space : Space) → IsLine space → (more : List ℕ) → rest ≢ space_line space ++ more

-- the text doesn't begin with the first line
abbrev pub HasNoHeader : List ℕ → Type 0
HasNoHeader text = (rest : List ℕ) → text ≢ header ++ rest

-- what is left is no line of a space, or there is no room for one
abbrev pub IsNoSpace : List Space → List ℕ → Type 0
IsNoSpace before rest = (256 ≤ length before) ⊎ HasNoLine rest

-- the first fault of the text is that this line is none that may stand there
abbrev pub IsBadLine : List ℕ → ℕ → Type 0
IsBadLine text line =
    ((line ≡ 1) × HasNoHeader text)
    ⊎ ((before : List Space) × (rest : List ℕ) × Reaches text line before rest × (rest ≢ []) × IsNoSpace before rest)

-- the first fault of the text is that this line has a prefix that stood before
abbrev pub IsSamePrefix : List ℕ → ℕ → Type 0
IsSamePrefix text line =
    (before : List Space) × (space : Space) × (more : List ℕ) × Reaches text line before (space_line space ++ more)
    × (length before < 256) × IsLine space × (has_prefix space.prefix before ≡ true)

-- the first fault of the text is this one
abbrev pub IsFault : List ℕ → SpacesError → Type 0
IsFault text (BadLine line) = IsBadLine text line
IsFault text (SamePrefix line) = IsSamePrefix text line
IsFault text OutOfMemory = Unit {0}
