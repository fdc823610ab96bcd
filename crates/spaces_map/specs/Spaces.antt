-- The protection space of a path (RFC 9110 section 11.5).
use Rattle.std.specs.Prelude.{ℕ, Bool, true, false, ◌||◌, nat_eq, nat_lt, if◌then◌else◌, bytes_eq, List, [], ◌∷◌, ◌++◌, length, filter, Option, Some, None}
use Rattle.std.specs.List.{starts_with}
use Rattle.spaces_map.specs.declared.space.Mode.{Mode}
use Rattle.spaces_map.specs.declared.space.Mode.TheVariants.{Open, Optional, Required}
use Rattle.spaces_map.specs.declared.space.Space.{Space}

-- A prefix holds a path by whole segments: it is `/`, or the path is it, or the path goes on behind it with `/`.
abbrev pub holds : List ℕ → List ℕ → Bool
holds prefix path = bytes_eq prefix (47 ∷ []) || (bytes_eq path prefix || starts_with nat_eq path (prefix ++ 47 ∷ []))

abbrev pub longer_of : Space → Option Space → Option Space
longer_of space None = Some space
longer_of space (Some other) = if nat_lt (length space.prefix) (length other.prefix) then Some other else Some space

-- the first of those with the longest prefix
abbrev pub longest : List Space → Option Space
longest [] = None
longest (space ∷ spaces) = longer_of space (longest spaces)

-- of the longest so far and a space behind it: the space if its prefix is longer
abbrev pub later_of : Option Space → Space → Space
later_of None space = space
later_of (Some best) space = if nat_lt (length best.prefix) (length space.prefix) then space else best

-- the space of a path
abbrev pub space_of : List ℕ → List Space → Option Space
space_of path spaces = longest (filter (λ space. holds space.prefix path) spaces)

abbrev pub requires_credentials : Mode → Bool
requires_credentials Open = false
requires_credentials Optional = false
requires_credentials Required = true

abbrev pub is_required : Option Space → Bool
is_required None = false
is_required (Some space) = requires_credentials space.mode

-- the space of `/` is there and required
abbrev pub proxy_ready : List Space → Bool
proxy_ready spaces = is_required (space_of (47 ∷ []) spaces)
