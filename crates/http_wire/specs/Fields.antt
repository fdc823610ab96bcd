-- The fields of a message, and their size.
use Rattle.std.specs.Prelude.{ℕ, suc, ◌+◌, Bool, List, [], ◌∷◌, length, if◌then◌else◌, bytes_eq, Option, Some, None, map, filter}
use Rattle.std.specs.List.{list_all}
use Rattle.http_header.specs.HeaderMap.{append_all, pairs}
use Rattle.http_header.specs.Token.{lowercase}
use Rattle.http_header.specs.FieldName.{is_field_name}

-- pairs of a name in lower case and a value
abbrev pub Pairs : Type 0
Pairs = List (List ℕ × List ℕ)

-- a field as a map has it
abbrev pub lowered : List ℕ × List ℕ → List ℕ × List ℕ
lowered p = (lowercase p.0, p.1)

-- each name is one of a header map
abbrev pub are_field_names : Pairs → Bool
are_field_names written = list_all (λ p. is_field_name p.0) written

-- the fields in the map's order, where each has a name
unfoldable pub fields_of : Pairs → Option Pairs
fields_of written = if are_field_names written then Some (pairs (append_all [] (map lowered written))) else None

-- the values of a name
abbrev pub values_of : Pairs → List ℕ → List (List ℕ)
values_of fields name = map (λ p. p.1) (filter (λ p. bytes_eq p.0 name) fields)

-- the bytes of names and values, and one more for each pair
abbrev pub pairs_size : List (List ℕ × List ℕ) → ℕ
pairs_size [] = 0
pairs_size (p ∷ ps) = suc (length p.0 + length p.1) + pairs_size ps
