-- Which fields a proxy passes on (RFC 9110 section 7.6).
use Rattle.std.specs.Prelude.{ℕ, Bool, ◌&&◌, not, List, [], ◌∷◌, ◌++◌, filter, map, codes}
use Rattle.std.specs.List.{list_any}
use Rattle.auth_grammar.specs.Names.{same_name}
use Rattle.http_wire.specs.Fields.{Pairs, values_of}
use Rattle.http_wire.specs.Values.{has_token}
use Rattle.http_wire.specs.declared.pair.Pair.{Pair}
use Rattle.proxy_core.specs.declared.fields.Way.{Way}
use Rattle.proxy_core.specs.declared.fields.Way.TheVariants.{Up, Back}

-- the fields of one connection, of one message, and of this proxy's own authentication
abbrev pub own_names : List (List ℕ)
own_names =
    codes "host" ∷ codes "content-length" ∷ codes "expect" ∷ codes "connection" ∷ codes "proxy-connection"
    ∷ codes "keep-alive" ∷ codes "te" ∷ codes "upgrade" ∷ codes "proxy-authorization" ∷ []

-- Of a response those go too that tell how it was sent, and when.
abbrev pub names_kept : Way → List (List ℕ)
names_kept Up = own_names
names_kept Back = codes "transfer-encoding" ∷ codes "date" ∷ own_names

-- whether it is one of these names, whatever its case
abbrev pub is_among : List (List ℕ) → List ℕ → Bool
is_among names name = list_any (λ other. same_name name other) names

-- A field is passed on unless its name is one of those, or one that `Connection` lists.
abbrev pub is_passed : Way → Pairs → List ℕ → Bool
is_passed way fields name = not (is_among (names_kept way) name) && not (has_token (values_of fields (codes "connection")) name)

abbrev pub line_of : List ℕ × List ℕ → Pair
line_of field = record { name = field.0; value = field.1 }

-- the lines of the fields that are passed on
abbrev pub passed_lines : Way → Pairs → List Pair
passed_lines way fields = map line_of (filter (λ field. is_passed way fields field.0) fields)

-- what names this proxy (RFC 9110 section 7.6.3)
abbrev pub via_line : Pair
via_line = record { name = codes "via"; value = codes "1.1 authd" }

-- the lines of a request that goes up
abbrev pub lines_up : Pairs → List Pair
lines_up fields = passed_lines Up fields ++ via_line ∷ []
