-- The lines that replies and requests are written with.
use Rattle.std.specs.Prelude.{ℕ, Bool, List, [], ◌∷◌, ◌++◌, if◌then◌else◌, codes, decimal}
use Rattle.http_wire.specs.declared.pair.Pair.{Pair}

-- the end of a line
abbrev pub crlf : List ℕ
crlf = 13 ∷ 10 ∷ []

-- `name: value`
abbrev pub pair_line : Pair → List ℕ
pair_line p = p.name ++ codes ": " ++ p.value ++ crlf

-- how many bytes the body has (RFC 9110 section 8.6)
unfoldable pub length_line : ℕ → List ℕ
length_line count = codes "Content-Length: " ++ decimal count ++ crlf

-- told where the connection closes (RFC 9112 section 9.6)
unfoldable pub close_line : Bool → List ℕ
close_line close = if close then codes "Connection: close\r\n" else []
