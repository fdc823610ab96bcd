-- The lines of a head (RFC 9112 sections 2.3 and 5).
use Rattle.std.specs.Prelude.{ℕ, ◌&&◌, List, [], ◌∷◌, if◌then◌else◌, bytes_eq, Option, Some, None}
use Rattle.std.specs.List.{list_all}
use Rattle.httparse.specs.Grammar.{is_token, is_value_byte, LineEnd, Field, print_version}
use Rattle.http_wire.specs.Lines.{Line, cut_at, ◌>>=◌}
use Rattle.http_wire.specs.Values.{is_empty}

-- HTTP/1.0 or HTTP/1.1
abbrev pub minor_of : List ℕ → Option ℕ
minor_of text = if bytes_eq text (print_version 0) then Some 0 else if bytes_eq text (print_version 1) then Some 1 else None

-- NAME ":" VALUE
abbrev pub field_of : Line → Option Field
field_of line = cut_at 58 line.0 >>= λ parts.
    if is_token parts.0 && list_all is_value_byte parts.1 then Some (record { name = parts.0; raw = parts.1; end = line.1 }) else None

-- field lines and an empty line
abbrev pub section_of : List Line → Option (List Field × LineEnd)
section_of [] = None
section_of (line ∷ []) = if is_empty line.0 then Some ([], line.1) else None
section_of (line ∷ next ∷ lines) = field_of line >>= λ field. section_of (next ∷ lines) >>= λ section. Some (field ∷ section.0, section.1)
