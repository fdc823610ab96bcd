-- The head of a response, read from its text (RFC 9112 section 4).
use Rattle.std.specs.Prelude.{ℕ, Bool, ◌&&◌, List, [], ◌∷◌, length, take, drop, if◌then◌else◌, ◌==◌, Option, Some, None}
use Rattle.std.specs.List.{list_all}
use Rattle.std.specs.Char.{is_ascii_digit}
use Rattle.httparse.specs.Grammar.{is_value_byte, LineEnd, ResponseHead}
use Rattle.http_wire.specs.Lines.{Line, lines_of, cut_at, ◌>>=◌}
use Rattle.http_wire.specs.Values.{is_empty}
use Rattle.http_wire.specs.HeadLines.{minor_of, section_of}

-- VERSION SP 3DIGIT [ SP REASON ]
pub record StatusLine : Type 0 where
  pub minor : ℕ
  pub digits : List ℕ
  pub reason : Option (List ℕ)

abbrev pub is_code : List ℕ → Bool
is_code digits = length digits == 3 && list_all is_ascii_digit digits

abbrev pub reason_of : List ℕ → Option (Option (List ℕ))
reason_of [] = Some None
reason_of (b ∷ phrase) = if b == 32 && list_all is_value_byte phrase then Some (Some phrase) else None

abbrev pub status_line_of : List ℕ → Option StatusLine
status_line_of line =
    cut_at 32 line >>= λ first. minor_of first.0 >>= λ minor. reason_of (drop 3 first.1) >>= λ reason.
    if is_code (take 3 first.1) then Some (record { minor = minor; digits = take 3 first.1; reason = reason }) else None

-- a head, behind the ends of the empty lines before it
abbrev pub head_behind : List LineEnd → List Line → Option ResponseHead
head_behind blank [] = None
head_behind blank (line ∷ lines) = status_line_of line.0 >>= λ start. section_of lines >>= λ section.
    Some (record {
      blank = blank;
      minor = start.minor;
      digits = start.digits;
      reason = start.reason;
      line_end = line.1;
      fields = section.0;
      last = section.1;
    })

-- one empty line may stand before the head
abbrev pub response_head_of : List Line → Option ResponseHead
response_head_of [] = None
response_head_of (line ∷ lines) = if is_empty line.0 then head_behind (line.1 ∷ []) lines else head_behind [] (line ∷ lines)

-- the head that the text is, if it is one
unfoldable pub read_response_head : List ℕ → Option ResponseHead
read_response_head text = lines_of text >>= response_head_of
