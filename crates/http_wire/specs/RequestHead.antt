-- The head of a request, read from its text (RFC 9112 section 3).
use Rattle.std.specs.Prelude.{ℕ, Bool, ◌&&◌, List, [], ◌∷◌, length, if◌then◌else◌, nat_lt, Option, Some, None}
use Rattle.std.specs.List.{list_all}
use Rattle.std.specs.Str.{is_utf8}
use Rattle.httparse.specs.Grammar.{is_token, is_uri_byte, RequestHead}
use Rattle.http_wire.specs.Lines.{Line, lines_of, cut_at, ◌>>=◌}
use Rattle.http_wire.specs.HeadLines.{minor_of, section_of}

-- METHOD SP TARGET SP VERSION
pub record Start : Type 0 where
  pub method : List ℕ
  pub target : List ℕ
  pub minor : ℕ

abbrev pub is_target : List ℕ → Bool
is_target bytes = (nat_lt 0 (length bytes) && list_all is_uri_byte bytes) && is_utf8 bytes

abbrev pub start_of : List ℕ → Option Start
start_of line =
    cut_at 32 line >>= λ first. cut_at 32 first.1 >>= λ second. minor_of second.1 >>= λ minor.
    if is_token first.0 && is_target second.0 then Some (record { method = first.0; target = second.0; minor = minor }) else None

abbrev pub head_of : List Line → Option RequestHead
head_of [] = None
head_of (line ∷ lines) = start_of line.0 >>= λ start. section_of lines >>= λ section.
    Some (record {
      blank = [];
      method = start.method;
      target = start.target;
      minor = start.minor;
      line_end = line.1;
      fields = section.0;
      last = section.1;
    })

-- the head that the text is, if it is one
unfoldable pub read_head : List ℕ → Option RequestHead
read_head text = lines_of text >>= head_of
