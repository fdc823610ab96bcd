-- The line before a chunk (RFC 9112 section 7.1): 1 to 16 hexadecimal digits, white space, an extension behind a semicolon, CR LF.
use Rattle.std.specs.Prelude.{◌≡◌, ℕ, ◌+◌, ◌≤◌, List, [], ◌∷◌, ◌++◌, length, drop, take_while, if◌then◌else◌, ◌==◌, nat_lt}
use Rattle.std.specs.Char.{is_ascii_hexdigit}
use Rattle.std.specs.Str.Parse.{digits_value}
use Rattle.httparse.specs.Grammar.{is_ows, is_extension_byte}
use Rattle.http_wire.specs.declared.chunk_line.LinePart.{LinePart}
use Rattle.http_wire.specs.declared.chunk_line.LinePart.TheVariants.{Digits, Pad, Extension, End}
use Rattle.http_wire.specs.declared.chunk_line.LineStep.{LineStep}
use Rattle.http_wire.specs.declared.chunk_line.LineStep.TheVariants.{On, Done, Never}
use Rattle.http_wire.specs.declared.chunk_line.LineSearch.{LineSearch}
use Rattle.http_wire.specs.declared.chunk_line.LineSearch.TheVariants.{Found, Going, Refused}

-- what a byte does to the line
abbrev pub behind_size : ℕ → LineStep
behind_size b = if b == 13 then On End else if b == 59 then On Extension else if is_ows b then On Pad else Never

abbrev pub line_step : LinePart → ℕ → LineStep
line_step (Digits count) b =
    if is_ascii_hexdigit b then (if nat_lt count 16 then On (Digits (count + 1)) else Never)
    else if count == 0 then Never else behind_size b
line_step Pad b = behind_size b
line_step Extension b = if b == 13 then On End else if is_extension_byte b then On Extension else Never
line_step End b = if b == 10 then Done else Never

-- a line of that many bytes; or what may become one; or what never does
pub data LineFront : Type 0 where
  Line : ℕ → LineFront
  Unsure : LineFront
  NoLine : LineFront

abbrev pub behind : ℕ → LineFront → LineFront
behind n (Line count) = Line (n + count)
behind n Unsure = Unsure
behind n NoLine = NoLine

abbrev pub after_step : LineStep → (LinePart → LineFront) → LineFront
after_step (On part) rest = behind 1 (rest part)
after_step Done rest = Line 1
after_step Never rest = NoLine

-- the line from a part on
abbrev pub line_from : List ℕ → LinePart → LineFront
line_from [] part = Unsure
line_from (b ∷ bytes) part = after_step (line_step part b) (λ next. line_from bytes next)

-- the line at the front
unfoldable pub chunk_line : List ℕ → LineFront
chunk_line bytes = line_from bytes (Digits 0)

-- the size that a line tells
abbrev pub size_of : List ℕ → ℕ
size_of line = digits_value 16 (take_while is_ascii_hexdigit line)

-- ---- what a reading of the line knows

-- whatever follows, the reading may go on from there
pub record GoesOnLine (bytes : List ℕ) (from : ℕ) (part : LinePart) : Type 0 where
  pub within : from ≤ length bytes
  pub goes_on : (more : List ℕ) → chunk_line (bytes ++ more) ≡ behind from (line_from (drop from (bytes ++ more)) part)

abbrev pub FindsLine : List ℕ → LineSearch → Type 0
FindsLine bytes (Found count) = (chunk_line bytes ≡ Line count) × (count ≤ length bytes)
FindsLine bytes (Going from part) = (chunk_line bytes ≡ Unsure) × GoesOnLine bytes from part
FindsLine bytes Refused = chunk_line bytes ≡ NoLine
