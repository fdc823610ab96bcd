-- The lines of a text.
use Rattle.std.specs.Prelude.{ℕ, List, [], ◌∷◌, if◌then◌else◌, ◌==◌, Option, Some, None, count_by}
use Rattle.std.specs.Option.{option_map}
use Rattle.httparse.specs.Grammar.{LineEnd, crlf, lf}

-- steps of a reading that may fail
infixl 10 ◌>>=◌
abbrev pub ◌>>=◌ : {A B : Type 0} → Option A → (A → Option B) → Option B
None >>= f = None
(Some x) >>= f = f x

-- a line and how it ends
abbrev pub Line : Type 0
Line = List ℕ × LineEnd

-- a byte before a line that ends in LF: a CR is part of the end
abbrev pub with_byte : ℕ → Line → Line
with_byte b ([], lf) = if b == 13 then ([], crlf) else (b ∷ [], lf)
with_byte b ([], crlf) = (b ∷ [], crlf)
with_byte b (c ∷ bytes, end) = (b ∷ c ∷ bytes, end)

abbrev pub before_lines : ℕ → List Line → Option (List Line)
before_lines b [] = None
before_lines b (line ∷ lines) = Some (with_byte b line ∷ lines)

-- the lines of a text that ends with a line's end
abbrev pub lines_of : List ℕ → Option (List Line)
lines_of [] = Some []
lines_of (b ∷ bytes) = lines_of bytes >>= λ lines. if b == 10 then Some (([], lf) ∷ lines) else before_lines b lines

-- the bytes before the first that is stop, and those after it
abbrev pub with_front : ℕ → List ℕ × List ℕ → List ℕ × List ℕ
with_front b parts = (b ∷ parts.0, parts.1)

abbrev pub cut_at : ℕ → List ℕ → Option (List ℕ × List ℕ)
cut_at stop [] = None
cut_at stop (b ∷ bytes) = if b == stop then Some ([], bytes) else option_map (with_front b) (cut_at stop bytes)

-- how many line feeds there are
abbrev pub line_feeds : List ℕ → ℕ
line_feeds bytes = count_by (λ b. b == 10) bytes
