-- Digests as text (RFC 7616 section 3.4: LHEX).
use Rattle.std.specs.Prelude.{◌==◌, ◌&&◌, ◌||◌, ℕ, Bool, IsTrue, List, length, nat_le}
use Rattle.std.specs.List.{AllPass}

-- the byte is one of `0` to `9` and `a` to `f`
abbrev pub is_lower_digit : ℕ → Bool
is_lower_digit b = (nat_le 48 b && nat_le b 57) || (nat_le 97 b && nat_le b 102)

-- the text is 32 or 64 lower-case hexadecimal digits
abbrev pub IsHexText : List ℕ → Type 0
IsHexText text = IsTrue ((length text == 32) || (length text == 64)) × AllPass is_lower_digit text
