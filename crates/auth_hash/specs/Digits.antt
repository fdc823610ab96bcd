-- How a hexadecimal text is kept.
use Rattle.std.specs.Prelude.{◌≡◌, ◌==◌, ℕ, List, length, if◌then◌else◌}
use Rattle.auth_hash.specs.declared.hex_text.Digits.{Digits}
use Rattle.auth_hash.specs.declared.hex_text.Digits.TheVariants.{Short, Long}

-- the text that is kept
abbrev pub digits_text : Digits → List ℕ
digits_text (Short text) = text
digits_text (Long text) = text

-- each form has a text of its own length
abbrev pub HasItsLength : Digits → Type 0
HasItsLength (Short text) = length text ≡ 32
HasItsLength (Long text) = length text ≡ 64

-- the form that keeps a text
abbrev pub digits_of : List ℕ → Digits
digits_of text = if length text == 32 then Short text else Long text
