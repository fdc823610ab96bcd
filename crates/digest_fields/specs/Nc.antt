-- The count of a nonce's uses (RFC 7616 section 3.4).
use Rattle.std.specs.Prelude.{ℕ, List, length, Result, Ok, Err, IsTrue, Bool, not, ◌==◌, ◌&&◌, if◌then◌else◌}
use Rattle.std.specs.Int.{w32, to_be_bytes}
use Rattle.std.specs.List.{list_all}
use Rattle.std.specs.Char.{is_digit}
use Rattle.std.specs.Str.Parse.{digits_value}
use Rattle.hex.specs.Hex.{encode_lower}
use Rattle.auth_grammar.specs.declared.items.Param.{Param}
use Rattle.digest_fields.specs.declared.field.FieldName.TheVariants as field
use Rattle.digest_fields.specs.declared.field.FieldError.{FieldError}
use Rattle.digest_fields.specs.declared.field.FieldError.TheVariants.{BadValue, NcZero}
use Rattle.digest_fields.specs.Field.{required, ◌>>=◌}

-- the count that digits write
unfoldable pub nc_number : List ℕ → ℕ
nc_number text = digits_value 16 text

-- whether a byte is a hexadecimal digit, in either case
unfoldable pub is_hex_digit : ℕ → Bool
is_hex_digit byte = is_digit byte 16

-- whether a text is eight hexadecimal digits
abbrev pub is_nc_text : List ℕ → Bool
is_nc_text text = length text == 8 && list_all is_hex_digit text

-- a text of eight digits that don't write 0
unfoldable pub nc_from : List ℕ → Result (List ℕ) FieldError
nc_from text =
    if not (is_nc_text text) then Err (BadValue field.Nc)
    else if nc_number text == 0 then Err NcZero
    else Ok text

-- the text is a count
abbrev pub IsNc : List ℕ → Type 0
IsNc text = IsTrue (is_nc_text text && not (nc_number text == 0))

-- the eight digits of a count in lower case
abbrev pub nc_text : ℕ → List ℕ
nc_text count = encode_lower (to_be_bytes w32 count)

-- the count that the parameters say
unfoldable pub nc_of : List Param → Result (List ℕ) FieldError
nc_of params = do
  text ← required field.Nc params
  nc_from text
