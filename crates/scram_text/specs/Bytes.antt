-- The bytes of names, nonces and values (RFC 5802 section 7).
use Rattle.std.specs.Prelude.{◌≡◌, ◌≤◌, ◌<◌, ◌^◌, ℕ, Bool, ◌==◌, ◌&&◌, ◌||◌, not, nat_le, List, [], ◌∷◌, length, Option, false, if◌then◌else◌}
use Rattle.std.specs.Char.{is_ascii_digit}
use Rattle.std.specs.List.{flat_map, list_all, list_any}
use Rattle.std.specs.Result.{result_ok}
use Rattle.base64.specs.Engines.{standard}
use Rattle.base64.specs.GeneralPurpose.{IsBytes, decode_of, encode_of}

-- one byte or more, all of which pass the test
abbrev pub some_of : (ℕ → Bool) → List ℕ → Bool
some_of test [] = false
some_of test (b ∷ more) = test b && list_all test more

-- no comma stands in it
abbrev pub HasNoComma : List ℕ → Type 0
HasNoComma text = list_any (λ b. b == 44) text ≡ false

-- printable, neither a space nor a comma
abbrev pub is_nonce_byte : ℕ → Bool
is_nonce_byte b = (nat_le 33 b && nat_le b 126) && not (b == 44)

-- neither NUL nor a comma
abbrev pub is_value_byte : ℕ → Bool
is_value_byte b = not (b == 0) && not (b == 44)

abbrev pub is_letter : ℕ → Bool
is_letter b = (nat_le 65 b && nat_le b 90) || (nat_le 97 b && nat_le b 122)

-- a byte of a name as it is written: a comma as =2C, an equals sign as =3D
abbrev pub escape : ℕ → List ℕ
escape b = if b == 44 then 61 ∷ 50 ∷ 67 ∷ [] else (if b == 61 then 61 ∷ 51 ∷ 68 ∷ [] else b ∷ [])

abbrev pub escaped : List ℕ → List ℕ
escaped name = flat_map escape name

-- a base64 character other than the padding
abbrev pub is_symbol : ℕ → Bool
is_symbol b = is_letter b || is_ascii_digit b || (b == 43) || (b == 47)

-- base64 with padding (RFC 4648 section 4)
abbrev pub base64_text : List ℕ → List ℕ
base64_text bytes = encode_of standard bytes

-- the bytes that the base64 writes, with its padding and no bits left over
abbrev pub base64_bytes : List ℕ → Option (List ℕ)
base64_bytes text = result_ok (decode_of standard text)

-- a salt has a byte
pub record IsSalt (salt : List ℕ) : Type 0 where
  pub some : 1 ≤ length salt
  pub bytes : IsBytes salt

-- what SHA-256 gives has 32 bytes
pub record IsDigest (digest : List ℕ) : Type 0 where
  pub long : length digest ≡ 32
  pub bytes : IsBytes digest

-- an iteration count
pub record IsCount (i : ℕ) : Type 0 where
  pub some : 1 ≤ i
  pub fits : i < 2 ^ 32
