-- The nonce of a reauthentication (RFC 7804 section 5.1): a client's part, a count, and what the server gave as sr.
use Rattle.std.specs.Prelude.{◌≡◌, ◌≤◌, ◌<◌, ◌^◌, ℕ, true, false, List, [], ◌∷◌, ◌++◌, length, decimal}
use Rattle.std.specs.Char.{is_ascii_digit}
use Rattle.std.specs.List.{list_all}
use Rattle.scram_text.specs.Bytes.{is_nonce_byte, is_symbol, some_of}
use Rattle.scram_text.specs.declared.reauth.TheConstants.{SR_LENGTH}

-- the last byte, if there is one, is no digit
abbrev pub EndsPlain : List ℕ → Type 0
EndsPlain text = (front : List ℕ) (last : ℕ) → text ≡ front ++ last ∷ [] → is_ascii_digit last ≡ false

-- the last byte is a digit, behind this front
pub record EndsDigit (text front : List ℕ) : Type 0 where
  pub last : ℕ
  pub cut : text ≡ front ++ last ∷ []
  pub digit : is_ascii_digit last ≡ true

-- the client's part, the count in decimal digits, and the sr
abbrev pub reauth_text : List ℕ → ℕ → List ℕ → List ℕ
reauth_text client count sr = client ++ (decimal count ++ sr)

-- the text is such a nonce
pub record IsReauth (text client : List ℕ) (count : ℕ) (sr : List ℕ) : Type 0 where
  pub cut : text ≡ reauth_text client count sr
  pub is_nonce : some_of is_nonce_byte client ≡ true
  pub plain : EndsPlain client
  pub some : 1 ≤ count
  pub fits : count < 2 ^ 32
  pub long : length sr ≡ SR_LENGTH
  pub symbols : list_all is_symbol sr ≡ true
