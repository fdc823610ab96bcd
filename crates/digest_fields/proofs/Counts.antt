-- Counts in hexadecimal digits.
use Rattle.std.proofs.Common.{◌≡◌, ℕ, zero, suc, ◌+◌, ◌*◌, ◌/◌, ◌%◌, ◌^◌, ◌<◌, ◌≤◌, true, IsTrue, ◌==◌, List, [], ◌∷◌, length, take, get_or, slice_index, refl, ◌∙◌, ap, arith}
use Rattle.std.proofs.lemmas.Bool.{and_parts, and_from, agree_below_at, eqb-true, eq-eqb, ltb-true, ne_eqb, not_from_false}
use Rattle.std.proofs.lemmas.List.Sums.{AllPass-from_list_all}
use Rattle.std.proofs.lemmas.Int.Digits.{digits_value-lt, digits_value_more}
use Rattle.std.proofs.lemmas.Str.Parse.{digits_value-take-le}
use Rattle.std.specs.Char.{digit_value}
use Rattle.std.specs.List.{list_all}
use Rattle.std.specs.Str.Parse.{AllDigits, digits_value, digits_value_after}
use Rattle.hex.specs.Hex.{IsBytes, encode_lower, encode_with, lower_digits}
use Rattle.hex.proofs.HexLemmas.{length-encode_with}
use Rattle.std.specs.Int.{w32, to_be_bytes}
use Rattle.digest_fields.specs.Nc.{IsNc, is_hex_digit, is_nc_text, nc_number, nc_text}

-- the test of each digit, as a fact
AllDigits-from_test : (text : List ℕ) → list_all is_hex_digit text ≡ true → AllDigits 16 text
unfolding is_hex_digit
AllDigits-from_test [] test = tt
AllDigits-from_test (digit ∷ rest) test =
    let parts = and_parts (is_hex_digit digit) (list_all is_hex_digit rest) test in
    (ltb-true (digit_value digit) 16 parts.0, AllDigits-from_test rest parts.1)

-- each place of a count is a digit
pub is_hex_digit-place : (text : List ℕ) (at : ℕ) → IsTrue (is_nc_text text) → at < length text → is_hex_digit (get_or text at 0) ≡ true
is_hex_digit-place text at form below =
    AllPass-from_list_all is_hex_digit text (and_parts (length text == 8) (list_all is_hex_digit text) form).1 at 0 below

-- the number grows by a digit
pub nc_number-more : (text : List ℕ) (at : ℕ) → at < length text
    → nc_number (take (at + 1) text) ≡ nc_number (take at text) * 16 + digit_value (get_or text at 0)
unfolding nc_number
nc_number-more text at below = digits_value_more 16 text at below

-- the number of the first digits fits
pub nc_number-fits : (text : List ℕ) (at : ℕ) → IsTrue (is_nc_text text) → nc_number (take at text) < 2 ^ 32
unfolding nc_number
nc_number-fits text at form =
    let parts = and_parts (length text == 8) (list_all is_hex_digit text) form in
    let eight : length text ≡ 8 = eqb-true (length text) 8 parts.0 in
    let whole : digits_value 16 text < 16 ^ length text = digits_value-lt 16 text (AllDigits-from_test text parts.1) in
    let whole_fits : digits_value 16 text < 2 ^ 32 = rw eight at whole in
    let first : digits_value 16 (take at text) ≤ digits_value 16 text = digits_value-take-le 16 text at (omega arith) in
    omega arith

-- a place of the table is a digit of its value
digit_at : (place : ℕ) → place < 16 → digit_value (slice_index lower_digits place) ≡ place
digit_at place below =
    eqb-true _ _ (agree_below_at (λ p. digit_value (slice_index lower_digits p) == p) (λ _. true) 16 place refl below)

-- two digits write one byte more
two_digits : (before high low x y : ℕ) (rest : List ℕ) → digit_value high ≡ x → digit_value low ≡ y
    → digits_value_after 16 before (high ∷ low ∷ rest) ≡ digits_value_after 16 ((before * 16 + x) * 16 + y) rest
two_digits before high low x y rest ex ey =
    ap (λ (v : ℕ). digits_value_after 16 ((before * 16 + v) * 16 + digit_value low) rest) ex
    ∙ ap (λ (v : ℕ). digits_value_after 16 ((before * 16 + x) * 16 + v) rest) ey

-- a byte's digits write the byte
digits_value-byte : (before byte : ℕ) (rest : List ℕ) → byte < 256
    → digits_value_after 16 before (encode_lower (byte ∷ rest)) ≡ digits_value_after 16 (before * 256 + byte) (encode_lower rest)
unfolding encode_with
digits_value-byte before byte rest fits =
    let same : (before * 16 + byte / 16) * 16 + byte % 16 ≡ before * 256 + byte = omega arith in
    two_digits before (slice_index lower_digits (byte / 16)) (slice_index lower_digits (byte % 16)) (byte / 16) (byte % 16) (encode_lower rest) (digit_at (byte / 16) (omega arith)) (digit_at (byte % 16) (omega arith))
    ∙ ap (λ (n : ℕ). digits_value_after 16 n (encode_lower rest)) same

-- the digits of no byte leave the number
digits_value-none : (before : ℕ) → digits_value_after 16 before (encode_lower []) ≡ before
unfolding encode_with
digits_value-none before = refl

-- the text of a count writes the count
pub nc_number-nc_text : (count : ℕ) → count < 2 ^ 32 → nc_number (nc_text count) ≡ count
unfolding nc_number
nc_number-nc_text count fits =
    digits_value-byte _ (count / 16777216 % 256) _ (omega arith) ∙ digits_value-byte _ (count / 65536 % 256) _ (omega arith)
    ∙ digits_value-byte _ (count / 256 % 256) _ (omega arith) ∙ digits_value-byte _ (count % 256) _ (omega arith)
    ∙ digits_value-none _ ∙ omega arith

-- the test of a digit, at each place of the table
is_hex_digit-at : (place : ℕ) → place < 16 → is_hex_digit (slice_index lower_digits place) ≡ true
unfolding is_hex_digit
is_hex_digit-at place below = agree_below_at (λ p. is_hex_digit (slice_index lower_digits p)) (λ _. true) 16 place refl below

-- the text of bytes has digits alone
list_all-encode_lower : (bytes : List ℕ) → IsBytes bytes → list_all is_hex_digit (encode_lower bytes) ≡ true
unfolding encode_with
list_all-encode_lower [] fits = refl
list_all-encode_lower (byte ∷ rest) fits =
    let small : byte < 256 = fits 0 in
    and_from _ _ (is_hex_digit-at (byte / 16) (omega arith))
    (and_from _ _ (is_hex_digit-at (byte % 16) (omega arith)) (list_all-encode_lower rest (λ k. fits (suc k))))

-- the four bytes of a count are bytes
IsBytes-to_be_bytes : (count : ℕ) → IsBytes (to_be_bytes w32 count)
IsBytes-to_be_bytes count zero = omega arith
IsBytes-to_be_bytes count (suc zero) = omega arith
IsBytes-to_be_bytes count (suc (suc zero)) = omega arith
IsBytes-to_be_bytes count (suc (suc (suc zero))) = omega arith
IsBytes-to_be_bytes count (suc (suc (suc (suc k)))) = omega arith

-- the text of a count is one
pub IsNc-nc_text : (count : ℕ) → 1 ≤ count → count < 2 ^ 32 → IsNc (nc_text count)
IsNc-nc_text count some fits =
    let eight : length (nc_text count) ≡ 8 = length-encode_with lower_digits (to_be_bytes w32 count) in
    let number = nc_number-nc_text count fits in
    and_from _ _ (and_from _ _ (eq-eqb _ _ eight) (list_all-encode_lower (to_be_bytes w32 count) (IsBytes-to_be_bytes count)))
    (not_from_false _ (ne_eqb _ _ (λ none. omega (arith, number, none))))
