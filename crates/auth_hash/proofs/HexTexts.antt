-- The hexadecimal text of bytes has lower-case digits alone.
use Rattle.std.proofs.Common.{◌≡◌, ℕ, ◌/◌, ◌%◌, ◌<◌, true, List, [], ◌∷◌, length, slice_index, suc, refl, arith}
use Rattle.std.proofs.lemmas.List.Elements.{All-nil, All-cons}
use Rattle.std.proofs.lemmas.List.Sums.{AllPass-from_list_all}
use Rattle.std.specs.List.{AllPass}
use Rattle.hex.specs.Hex.{IsBytes, encode_lower, encode_with, lower_digits}
use Rattle.hex.proofs.HexLemmas.{length-encode_with}
use Rattle.auth_hash.specs.HexText.{IsHexText, is_lower_digit}

-- each place of the table is a digit
digit_at : (place : ℕ) → place < 16 → is_lower_digit (slice_index lower_digits place) ≡ true
digit_at place below = AllPass-from_list_all is_lower_digit lower_digits refl place 0 below

-- the text of bytes has digits alone
AllPass-encode_lower : (bytes : List ℕ) → IsBytes bytes → AllPass is_lower_digit (encode_lower bytes)
unfolding encode_with
AllPass-encode_lower [] fits = All-nil (λ b. is_lower_digit b ≡ true)
AllPass-encode_lower (b ∷ rest) fits =
    let byte : b < 256 = fits 0 in
    let P : ℕ → Type 0 = λ x. is_lower_digit x ≡ true in
    All-cons P (slice_index lower_digits (b / 16)) (slice_index lower_digits (b % 16) ∷ encode_lower rest) (digit_at (b / 16) (omega arith))
    (All-cons P (slice_index lower_digits (b % 16)) (encode_lower rest) (digit_at (b % 16) (omega arith)) (AllPass-encode_lower rest (λ k. fits (suc k))))

-- 16 bytes make a text of 32 digits
pub short_text : (text bytes : List ℕ) → text ≡ encode_lower bytes → length bytes ≡ 16 → IsBytes bytes → (length text ≡ 32) × IsHexText text
short_text text bytes e len fits =
    let len32 : length text ≡ 32 = rw e (omega (arith, length-encode_with lower_digits bytes)) in
    (len32, (rw len32 refl, rw e (AllPass-encode_lower bytes fits)))

-- 32 bytes make a text of 64 digits
pub long_text : (text bytes : List ℕ) → text ≡ encode_lower bytes → length bytes ≡ 32 → IsBytes bytes → (length text ≡ 64) × IsHexText text
long_text text bytes e len fits =
    let len64 : length text ≡ 64 = rw e (omega (arith, length-encode_with lower_digits bytes)) in
    (len64, (rw len64 refl, rw e (AllPass-encode_lower bytes fits)))
