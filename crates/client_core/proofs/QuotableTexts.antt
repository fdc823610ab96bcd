-- Texts that a quoted string can hold.
use Rattle.std.proofs.Common.{◌≡◌, ◌+◌, ◌*◌, ◌/◌, ◌%◌, ◌<◌, ◌≤◌, ◌∙◌, ◌&&◌, ◌||◌, ◌==◌, ℕ, suc, Bool, true, false, not, nat_le, nat_lt, IsTrue, List, [], ◌∷◌, ◌++◌, slice_index, length, refl, sym, ap, subst, arith, true≢false}
use Rattle.std.specs.Prelude.{IfOk, Result, Ok, Err}
use Rattle.std.proofs.lemmas.Bool.{agree_below_at}
use Rattle.std.proofs.lemmas.Bool.Decides.{nat_tests}
use Rattle.std.proofs.lemmas.List.Sums.{list_all-from_AllPass}
use Rattle.std.specs.List.{AllPass, list_all}
use Rattle.std.specs.Int.{w32, to_be_bytes}
use Rattle.base64.specs.GeneralPurpose.{IsBytes}
use Rattle.hex.specs.Hex.{encode_lower, encode_with, lower_digits}
use Rattle.auth_grammar.specs.Kinds.{is_escapable, is_mark_byte, is_plain_byte as is_plain_symbol, kind_of}
use Rattle.auth_grammar.specs.Plain.{is_plain_byte, is_plain_name, is_printable}
use Rattle.auth_grammar.specs.Valid.{is_quotable_text}
use Rattle.auth_hash.specs.HexText.{IsHexText, is_lower_digit}
use Rattle.digest_fields.specs.Nc.{nc_text}
use Rattle.scram_text.specs.Bytes.{base64_text, is_nonce_byte}
use Rattle.client_core.proofs.FirstMessages.{both, nonce_text}

-- ---- printable bytes

abbrev pub quotable : ℕ → Bool
quotable b = is_escapable (kind_of b)

abbrev or_quotable : ℕ → Bool
or_quotable b = not (is_printable b) || quotable b

other_of : (a b : Bool) → not a || b ≡ true → a ≡ true → b ≡ true
other_of true b e is = e
other_of false b e is = absurd (true≢false (sym is))

in_table : (b : ℕ) → b < 127 → or_quotable b ≡ true
unfolding kind_of is_plain_symbol is_mark_byte
in_table b below = agree_below_at or_quotable (λ _. true) 127 b refl below

pub printable_byte : (b : ℕ) → is_printable b ≡ true → quotable b ≡ true
printable_byte b e =
    let low : b < 127 = grind (arith, nat_tests) in
    other_of (is_printable b) (quotable b) (in_table b low) e

pub weaker : (p q : ℕ → Bool) → ((b : ℕ) → p b ≡ true → q b ≡ true) → (text : List ℕ) → list_all p text ≡ true → list_all q text ≡ true
weaker p q from [] e = refl
weaker p q from (b ∷ text) e =
    let two = both (p b) (list_all p text) e in
    rw (from b two.0, weaker p q from text two.1) refl

pub printable_text : (text : List ℕ) → list_all is_printable text ≡ true → is_quotable_text text ≡ true
printable_text text e = weaker is_printable quotable printable_byte text e

plain_byte : (b : ℕ) → is_plain_byte b ≡ true → quotable b ≡ true
plain_byte b e = printable_byte b (both (is_printable b) (not (b == 58)) e).0

pub name_quotable : (name : List ℕ) → is_plain_name name ≡ true → is_quotable_text name ≡ true
name_quotable name e =
    weaker is_plain_byte quotable plain_byte name (both (nat_le 1 (length name) && nat_le (length name) 64) (list_all is_plain_byte name) e).1

-- ---- base64

nonce_byte : (b : ℕ) → is_nonce_byte b ≡ true → quotable b ≡ true
nonce_byte b e = printable_byte b (grind (arith, nat_tests))

pub base64_quotable : (m : List ℕ) → IsBytes m → is_quotable_text (base64_text m) ≡ true
base64_quotable m bytes = weaker is_nonce_byte quotable nonce_byte (base64_text m) (nonce_text m bytes)

-- ---- hexadecimal digits

lower_digit : (b : ℕ) → is_lower_digit b ≡ true → quotable b ≡ true
lower_digit b e = printable_byte b (grind (arith, nat_tests))

pub hex_quotable : (text : List ℕ) → IsHexText text → is_quotable_text text ≡ true
hex_quotable text h = weaker is_lower_digit quotable lower_digit text (list_all-from_AllPass is_lower_digit text h.1)

digit_at : (place : ℕ) → place < 16 → quotable (slice_index lower_digits place) ≡ true
unfolding kind_of is_plain_symbol is_mark_byte
digit_at place below = agree_below_at (λ p. quotable (slice_index lower_digits p)) (λ _. true) 16 place refl below

encoded : (bytes : List ℕ) → list_all (λ b. nat_lt b 256) bytes ≡ true → is_quotable_text (encode_lower bytes) ≡ true
unfolding encode_with
encoded [] e = refl
encoded (b ∷ rest) e =
    let two = both (nat_lt b 256) (list_all (λ b. nat_lt b 256) rest) e in
    let low : b < 256 = grind (arith, nat_tests) in
    rw (digit_at (b / 16) (omega arith), digit_at (b % 16) (omega arith), encoded rest two.1) refl

four_bytes : (n : ℕ) → list_all (λ b. nat_lt b 256) (to_be_bytes w32 n) ≡ true
four_bytes n = grind (arith, nat_tests)

pub count_quotable : (count : ℕ) → is_quotable_text (nc_text count) ≡ true
count_quotable count = encoded (to_be_bytes w32 count) (four_bytes count)

-- ---- results

pub when_ok : {T E P : Type 0} (r : Result T E) → P → IfOk r (λ _. P)
when_ok (Ok x) p = p
when_ok (Err e) p = tt

pub ok_then : {T E : Type 0} (P Q : T → Type 0) (r : Result T E) → ((x : T) → P x → Q x) → IfOk r P → IfOk r Q
ok_then P Q (Ok x) f h = f x h
ok_then P Q (Err e) f h = tt
