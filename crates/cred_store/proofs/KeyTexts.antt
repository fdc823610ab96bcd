-- The text of keys tells the keys.
use Rattle.std.proofs.Common.{◌≡◌, ◌≢◌, ◌==◌, ◌<◌, ◌≤◌, ◌^◌, ℕ, zero, suc, true, false, List, [], ◌∷◌, ◌++◌, length, replicate, slice_index, decimal, refl, sym, ap, ◌∙◌, true≢false, arith, Result, Ok, Err, Option, Some, None, IfSome, IfNone, ◌+◌, ◌*◌, ◌/◌, ◌%◌, take, map}
use Rattle.std.specs.Char.{is_ascii_digit}
use Rattle.std.specs.List.{list_any, list_all}
use Rattle.std.specs.Str.Parse.{AllDigits, digits_value}
use Rattle.std.proofs.lemmas.Bool.Decides.{nat_tests}
use Rattle.std.proofs.lemmas.Fmt.{decimal_is_IsNumeral}
use Rattle.std.proofs.lemmas.Str.Parse.{digit_from_value}
use Rattle.base64.specs.Engines.{standard}
use Rattle.arrayvec.specs.ArrayVec.{ArrayVec}
use Rattle.base64.specs.GeneralPurpose.{IsBytes, IsConsistent, IsStrict, decode_of, encode_of}
use Rattle.base64.specs.Rfc4648.{encode_group, encode_symbols, padding_len}
use Rattle.base64.specs.declared.decode.DecodeError.{DecodeError}
use Rattle.base64.proofs.EngineFacts.{decode_of-encode_of, decode_of_strict}
use Rattle.base64.proofs.RoundTrip.{length-encode_symbols}
use Rattle.std.proofs.lemmas.List.{length-append, length-replicate, length-take-le}
use Rattle.scram_proof.specs.declared.keys.ScramKeys.{ScramKeys}
use Rattle.cred_store.specs.Kinds.{IsKeys}
use Rattle.cred_store.specs.Values.{HasKeyParts, HasNo, keys_text}
use Rattle.cred_store.proofs.Bytes.{cut_once, has_it, neither_first, neither_second, no_cons, no_in_both, passes_no}

-- ---- decimal digits

one_digit : (c : ℕ) → 48 ≤ c → c ≤ 57 → is_ascii_digit c ≡ true
one_digit c low high = grind (arith, nat_tests)

all_digits : (cs : List ℕ) → AllDigits 10 cs → list_all is_ascii_digit cs ≡ true
all_digits [] each = refl
all_digits (c ∷ cs) each = let range = digit_from_value c each.0 in rw (one_digit c range.0 range.1, all_digits cs each.1) refl

pub no_decimal : (n i : ℕ) → is_ascii_digit n ≡ false → i < 2 ^ 32 → HasNo n (decimal i)
no_decimal n i other below = passes_no is_ascii_digit n other (decimal i) (all_digits (decimal i) (decimal_is_IsNumeral i (omega arith)).0.1)

pub same_wide : (i j : ℕ) → i < 2 ^ 64 → j < 2 ^ 64 → decimal i ≡ decimal j → i ≡ j
same_wide i j p q same = sym (decimal_is_IsNumeral i p).1 ∙ ap (digits_value 10) same ∙ (decimal_is_IsNumeral j q).1

-- ---- base64

lacks : (n : ℕ) (t : List ℕ) → HasNo n t → 0 == n ≡ false → (i : ℕ) → slice_index t i == n ≡ false
lacks n [] none some i = some
lacks n (x ∷ t) none some zero = neither_first (x == n) _ none
lacks n (x ∷ t) none some (suc i) = lacks n t (neither_second (x == n) _ none) some i

module _ (n : ℕ) (t : List ℕ) (out : (i : ℕ) → slice_index t i == n ≡ false) where
  each : (places : List ℕ) → HasNo n (map (slice_index t) places)
  each [] = refl
  each (i ∷ places) = no_cons n (slice_index t i) (map (slice_index t) places) (out i) (each places)

  no_symbols : (m : List ℕ) → HasNo n (encode_symbols t m)
  unfolding encode_symbols
  no_symbols [] = refl
  no_symbols (a ∷ []) = each ((a / 4) ∷ (a % 4 * 16) ∷ [])
  no_symbols (a ∷ b ∷ []) = each ((a / 4) ∷ (a % 4 * 16 + b / 16) ∷ (b % 16 * 4) ∷ [])
  no_symbols (a ∷ b ∷ c ∷ rest) =
      no_in_both n (encode_group t a b c) (encode_symbols t rest) (each ((a / 4) ∷ (a % 4 * 16 + b / 16) ∷ (b % 16 * 4 + c / 64) ∷ (c % 64) ∷ [])) (no_symbols rest)

no_padding : (n k : ℕ) → 61 == n ≡ false → HasNo n (replicate k 61)
no_padding n zero other = refl
no_padding n (suc k) other = no_cons n 61 (replicate k 61) other (no_padding n k other)

pub no_base64 : (n : ℕ) → HasNo n standard.encode_table → 0 == n ≡ false → 61 == n ≡ false → (m : List ℕ) → HasNo n (encode_of standard m)
no_base64 n table some other m =
    let more = padding_len (length m) in
    no_in_both n (encode_symbols standard.encode_table m) (replicate more 61) (no_symbols n standard.encode_table (lacks n standard.encode_table table some) m)
    (no_padding n more other)

same_inside : {B E : Type 0} (f : B → Result (List ℕ) E) (x y : B) (u v : List ℕ) → f x ≡ Ok u → f y ≡ Ok v → x ≡ y → u ≡ v
same_inside f x y u v p q e = cc

consistent : IsConsistent standard
consistent = refl

strict : IsStrict standard
strict = (refl, refl)

pub same_bytes : (a b : List ℕ) → IsBytes a → IsBytes b → encode_of standard a ≡ encode_of standard b → a ≡ b
same_bytes a b p q same =
    same_inside (decode_of standard) (encode_of standard a) (encode_of standard b) a b
    (decode_of-encode_of standard a consistent p) (decode_of-encode_of standard b consistent q) same

-- 32 bytes have 44 bytes of base64
pub encoded_short : (text bytes : List ℕ) → length bytes ≤ 32 → encode_of standard bytes ≡ text → length text ≤ 44
encoded_short text bytes short same =
    omega (
      arith,
      ap length same,
      length-append (encode_symbols standard.encode_table bytes) (replicate (padding_len (length bytes)) 61),
      length-replicate {A = ℕ} (padding_len (length bytes)) 61,
      length-encode_symbols standard.encode_table bytes,
    )

-- what was decoded
pub found_some : (text new : List ℕ) (count : ℕ) (o : Option (ArrayVec ℕ)) → IsBytes text → decode_of standard text ≡ Ok (take count new) → IfSome o (λ v. v.items ≡ take count new) →
    IfSome o (λ v. encode_of standard v.items ≡ text)
found_some text new count None bytes ok some = some
found_some text new count (Some v) bytes ok some = ap (encode_of standard) some ∙ sym (decode_of_strict standard text (take count new) strict bytes ok)

pub no_error : (text bytes : List ℕ) (e : DecodeError) → IsBytes text → IsBytes bytes → decode_of standard text ≡ Err e → encode_of standard bytes ≢ text
no_error text bytes e fit are failed same =
    let ok : decode_of standard text ≡ Ok bytes = ap (decode_of standard) (sym same) ∙ decode_of-encode_of standard bytes consistent are in
    cc

pub found_none : (text new : List ℕ) (count : ℕ) (o : Option (ArrayVec ℕ)) → IsBytes text → count ≤ length new → decode_of standard text ≡ Ok (take count new) → IfNone o (32 < count) →
    IfNone o ((bytes : List ℕ) → IsBytes bytes → length bytes ≤ 32 → encode_of standard bytes ≢ text)
found_none text new count (Some v) fit inside ok none = none
found_none text new count None fit inside ok none = λ bytes are short same.
    let again : decode_of standard text ≡ Ok bytes = ap (decode_of standard) (sym same) ∙ decode_of-encode_of standard bytes consistent are in
    let one : take count new ≡ bytes = cc in
    omega (arith, ap length one, length-take-le count new inside)

-- ---- the text

commas : (i : ℕ) → i < 2 ^ 32 → HasNo 44 (decimal i)
commas i below = no_decimal 44 i refl below

pub keys_parts : (text : List ℕ) (keys : ScramKeys) → IsKeys keys → text ≡ keys_text keys →
    HasKeyParts text (decimal keys.i) (encode_of standard keys.salt.items) (encode_of standard keys.stored) (encode_of standard keys.server)
keys_parts text keys h is = record {
  parts = is;
  no_count = commas keys.i h.count_fits;
  no_salt = no_base64 44 refl refl refl keys.salt.items;
  no_stored = no_base64 44 refl refl refl keys.stored;
}

-- the first three commas tell the parts
pub key_parts_are : (text a b c d count salt stored server : List ℕ) → HasKeyParts text a b c d → HasKeyParts text count salt stored server →
    (a ≡ count) × (b ≡ salt) × (c ≡ stored) × (d ≡ server)
key_parts_are text a b c d count salt stored server h g =
    let one = cut_once 44 a _ count _ h.no_count g.no_count (sym h.parts ∙ g.parts) in
    let two = cut_once 44 b _ salt _ h.no_salt g.no_salt one.1 in
    let three = cut_once 44 c d stored server h.no_stored g.no_stored two.1 in
    (one.0, two.0, three.0, three.1)

-- a byte that is neither a digit, nor a comma, nor of base64
pub no_keys : (n : ℕ) → is_ascii_digit n ≡ false → 44 == n ≡ false → HasNo n standard.encode_table → 0 == n ≡ false → 61 == n ≡ false →
    (keys : ScramKeys) → IsKeys keys → HasNo n (keys_text keys)
no_keys n digit comma table some padding keys h =
    let salt = encode_of standard keys.salt.items in
    let stored = encode_of standard keys.stored in
    let server = encode_of standard keys.server in
    no_in_both n (decimal keys.i) (44 ∷ (salt ++ 44 ∷ (stored ++ 44 ∷ server))) (no_decimal n keys.i digit h.count_fits)
    (no_cons n 44 (salt ++ 44 ∷ (stored ++ 44 ∷ server)) comma
    (no_in_both n salt (44 ∷ (stored ++ 44 ∷ server)) (no_base64 n table some padding keys.salt.items)
    (no_cons n 44 (stored ++ 44 ∷ server) comma
    (no_in_both n stored (44 ∷ server) (no_base64 n table some padding keys.stored)
    (no_cons n 44 server comma (no_base64 n table some padding keys.server))))))

same_keys : (k l : ScramKeys) → k.salt ≡ l.salt → k.i ≡ l.i → k.stored ≡ l.stored → k.server ≡ l.server → k ≡ l
same_keys k l p q r s = λ x. record { salt = p x; i = q x; stored = r x; server = s x }

pub one_keys : (k l : ScramKeys) → IsKeys k → IsKeys l → keys_text k ≡ keys_text l → k ≡ l
one_keys k l h g same =
    let are = key_parts_are (keys_text k) _ _ _ _ _ _ _ _ (keys_parts (keys_text k) k h refl) (keys_parts (keys_text k) l g same) in
    same_keys k l
    (λ x. record { items = same_bytes k.salt.items l.salt.items h.salt_bytes g.salt_bytes are.1 x })
    (same_wide k.i l.i (omega (arith, h.count_fits)) (omega (arith, g.count_fits)) are.0)
    (same_bytes k.stored l.stored h.stored.bytes g.stored.bytes are.2)
    (same_bytes k.server l.server h.server.bytes g.server.bytes are.3)

-- ---- what the readers answer

pub not_two : (text count rest : List ℕ) → text ≡ count ++ 44 ∷ rest → HasNo 44 count → HasNo 44 rest → (a b c d : List ℕ) → HasKeyParts text a b c d → ⊥
not_two text count rest cut none alone a b c d h =
    let one = cut_once 44 count rest a _ none h.no_count (sym cut ∙ h.parts) in
    true≢false (sym (has_it 44 b _) ∙ ap (list_any (λ x. x == 44)) (sym one.1) ∙ alone)

pub not_three : (text count salt more rest : List ℕ) → text ≡ count ++ 44 ∷ more → HasNo 44 count → more ≡ salt ++ 44 ∷ rest → HasNo 44 salt → HasNo 44 rest →
    (a b c d : List ℕ) → HasKeyParts text a b c d → ⊥
not_three text count salt more rest cut none again other alone a b c d h =
    let one = cut_once 44 count more a _ none h.no_count (sym cut ∙ h.parts) in
    let two = cut_once 44 salt rest b _ other h.no_salt (sym again ∙ one.1) in
    true≢false (sym (has_it 44 c d) ∙ ap (list_any (λ x. x == 44)) (sym two.1) ∙ alone)

pub some_length : (n : ℕ) → n == 0 ≡ true → 1 ≤ n → ⊥
some_length zero e some = omega arith
some_length (suc n) e some = true≢false (sym e ∙ not_zero)
  where
    not_zero : (suc n == 0) ≡ false
    not_zero = grind (arith, nat_tests)
