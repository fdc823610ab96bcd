-- The groups of base64 texts, and the bytes that they write.
use Rattle.std.proofs.Common.{◌≡◌, ℕ, zero, suc, ◌+◌, ◌*◌, ◌/◌, ◌%◌, ◌<◌, ◌≤◌, ◌==◌, ◌&&◌, ◌||◌, not, nat_lt, Bool, true, false, List, [], ◌∷◌, ◌++◌, length, slice_index, refl, sym, ◌∙◌, ap, arith, Result, Ok, Some, length-append, replicate}
use Rattle.std.proofs.lemmas.Bool.Decides.{Decides-eqb, nat_tests}
use Rattle.std.proofs.lemmas.Bool.{ltb-true}
use Rattle.std.proofs.lemmas.List.{length-replicate}
use Rattle.std.proofs.lemmas.Option.{same_Some}
use Rattle.std.specs.Result.{result_ok}
use Rattle.base64.specs.Engines.{standard}
use Rattle.base64.specs.GeneralPurpose.{IsBytes, decode_of}
use Rattle.base64.specs.Rfc4648.{encode, encode_symbols, padding_len, unpadded_len}
use Rattle.base64.proofs.EngineFacts.{decode_of-encode_of, encode_of-append, encode_of-nil}
use Rattle.base64.proofs.RoundTrip.{length-encode_symbols}
use Rattle.base64.proofs.Tables.{all_below_at}
use Rattle.scram_text.specs.Base64Places.{symbol_value}
use Rattle.scram_text.specs.Bytes.{base64_bytes, base64_text, is_symbol}
use Rattle.scram_text.proofs.ByteTests.{both}

-- the character of a value
abbrev pub symbol : ℕ → ℕ
symbol v = slice_index standard.encode_table v

abbrev is_good : ℕ → Bool
is_good v = is_symbol (slice_index standard.encode_table v) && (symbol_value (slice_index standard.encode_table v) == v)

pub symbol_at : (v : ℕ) → v < 64 → (is_symbol (symbol v) ≡ true) × (symbol_value (symbol v) ≡ v)
symbol_at v small =
    let parts = both (is_symbol (slice_index standard.encode_table v)) (symbol_value (slice_index standard.encode_table v) == v) (all_below_at is_good 64 v refl small) in
    (parts.0, (Decides-eqb (symbol_value (slice_index standard.encode_table v)) v).0 parts.1)

abbrev is_back : ℕ → Bool
is_back b = not (is_symbol b) || (nat_lt (symbol_value b) 64 && (slice_index standard.encode_table (symbol_value b) == b))

symbol_small : (b : ℕ) → is_symbol b ≡ true → b < 123
symbol_small b is = grind (arith, nat_tests)

pub symbol_of : (b : ℕ) → is_symbol b ≡ true → (symbol_value b < 64) × (symbol (symbol_value b) ≡ b)
symbol_of b is =
    let all : (not (is_symbol b) || (nat_lt (symbol_value b) 64 && (slice_index standard.encode_table (symbol_value b) == b))) ≡ true = all_below_at is_back 123 b refl (symbol_small b is) in
    let parts = both (nat_lt (symbol_value b) 64) (slice_index standard.encode_table (symbol_value b) == b) (second (is_symbol b) (nat_lt (symbol_value b) 64 && (slice_index standard.encode_table (symbol_value b) == b)) is all) in
    (ltb-true (symbol_value b) 64 parts.0, (Decides-eqb (slice_index standard.encode_table (symbol_value b)) b).0 parts.1)
  where
    second : (x y : Bool) → x ≡ true → (not x || y) ≡ true → y ≡ true
    second true y is all = all
    second false y is all = cc

-- the texts of three bytes, of two and of one
pub text_of_three : (x y z : ℕ) → base64_text (x ∷ y ∷ z ∷ []) ≡ symbol (x / 4) ∷ symbol (x % 4 * 16 + y / 16) ∷ symbol (y % 16 * 4 + z / 64) ∷ symbol (z % 64) ∷ []
unfolding encode_symbols
text_of_three x y z = refl

pub text_of_two : (x y : ℕ) → base64_text (x ∷ y ∷ []) ≡ symbol (x / 4) ∷ symbol (x % 4 * 16 + y / 16) ∷ symbol (y % 16 * 4) ∷ 61 ∷ []
unfolding encode_symbols
text_of_two x y = refl

pub text_of_one : (x : ℕ) → base64_text (x ∷ []) ≡ symbol (x / 4) ∷ symbol (x % 4 * 16) ∷ 61 ∷ 61 ∷ []
unfolding encode_symbols
text_of_one x = refl

pub text_of_more : (x y z : ℕ) (m : List ℕ) → base64_text (x ∷ y ∷ z ∷ m) ≡ symbol (x / 4) ∷ symbol (x % 4 * 16 + y / 16) ∷ symbol (y % 16 * 4 + z / 64) ∷ symbol (z % 64) ∷ base64_text m
text_of_more x y z m = encode_of-append standard (x ∷ y ∷ z ∷ []) m refl ∙ ap (λ (w : List ℕ). w ++ base64_text m) (text_of_three x y z)

pub no_bytes : IsBytes []
no_bytes i = omega arith

pub cons_bytes : (x : ℕ) (m : List ℕ) → x < 256 → IsBytes m → IsBytes (x ∷ m)
cons_bytes x m small bytes zero = small
cons_bytes x m small bytes (suc i) = bytes i

pub tail_bytes : (x : ℕ) (m : List ℕ) → IsBytes (x ∷ m) → (x < 256) × IsBytes m
tail_bytes x m bytes = (bytes 0, λ i. bytes (suc i))

-- a byte is empty text of none only
pub text_some : (m : List ℕ) → 1 ≤ length m → base64_text m ≡ [] → ⊥
text_some [] some none = absurd (omega arith)
text_some (x ∷ []) some none = let e = sym (text_of_one x) ∙ none in cc
text_some (x ∷ y ∷ []) some none = let e = sym (text_of_two x y) ∙ none in cc
text_some (x ∷ y ∷ z ∷ m) some none = let e = sym (text_of_more x y z m) ∙ none in cc

-- characters, and the bytes that they write
pub record Writes (text : List ℕ) (long : ℕ) : Type 0 where
  pub bytes : List ℕ
  pub fit : IsBytes bytes
  pub length_is : length bytes ≡ long
  pub is : text ≡ base64_text bytes

same_symbol : (u v b : ℕ) → u ≡ v → symbol v ≡ b → symbol u ≡ b
same_symbol u v b same is = ap symbol same ∙ is

four_same : (a b c d p q r s : ℕ) (t : List ℕ) → p ≡ a → q ≡ b → r ≡ c → s ≡ d → a ∷ b ∷ c ∷ d ∷ t ≡ p ∷ q ∷ r ∷ s ∷ t
four_same a b c d p q r s t e f g h = ap (λ (x : ℕ). x ∷ b ∷ c ∷ d ∷ t) (sym e) ∙ ap (λ (x : ℕ). p ∷ x ∷ c ∷ d ∷ t) (sym f) ∙ ap (λ (x : ℕ). p ∷ q ∷ x ∷ d ∷ t) (sym g) ∙ ap (λ (x : ℕ). p ∷ q ∷ r ∷ x ∷ t) (sym h)

pub writes_more : (a b c d : ℕ) (t : List ℕ) (long : ℕ) → is_symbol a ≡ true → is_symbol b ≡ true → is_symbol c ≡ true → is_symbol d ≡ true → Writes t long → Writes (a ∷ b ∷ c ∷ d ∷ t) (3 + long)
writes_more a b c d t long sa sb sc sd writes =
    let va = symbol_value a in
    let vb = symbol_value b in
    let vc = symbol_value c in
    let vd = symbol_value d in
    let fa = symbol_of a sa in
    let fb = symbol_of b sb in
    let fc = symbol_of c sc in
    let fd = symbol_of d sd in
    go va vb vc vd fa.0 fb.0 fc.0 fd.0 fa.1 fb.1 fc.1 fd.1
  where
    go : (va vb vc vd : ℕ) → va < 64 → vb < 64 → vc < 64 → vd < 64 → symbol va ≡ a → symbol vb ≡ b → symbol vc ≡ c → symbol vd ≡ d → Writes (a ∷ b ∷ c ∷ d ∷ t) (3 + long)
    go va vb vc vd la lb lc ld fa fb fc fd =
        let x = va * 4 + vb / 16 in
        let y = vb % 16 * 16 + vc / 4 in
        let z = vc % 4 * 64 + vd in
        record {
          bytes = x ∷ y ∷ z ∷ writes.bytes;
          fit = cons_bytes x (y ∷ z ∷ writes.bytes) (omega arith) (cons_bytes y (z ∷ writes.bytes) (omega arith) (cons_bytes z writes.bytes (omega arith) writes.fit));
          length_is = (let l = writes.length_is in omega arith);
          is = ap (λ (w : List ℕ). a ∷ b ∷ c ∷ d ∷ w) writes.is
              ∙ four_same a b c d (symbol (x / 4)) (symbol (x % 4 * 16 + y / 16)) (symbol (y % 16 * 4 + z / 64)) (symbol (z % 64)) (base64_text writes.bytes)
              (same_symbol (x / 4) va a (omega arith) fa) (same_symbol (x % 4 * 16 + y / 16) vb b (omega arith) fb) (same_symbol (y % 16 * 4 + z / 64) vc c (omega arith) fc) (same_symbol (z % 64) vd d (omega arith) fd)
              ∙ sym (text_of_more x y z writes.bytes);
        }

pub writes_two : (a b c : ℕ) → is_symbol a ≡ true → is_symbol b ≡ true → is_symbol c ≡ true → (symbol_value c % 4 == 0) ≡ true → Writes (a ∷ b ∷ c ∷ 61 ∷ []) 2
writes_two a b c sa sb sc zeros =
    let fa = symbol_of a sa in
    let fb = symbol_of b sb in
    let fc = symbol_of c sc in
    go (symbol_value a) (symbol_value b) (symbol_value c) fa.0 fb.0 fc.0 fa.1 fb.1 fc.1 ((Decides-eqb (symbol_value c % 4) 0).0 zeros)
  where
    go : (va vb vc : ℕ) → va < 64 → vb < 64 → vc < 64 → symbol va ≡ a → symbol vb ≡ b → symbol vc ≡ c → vc % 4 ≡ 0 → Writes (a ∷ b ∷ c ∷ 61 ∷ []) 2
    go va vb vc la lb lc fa fb fc none =
        let x = va * 4 + vb / 16 in
        let y = vb % 16 * 16 + vc / 4 in
        record {
          bytes = x ∷ y ∷ [];
          fit = cons_bytes x (y ∷ []) (omega arith) (cons_bytes y [] (omega arith) no_bytes);
          length_is = refl;
          is = four_same a b c 61 (symbol (x / 4)) (symbol (x % 4 * 16 + y / 16)) (symbol (y % 16 * 4)) 61 []
              (same_symbol (x / 4) va a (omega arith) fa) (same_symbol (x % 4 * 16 + y / 16) vb b (omega arith) fb) (same_symbol (y % 16 * 4) vc c (omega arith) fc) refl
              ∙ sym (text_of_two x y);
        }

pub writes_one : (a b : ℕ) → is_symbol a ≡ true → is_symbol b ≡ true → (symbol_value b % 16 == 0) ≡ true → Writes (a ∷ b ∷ 61 ∷ 61 ∷ []) 1
writes_one a b sa sb zeros =
    let fa = symbol_of a sa in
    let fb = symbol_of b sb in
    go (symbol_value a) (symbol_value b) fa.0 fb.0 fa.1 fb.1 ((Decides-eqb (symbol_value b % 16) 0).0 zeros)
  where
    go : (va vb : ℕ) → va < 64 → vb < 64 → symbol va ≡ a → symbol vb ≡ b → vb % 16 ≡ 0 → Writes (a ∷ b ∷ 61 ∷ 61 ∷ []) 1
    go va vb la lb fa fb none =
        let x = va * 4 + vb / 16 in
        record {
          bytes = x ∷ [];
          fit = cons_bytes x [] (omega arith) no_bytes;
          length_is = refl;
          is = four_same a b 61 61 (symbol (x / 4)) (symbol (x % 4 * 16)) 61 61 [] (same_symbol (x / 4) va a (omega arith) fa) (same_symbol (x % 4 * 16) vb b (omega arith) fb) refl refl ∙ sym (text_of_one x);
        }

pub writes_none : Writes [] 0
writes_none = record { bytes = []; fit = no_bytes; length_is = refl; is = sym (encode_of-nil standard) }

pub record WritesSome (text : List ℕ) : Type 0 where
  pub long : ℕ
  pub writes : Writes text long

-- a text writes its bytes alone
same_ok : {B E : Type 0} (f : B → Result (List ℕ) E) (x y : B) (u v : List ℕ) → f x ≡ Ok u → f y ≡ Ok v → x ≡ y → u ≡ v
same_ok f x y u v p q e = cc

pub base64_injective : (m n : List ℕ) → IsBytes m → IsBytes n → base64_text m ≡ base64_text n → m ≡ n
base64_injective m n fm fn same = same_ok (decode_of standard) (base64_text m) (base64_text n) m n (decode_of-encode_of standard m refl fm) (decode_of-encode_of standard n refl fn) same

-- what a text writes is what is read from it
pub written_bytes : (text m bytes : List ℕ) → IsBytes m → text ≡ base64_text m → base64_bytes text ≡ Some bytes → m ≡ bytes
written_bytes text m bytes fits written is =
    same_Some m bytes (sym (ap result_ok (decode_of-encode_of standard m refl fits)) ∙ ap base64_bytes (sym written) ∙ is)

-- what a client's header is in base64
pub header_n : base64_text (110 ∷ 44 ∷ 44 ∷ []) ≡ 98 ∷ 105 ∷ 119 ∷ 115 ∷ []
header_n = text_of_three 110 44 44

pub header_y : base64_text (121 ∷ 44 ∷ 44 ∷ []) ≡ 101 ∷ 83 ∷ 119 ∷ 115 ∷ []
header_y = text_of_three 121 44 44

-- how long the text of bytes is
pub encode_long : (t m : List ℕ) (pad : ℕ) → length (encode t pad true m) ≡ unpadded_len (length m) + padding_len (length m)
encode_long t m pad =
    length-append (encode_symbols t m) (replicate (padding_len (length m)) pad)
    ∙ ap (λ (n : ℕ). n + length (replicate (padding_len (length m)) pad)) (length-encode_symbols t m)
    ∙ ap (λ (n : ℕ). unpadded_len (length m) + n) (length-replicate (padding_len (length m)) pad)

pub base64_long : (m : List ℕ) → length (base64_text m) ≡ unpadded_len (length m) + padding_len (length m)
base64_long m = encode_long standard.encode_table m standard.padding.value
