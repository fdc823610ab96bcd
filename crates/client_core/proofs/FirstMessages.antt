-- What a client's first message is made of.
use Rattle.std.proofs.Common.{◌≡◌, ◌≢◌, ◌+◌, ◌*◌, ◌/◌, ◌%◌, ◌≤◌, ◌<◌, ◌∙◌, ◌&&◌, ◌==◌, ℕ, Bool, true, false, not, nat_le, List, [], ◌∷◌, length, refl, sym, ap, subst, arith, true≢false}
use Rattle.std.proofs.lemmas.Bool.Decides.{nat_tests}
use Rattle.std.specs.List.{list_all}
use Rattle.base64.specs.Engines.{standard}
use Rattle.base64.specs.GeneralPurpose.{IsBytes}
use Rattle.base64.proofs.EngineFacts.{encode_of-nil}
use Rattle.auth_grammar.specs.Plain.{is_plain_byte, is_plain_name, is_printable}
use Rattle.scram_text.specs.Bytes.{base64_text, is_nonce_byte, is_symbol, some_of}
use Rattle.scram_text.proofs.Base64Groups.{no_bytes, symbol, symbol_at, tail_bytes, text_of_more, text_of_one, text_of_two, text_some}

pub both : (a b : Bool) → a && b ≡ true → (a ≡ true) × (b ≡ true)
both true b e = (refl, e)
both false b e = absurd (true≢false (sym e))

pub both_true : (a b : Bool) → a ≡ true → b ≡ true → a && b ≡ true
both_true a b p q = rw (p, q) refl

-- ---- the name

printable : (name : List ℕ) → list_all is_plain_byte name ≡ true → list_all is_printable name ≡ true
printable [] e = refl
printable (b ∷ name) e =
    let two = both (is_plain_byte b) (list_all is_plain_byte name) e in
    both_true (is_printable b) (list_all is_printable name) (both (is_printable b) (not (b == 58)) two.0).0 (printable name two.1)

pub some_printable : (name : List ℕ) → is_plain_name name ≡ true → some_of is_printable name ≡ true
some_printable [] e = absurd (true≢false (sym e))
some_printable (b ∷ name) e = printable (b ∷ name) (both (nat_le 1 (length (b ∷ name)) && nat_le (length (b ∷ name)) 64) (list_all is_plain_byte (b ∷ name)) e).1

pub short_name : (name : List ℕ) → is_plain_name name ≡ true → length name ≤ 64
short_name name e =
    let fits = (both (nat_le 1 (length name)) (nat_le (length name) 64) (both (nat_le 1 (length name) && nat_le (length name) 64) (list_all is_plain_byte name) e).0).1 in
    grind (arith, nat_tests)

-- ---- the nonce

symbol_nonce : (b : ℕ) → is_symbol b ≡ true → is_nonce_byte b ≡ true
symbol_nonce b e = grind (arith, nat_tests)

nonce_symbol : (v : ℕ) → v < 64 → is_nonce_byte (symbol v) ≡ true
nonce_symbol v small = symbol_nonce (symbol v) (symbol_at v small).0

four : (a b c d : ℕ) (t : List ℕ) → is_nonce_byte a ≡ true → is_nonce_byte b ≡ true → is_nonce_byte c ≡ true → is_nonce_byte d ≡ true → list_all is_nonce_byte t ≡ true
    → list_all is_nonce_byte (a ∷ b ∷ c ∷ d ∷ t) ≡ true
four a b c d t p q r s h = rw (p, q, r, s, h) refl

pub nonce_text : (m : List ℕ) → IsBytes m → list_all is_nonce_byte (base64_text m) ≡ true
nonce_text [] bytes = ap (λ (t : List ℕ). list_all is_nonce_byte t) (encode_of-nil standard)
nonce_text (x ∷ []) bytes =
    let small = (tail_bytes x [] bytes).0 in
    let P : List ℕ → Type 0 = λ t. list_all is_nonce_byte t ≡ true in
    subst P (sym (text_of_one x)) (four (symbol (x / 4)) (symbol (x % 4 * 16)) 61 61 [] (nonce_symbol (x / 4) (omega arith)) (nonce_symbol (x % 4 * 16) (omega arith)) refl refl refl)
nonce_text (x ∷ y ∷ []) bytes =
    let one = tail_bytes x (y ∷ []) bytes in
    let two = tail_bytes y [] one.1 in
    let p = one.0 in
    let q = two.0 in
    let P : List ℕ → Type 0 = λ t. list_all is_nonce_byte t ≡ true in
    subst P (sym (text_of_two x y))
    (four (symbol (x / 4)) (symbol (x % 4 * 16 + y / 16)) (symbol (y % 16 * 4)) 61 [] (nonce_symbol (x / 4) (omega arith)) (nonce_symbol (x % 4 * 16 + y / 16) (omega arith)) (nonce_symbol (y % 16 * 4) (omega arith)) refl refl)
nonce_text (x ∷ y ∷ z ∷ m) bytes =
    let one = tail_bytes x (y ∷ z ∷ m) bytes in
    let two = tail_bytes y (z ∷ m) one.1 in
    let three = tail_bytes z m two.1 in
    let p = one.0 in
    let q = two.0 in
    let r = three.0 in
    let P : List ℕ → Type 0 = λ t. list_all is_nonce_byte t ≡ true in
    subst P (sym (text_of_more x y z m))
    (four (symbol (x / 4)) (symbol (x % 4 * 16 + y / 16)) (symbol (y % 16 * 4 + z / 64)) (symbol (z % 64)) (base64_text m) (nonce_symbol (x / 4) (omega arith)) (nonce_symbol (x % 4 * 16 + y / 16) (omega arith)) (nonce_symbol (y % 16 * 4 + z / 64) (omega arith))
    (nonce_symbol (z % 64) (omega arith)) (nonce_text m three.1))

some_from : (test : ℕ → Bool) (t : List ℕ) → (t ≡ [] → ⊥) → list_all test t ≡ true → some_of test t ≡ true
some_from test [] there e = absurd (there refl)
some_from test (b ∷ t) there e = e

pub some_nonce : (words : List ℕ) → 1 ≤ length words → IsBytes words → some_of is_nonce_byte (base64_text words) ≡ true
some_nonce words there bytes = some_from is_nonce_byte (base64_text words) (text_some words there) (nonce_text words bytes)
