-- The checks of a head, step by step.
use Rattle.std.proofs.Common.{◌≡◌, ◌∷◌, [], ◌++◌, ◌<◌, ◌≤◌, ◌+◌, ◌-◌, ◌*◌, ℕ, List, length, map, take, get_or, Some, None, true, false, sym, refl, ap, ◌∙◌, arith}
use Rattle.std.specs.Prelude.{◌&&◌, nat_lt, nat_le}
use Rattle.std.specs.List.{list_all}
use Rattle.std.specs.Str.Parse.{digits_value}
use Rattle.std.specs.Char.{digit_value, is_ascii_digit}
use Rattle.std.proofs.lemmas.Bool.{lt-ltb, lt-leb, le-leb, and_parts, and_from, true_from_ne_false, false_from_ne_true, cond-true, cond-false}
use Rattle.std.proofs.lemmas.List.{map-append, take_more}
use Rattle.std.proofs.lemmas.List.Folds.{list_all_at, list_all-map, list_all-append}
use Rattle.std.proofs.lemmas.List.Sums.{list_all-from_AllPass, AllPass-from_list_all}
use Rattle.std.proofs.lemmas.Int.Digits.{digits_value_more}
use Rattle.std.proofs.lemmas.Str.Parse.{digits_value-take-le}
use Rattle.std.proofs.lemmas.Bool.Decides.{nat_tests}
use Rattle.http_header.specs.Token.{token_test, is_token_byte, lowercase}
use Rattle.http_header.specs.FieldName.{is_field_name, IsFieldName}
use Rattle.http_header.proofs.TokenLemmas.{IsFieldName-from_test}
use Rattle.http_header.specs.HeaderMap.{Entries, append, append_all, pairs}
use Rattle.httparse.specs.declared.spans.HeaderSpan.{HeaderSpan}
use Rattle.httparse.specs.Spans.{header_bytes}
use Rattle.http_wire.specs.Values.{is_number}
use Rattle.http_wire.specs.Fields.{Pairs, are_field_names, lowered, fields_of}

-- a name passes the test
pub is_field_name_from : (bytes : List ℕ) → IsFieldName bytes → is_field_name bytes ≡ true
unfolding is_token_byte
is_field_name_from bytes h =
    and_from (nat_lt 0 (length bytes) && list_all token_test bytes) (nat_le (length bytes) 65535)
    (and_from (nat_lt 0 (length bytes)) (list_all token_test bytes) (lt-ltb 0 (length bytes) h.0.0) (list_all-from_AllPass token_test bytes h.0.1))
    (le-leb (length bytes) 65535 h.1)

pub no_field_name : (bytes : List ℕ) → (IsFieldName bytes → ⊥) → is_field_name bytes ≡ false
no_field_name bytes h = false_from_ne_true (is_field_name bytes) (λ e. h (IsFieldName-from_test bytes e))

pub is_field_name_unless : (bytes : List ℕ) → ((IsFieldName bytes → ⊥) → ⊥) → is_field_name bytes ≡ true
is_field_name_unless bytes h = true_from_ne_false (is_field_name bytes) (λ e. h (λ is. let t : is_field_name bytes ≡ true = is_field_name_from bytes is in cc))

module _ (text : List ℕ) (headers : List HeaderSpan) (i : ℕ) (d : HeaderSpan) (here : i < length headers) where
  -- a name that isn't one
  pub fields_refused : (IsFieldName (header_bytes text (get_or headers i d)).0 → ⊥) → fields_of (map (header_bytes text) headers) ≡ None
  unfolding fields_of
  fields_refused h =
      let written = map (header_bytes text) headers in
      let bad : list_all (λ x. is_field_name (header_bytes text x).0) headers ≡ false = list_all_at (λ x. is_field_name (header_bytes text x).0) headers i d here (no_field_name _ h) in
      let all : are_field_names written ≡ false = list_all-map (λ p. is_field_name p.0) (header_bytes text) headers ∙ bad in
      cond-false (are_field_names written) (Some (pairs (append_all [] (map lowered written)))) None all

  -- one field more
  more : map (header_bytes text) (take (i + 1) headers) ≡ map (header_bytes text) (take i headers) ++ header_bytes text (get_or headers i d) ∷ []
  more = ap (map (header_bytes text)) (take_more headers i d here) ∙ map-append (header_bytes text) (take i headers) (get_or headers i d ∷ [])

  pub fields_named : are_field_names (map (header_bytes text) (take i headers)) ≡ true → ((IsFieldName (header_bytes text (get_or headers i d)).0 → ⊥) → ⊥) →
      are_field_names (map (header_bytes text) (take (i + 1) headers)) ≡ true
  fields_named before h =
      ap are_field_names more
      ∙ list_all-append (λ p. is_field_name p.0) (map (header_bytes text) (take i headers)) (header_bytes text (get_or headers i d) ∷ [])
      ∙ and_from (are_field_names (map (header_bytes text) (take i headers))) (are_field_names (header_bytes text (get_or headers i d) ∷ [])) before
      (and_from (is_field_name (header_bytes text (get_or headers i d)).0) true (is_field_name_unless _ h) refl)

  pub fields_made : (made new : Entries (List ℕ)) (name value : List ℕ) → made ≡ append_all [] (map lowered (map (header_bytes text) (take i headers))) →
      name ≡ lowercase (header_bytes text (get_or headers i d)).0 → value ≡ (header_bytes text (get_or headers i d)).1 → new ≡ append made name value →
      new ≡ append_all [] (map lowered (map (header_bytes text) (take (i + 1) headers)))
  fields_made made new name value before n v is =
      is ∙ (λ j. append (before j) (n j) (v j))
      ∙ sym (fold_last (map lowered (map (header_bytes text) (take i headers))) [] (lowered (header_bytes text (get_or headers i d))))
      ∙ ap (append_all []) (sym (ap (map lowered) more ∙ map-append lowered (map (header_bytes text) (take i headers)) (header_bytes text (get_or headers i d) ∷ [])))
    where
      fold_last : (ps : Pairs) (m : Entries (List ℕ)) (p : List ℕ × List ℕ) → append_all m (ps ++ p ∷ []) ≡ append (append_all m ps) p.0 p.1
      fold_last [] m p = refl
      fold_last (q ∷ ps) m p = fold_last ps (append m q.0 q.1) p

-- all fields
pub fields_all : (written : Pairs) (made : Entries (List ℕ)) → are_field_names written ≡ true → made ≡ append_all [] (map lowered written) → Some (pairs made) ≡ fields_of written
unfolding fields_of
fields_all written made named is =
    ap (λ (m : Entries (List ℕ)). Some (pairs m)) is ∙ sym (cond-true (are_field_names written) (Some (pairs (append_all [] (map lowered written)))) None named)

-- ---- numbers

pub number_above : (digits : List ℕ) (i n limit : ℕ) → i < length digits → n ≡ digits_value 10 (take i digits) → limit < n * 10 + digit_value (get_or digits i 0) → nat_le (digits_value 10 digits) limit ≡ false
number_above digits i n limit here is over =
    let step : digits_value 10 (take (i + 1) digits) ≡ digits_value 10 (take i digits) * 10 + digit_value (get_or digits i 0) = digits_value_more 10 digits i here in
    let le : digits_value 10 (take (i + 1) digits) ≤ digits_value 10 digits = digits_value-take-le 10 digits (i + 1) (omega arith) in
    lt-leb (digits_value 10 digits) limit (omega arith)

digit_is : (b : ℕ) → is_ascii_digit b ≡ true → (48 ≤ b) × (digit_value b ≡ b - 48)
digit_is b h = grind (arith, nat_tests)

pub digit_at : (digits : List ℕ) (i : ℕ) → is_number digits ≡ true → i < length digits → (48 ≤ get_or digits i 0) × (digit_value (get_or digits i 0) ≡ get_or digits i 0 - 48)
digit_at digits i h l =
    let parts = and_parts (nat_lt 0 (length digits)) (list_all is_ascii_digit digits) h in
    digit_is (get_or digits i 0) (AllPass-from_list_all is_ascii_digit digits parts.1 i 0 l)

pub number_step : (digits : List ℕ) (i n : ℕ) → is_number digits ≡ true → i < length digits → n ≡ digits_value 10 (take i digits) → n * 10 + (get_or digits i 0 - 48) ≡ digits_value 10 (take (i + 1) digits)
number_step digits i n h l is =
    let step : digits_value 10 (take (i + 1) digits) ≡ digits_value 10 (take i digits) * 10 + digit_value (get_or digits i 0) = digits_value_more 10 digits i l in
    let value = digit_at digits i h l in
    omega arith

pub number_none : (digits : List ℕ) (i n limit : ℕ) → is_number digits ≡ true → i < length digits → n ≡ digits_value 10 (take i digits) → limit < n * 10 + (get_or digits i 0 - 48) → nat_le (digits_value 10 digits) limit ≡ false
number_none digits i n limit h l is over = let value = digit_at digits i h l in number_above digits i n limit l is (omega arith)
