-- The size of fields.
use Rattle.std.proofs.Common.{◌≡◌, ◌∷◌, [], ◌++◌, ◌≤◌, ◌+◌, ℕ, suc, List, length, map, Bool, true, false, cond, refl, ap, ◌∙◌, length-append, arith}
use Rattle.std.specs.Prelude.{reverse, bytes_eq}
use Rattle.std.specs.List.{flat_map}
use Rattle.std.proofs.lemmas.List.{length-map, length-reverse, map-append}
use Rattle.std.proofs.lemmas.Slice.Eq.{bytes_eq-Decides}
use Rattle.http_header.specs.HeaderMap.{Entry, Entries, append, append_all, pairs, entry_pairs}
use Rattle.http_header.specs.Token.{lowercase}
use Rattle.std.specs.Char.{to_ascii_lowercase}
use Rattle.httparse.specs.Grammar.{Field, field_value, skip_ows, trim_ows, is_ows, print_end, print_field, print_blank, print_version, print_section, print_reason, RequestHead, print_request, ResponseHead, print_response}
use Rattle.httparse.specs.Spans.{name_and_value}
use Rattle.http_wire.specs.Fields.{pairs_size, Pairs, lowered}

size-append : (a b : Pairs) → pairs_size (a ++ b) ≡ pairs_size a + pairs_size b
size-append [] b = omega arith
size-append (p ∷ a) b = let e : pairs_size (a ++ b) ≡ pairs_size a + pairs_size b = size-append a b in omega arith

abbrev one_size : List ℕ → List ℕ → ℕ
one_size name value = suc (length name + length value)

size_update : (t : Bool) (e : Entry (List ℕ)) (m n : Entries (List ℕ)) (name value : List ℕ) → (t ≡ true → e.0 ≡ name) → pairs_size (pairs n) ≡ pairs_size (pairs m) + one_size name value →
    pairs_size (pairs (cond t ((e.0, e.1 ++ value ∷ []) ∷ m) (e ∷ n))) ≡ pairs_size (pairs (e ∷ m)) + one_size name value
size_update true e m n name value same ih =
    let here : entry_pairs (e.0, e.1 ++ value ∷ []) ≡ entry_pairs e ++ (e.0, value) ∷ [] = map-append (λ (v : List ℕ). (e.0, v)) e.1 (value ∷ []) in
    let a : pairs_size (entry_pairs (e.0, e.1 ++ value ∷ [])) ≡ pairs_size (entry_pairs e) + pairs_size ((e.0, value) ∷ []) = ap pairs_size here ∙ size-append (entry_pairs e) ((e.0, value) ∷ []) in
    let b : pairs_size (entry_pairs (e.0, e.1 ++ value ∷ []) ++ pairs m) ≡ pairs_size (entry_pairs (e.0, e.1 ++ value ∷ [])) + pairs_size (pairs m) = size-append (entry_pairs (e.0, e.1 ++ value ∷ [])) (pairs m) in
    let c : pairs_size (entry_pairs e ++ pairs m) ≡ pairs_size (entry_pairs e) + pairs_size (pairs m) = size-append (entry_pairs e) (pairs m) in
    let n : length e.0 ≡ length name = ap length (same refl) in
    omega arith
size_update false e m n name value same ih =
    let b : pairs_size (entry_pairs e ++ pairs n) ≡ pairs_size (entry_pairs e) + pairs_size (pairs n) = size-append (entry_pairs e) (pairs n) in
    let c : pairs_size (entry_pairs e ++ pairs m) ≡ pairs_size (entry_pairs e) + pairs_size (pairs m) = size-append (entry_pairs e) (pairs m) in
    omega arith

size_more : (m : Entries (List ℕ)) (name value : List ℕ) → pairs_size (pairs (append m name value)) ≡ pairs_size (pairs m) + one_size name value
size_more [] name value = omega arith
size_more (e ∷ m) name value = size_update (bytes_eq e.0 name) e m (append m name value) name value (λ t. (bytes_eq-Decides e.0 name).0 t) (size_more m name value)

size_all : (ps : Pairs) (m : Entries (List ℕ)) → pairs_size (pairs (append_all m ps)) ≡ pairs_size (pairs m) + pairs_size ps
size_all [] m = omega arith
size_all (p ∷ ps) m =
    let a : pairs_size (pairs (append_all (append m p.0 p.1) ps)) ≡ pairs_size (pairs (append m p.0 p.1)) + pairs_size ps = size_all ps (append m p.0 p.1) in
    let b : pairs_size (pairs (append m p.0 p.1)) ≡ pairs_size (pairs m) + one_size p.0 p.1 = size_more m p.0 p.1 in
    omega arith

size_lowered : (ps : Pairs) → pairs_size (map lowered ps) ≡ pairs_size ps
size_lowered [] = refl
size_lowered (p ∷ ps) =
    let a : length (lowercase p.0) ≡ length p.0 = length-map p.0 to_ascii_lowercase in
    let b : pairs_size (map lowered ps) ≡ pairs_size ps = size_lowered ps in
    omega arith

-- a map of fields is as large as they are
pub size_fields : (ps : Pairs) → pairs_size (pairs (append_all [] (map lowered ps))) ≡ pairs_size ps
size_fields ps = let a : pairs_size (pairs (append_all [] (map lowered ps))) ≡ 0 + pairs_size (map lowered ps) = size_all (map lowered ps) [] in let b : pairs_size (map lowered ps) ≡ pairs_size ps = size_lowered ps in omega arith

-- ---- the size of a head

skip_if : (t : Bool) (b : ℕ) (bytes rest : List ℕ) → length rest ≤ length bytes → length (cond t rest (b ∷ bytes)) ≤ suc (length bytes)
skip_if true b bytes rest l = omega arith
skip_if false b bytes rest l = omega arith

skip_le : (bytes : List ℕ) → length (skip_ows bytes) ≤ length bytes
skip_le [] = omega arith
skip_le (b ∷ bytes) = skip_if (is_ows b) b bytes (skip_ows bytes) (skip_le bytes)

trim_le : (bytes : List ℕ) → length (trim_ows bytes) ≤ length bytes
unfolding trim_ows
trim_le bytes =
    let a : length (reverse (skip_ows (reverse (skip_ows bytes)))) ≡ length (skip_ows (reverse (skip_ows bytes))) = length-reverse (skip_ows (reverse (skip_ows bytes))) in
    let b : length (skip_ows (reverse (skip_ows bytes))) ≤ length (reverse (skip_ows bytes)) = skip_le (reverse (skip_ows bytes)) in
    let c : length (reverse (skip_ows bytes)) ≡ length (skip_ows bytes) = length-reverse (skip_ows bytes) in
    let d : length (skip_ows bytes) ≤ length bytes = skip_le bytes in
    omega arith

field_le : (f : Field) → suc (length f.name + length (field_value f)) ≤ length (print_field f)
field_le f =
    let a : length ((f.name ++ 58 ∷ f.raw) ++ print_end f.end) ≡ length (f.name ++ 58 ∷ f.raw) + length (print_end f.end) = length-append (f.name ++ 58 ∷ f.raw) (print_end f.end) in
    let b : length (f.name ++ 58 ∷ f.raw) ≡ length f.name + suc (length f.raw) = length-append f.name (58 ∷ f.raw) in
    let c : length (trim_ows f.raw) ≤ length f.raw = trim_le f.raw in
    omega arith

fields_le : (fields : List Field) → pairs_size (map name_and_value fields) ≤ length (flat_map print_field fields)
fields_le [] = omega arith
fields_le (f ∷ fields) =
    let a : suc (length f.name + length (field_value f)) ≤ length (print_field f) = field_le f in
    let b : pairs_size (map name_and_value fields) ≤ length (flat_map print_field fields) = fields_le fields in
    let c : length (print_field f ++ flat_map print_field fields) ≡ length (print_field f) + length (flat_map print_field fields) = length-append (print_field f) (flat_map print_field fields) in
    omega arith

tail_le : (a b : List ℕ) → length b ≤ length (a ++ b)
tail_le a b = let e : length (a ++ b) ≡ length a + length b = length-append a b in omega arith

front_le : (a b : List ℕ) → length a ≤ length (a ++ b)
front_le a b = let e : length (a ++ b) ≡ length a + length b = length-append a b in omega arith

pub head_size : (h : RequestHead) → pairs_size (map name_and_value h.fields) ≤ length (print_request h)
unfolding print_request
head_size h =
    let a : pairs_size (map name_and_value h.fields) ≤ length (flat_map print_field h.fields) = fields_le h.fields in
    let b : length (flat_map print_field h.fields) ≤ length (print_section h.fields h.last) = front_le (flat_map print_field h.fields) (print_end h.last) in
    let c : length (print_section h.fields h.last) ≤ length (print_request h) = tail_le (print_blank h.blank ++ h.method ++ 32 ∷ h.target ++ 32 ∷ print_version h.minor ++ print_end h.line_end) (print_section h.fields h.last) in
    omega arith

pub size_made : (made : Entries (List ℕ)) (ps : Pairs) → made ≡ append_all [] (map lowered ps) → pairs_size ps ≤ 16384 → pairs_size (pairs made) ≤ 16384
size_made made ps e l = let a : pairs_size (pairs made) ≡ pairs_size ps = ap (λ (m : Entries (List ℕ)). pairs_size (pairs m)) e ∙ size_fields ps in omega arith

pub size_read : (written : Pairs) (h : RequestHead) (len count : ℕ) → written ≡ map name_and_value h.fields → len ≡ length (print_request h) → len ≤ count → count ≤ 16384 → pairs_size written ≤ 16384
size_read written h len count e l m n =
    let a : pairs_size written ≡ pairs_size (map name_and_value h.fields) = ap pairs_size e in
    let b : pairs_size (map name_and_value h.fields) ≤ length (print_request h) = head_size h in
    omega arith

-- ---- the same for a response

response_size : (h : ResponseHead) → pairs_size (map name_and_value h.fields) ≤ length (print_response h)
unfolding print_response
response_size h =
    let a : pairs_size (map name_and_value h.fields) ≤ length (flat_map print_field h.fields) = fields_le h.fields in
    let b : length (flat_map print_field h.fields) ≤ length (print_section h.fields h.last) = front_le (flat_map print_field h.fields) (print_end h.last) in
    let c : length (print_section h.fields h.last) ≤ length (print_response h) = tail_le (print_blank h.blank ++ print_version h.minor ++ 32 ∷ h.digits ++ print_reason h.reason ++ print_end h.line_end) (print_section h.fields h.last) in
    omega arith

pub size_response : (written : Pairs) (h : ResponseHead) (len count : ℕ) → written ≡ map name_and_value h.fields → len ≡ length (print_response h) → len ≤ count → count ≤ 16384 → pairs_size written ≤ 16384
size_response written h len count e l m n =
    let a : pairs_size written ≡ pairs_size (map name_and_value h.fields) = ap pairs_size e in
    let b : pairs_size (map name_and_value h.fields) ≤ length (print_response h) = response_size h in
    omega arith
