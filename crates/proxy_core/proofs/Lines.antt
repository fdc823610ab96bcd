-- The lines of the fields that are passed on, one after the other.
use Rattle.std.proofs.Common.{◌≡◌, ◌∷◌, [], ◌++◌, ℕ, List, Bool, true, false, cond, map, refl, sym, ap, ◌∙◌}
use Rattle.std.specs.Prelude.{filter}
use Rattle.http_wire.specs.Fields.{Pairs}
use Rattle.http_wire.specs.declared.pair.Pair.{Pair}
use Rattle.proxy_core.specs.Fields.{is_passed, line_of, passed_lines}
use Rattle.proxy_core.specs.declared.fields.Way.{Way}

abbrev pub parts_of : Pair → List ℕ × List ℕ
parts_of p = (p.name, p.value)

cond_append : {X : Type 0} (b : Bool) (x : X) (xs ys : List X) → cond b (x ∷ xs) xs ++ ys ≡ cond b (x ∷ (xs ++ ys)) (xs ++ ys)
cond_append true x xs ys = refl
cond_append false x xs ys = refl

filter-push : {X : Type 0} (keep : X → Bool) (xs : List X) (x : X) → filter keep (xs ++ x ∷ []) ≡ filter keep xs ++ cond (keep x) (x ∷ []) []
filter-push keep [] x = refl
filter-push {X} keep (y ∷ xs) x =
    ap (λ (l : List X). cond (keep y) (y ∷ l) l) (filter-push keep xs x) ∙ sym (cond_append (keep y) y (filter keep xs) (cond (keep x) (x ∷ []) []))

-- the pairs that are passed on, of the fields that these are
abbrev pub kept : Way → Pairs → List Pair → List Pair
kept way fields pairs = filter (λ (p : Pair). is_passed way fields p.name) pairs

pub kept_more : (way : Way) (fields : Pairs) (pairs lines : List Pair) (pair : Pair) → lines ≡ kept way fields pairs → is_passed way fields pair.name ≡ true → lines ++ pair ∷ [] ≡ kept way fields (pairs ++ pair ∷ [])
kept_more way fields pairs lines pair is passed =
    ap (λ (l : List Pair). l ++ pair ∷ []) is
    ∙ ap (λ (b : Bool). kept way fields pairs ++ cond b (pair ∷ []) []) (sym passed)
    ∙ sym (filter-push (λ (p : Pair). is_passed way fields p.name) pairs pair)

pub kept_same : (way : Way) (fields : Pairs) (pairs lines : List Pair) (pair : Pair) → lines ≡ kept way fields pairs → is_passed way fields pair.name ≡ false → lines ≡ kept way fields (pairs ++ pair ∷ [])
kept_same way fields pairs lines pair is passed =
    is ∙ sym (append_none (kept way fields pairs))
    ∙ ap (λ (b : Bool). kept way fields pairs ++ cond b (pair ∷ []) []) (sym passed)
    ∙ sym (filter-push (λ (p : Pair). is_passed way fields p.name) pairs pair)
  where
    append_none : (xs : List Pair) → xs ++ [] ≡ xs
    append_none [] = refl
    append_none (x ∷ xs) = ap (λ (l : List Pair). x ∷ l) (append_none xs)

abbrev lines_kept : Way → Pairs → List Pair → List Pair
lines_kept way fields pairs = map line_of (filter (λ (f : List ℕ × List ℕ). is_passed way fields f.0) (map parts_of pairs))

kept_over : (way : Way) (fields : Pairs) (p : Pair) (pairs : List Pair) (b : Bool) → lines_kept way fields pairs ≡ kept way fields pairs
    → map line_of (cond b (parts_of p ∷ filter (λ (f : List ℕ × List ℕ). is_passed way fields f.0) (map parts_of pairs)) (filter (λ (f : List ℕ × List ℕ). is_passed way fields f.0) (map parts_of pairs))) ≡ cond b (p ∷ kept way fields pairs) (kept way fields pairs)
kept_over way fields p pairs true below = ap (λ (l : List Pair). p ∷ l) below
kept_over way fields p pairs false below = below

kept_lines : (way : Way) (fields : Pairs) (pairs : List Pair) → lines_kept way fields pairs ≡ kept way fields pairs
kept_lines way fields [] = refl
kept_lines way fields (p ∷ pairs) = kept_over way fields p pairs (is_passed way fields p.name) (kept_lines way fields pairs)

-- all of them
pub kept_all : (way : Way) (fields : Pairs) (pairs lines : List Pair) → map parts_of pairs ≡ fields → lines ≡ kept way fields pairs → lines ≡ passed_lines way fields
kept_all way fields pairs lines are is =
    is ∙ sym (kept_lines way fields pairs) ∙ ap (λ (l : Pairs). map line_of (filter (λ (f : List ℕ × List ℕ). is_passed way fields f.0) l)) are
