-- Looking an entry up in a list of names and bytes.
use Rattle.std.proofs.Common.{◌≡◌, ℕ, ◌+◌, ◌<◌, ◌≤◌, Bool, true, false, cond, List, ◌∷◌, length, drop, get_or, Option, Some, None, is_eq, nat_cmp, sym, ap, ◌∙◌}
use Rattle.std.proofs.lemmas.List.{drop_more, drop_all}
use Rattle.std.specs.Cmp.Lexicographic.{slice_cmp, nat_list_cmp_total}
use Rattle.std.specs.FinMap as map
use Rattle.auth_io.specs.Files.{contents_of}

-- the bytes of the first entry with this name
abbrev pub looked_up : List ℕ → List (List ℕ × List ℕ) → Option (List ℕ)
looked_up name entries = map.find (slice_cmp nat_cmp) name entries

pub looked_up_all : (entries : List (List ℕ × List ℕ)) (name : List ℕ) → map.get (contents_of entries) name ≡ looked_up name (drop 0 entries)
looked_up_all entries name = map.get-from_entries nat_list_cmp_total entries name

looked_up_at : (entries : List (List ℕ × List ℕ)) (name : List ℕ) (i : ℕ) (entry : List ℕ × List ℕ) (b : Bool) → i < length entries → entry ≡ get_or entries i entry →
    b ≡ is_eq (slice_cmp nat_cmp name entry.0) → looked_up name (drop i entries) ≡ cond b (Some entry.1) (looked_up name (drop (i + 1) entries))
looked_up_at entries name i entry b within here same =
    ap (looked_up name) (drop_more entries i entry within ∙ ap (λ (e : List ℕ × List ℕ). e ∷ drop (i + 1) entries) (sym here))
    ∙ ap (λ (t : Bool). cond t (Some entry.1) (looked_up name (drop (i + 1) entries))) (sym same)

pub looked_up_here : (entries : List (List ℕ × List ℕ)) (name : List ℕ) (i : ℕ) (entry : List ℕ × List ℕ) → i < length entries → entry ≡ get_or entries i entry →
    true ≡ is_eq (slice_cmp nat_cmp name entry.0) → looked_up name (drop i entries) ≡ Some entry.1
looked_up_here entries name i entry within here same = looked_up_at entries name i entry true within here same

pub looked_up_on : (entries : List (List ℕ × List ℕ)) (name : List ℕ) (i : ℕ) (entry : List ℕ × List ℕ) → i < length entries → entry ≡ get_or entries i entry →
    false ≡ is_eq (slice_cmp nat_cmp name entry.0) → looked_up name (drop i entries) ≡ looked_up name (drop (i + 1) entries)
looked_up_on entries name i entry within here same = looked_up_at entries name i entry false within here same

pub looked_up_end : (entries : List (List ℕ × List ℕ)) (name : List ℕ) (i : ℕ) → length entries ≤ i → looked_up name (drop i entries) ≡ None
looked_up_end entries name i past = ap (looked_up name) (drop_all i entries past)
