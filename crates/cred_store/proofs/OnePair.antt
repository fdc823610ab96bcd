-- A faulty line of htdigest says no entry.
use Rattle.std.proofs.Common.{◌≡◌, ◌≢◌, ℕ, ◌+◌, ◌==◌, Bool, true, false, ◌&&◌, not, cond, List, [], ◌∷◌, ◌++◌, length, map, refl, sym, ap, ◌∙◌, subst, inl, inr, true≢false, arith}
use Rattle.std.specs.Char.{to_ascii_lowercase}
use Rattle.std.specs.List.{AllZip, list_all}
use Rattle.std.specs.Str.{str_to_ascii_lowercase}
use Rattle.std.specs.Str.Lines.{lines}
use Rattle.auth_grammar.specs.Plain.{is_plain_byte, is_plain_name}
use Rattle.auth_hash.specs.HexText.{is_lower_digit}
use Rattle.cred_store.specs.Faults.{colons}
use Rattle.cred_store.specs.Htdigest.{ArePairs, AreThreeFaulty, HasThreeFaulty, HasThreeParts, IsPair, IsPairFaulty, PairFault, PairFaultBehind, full_lines, md5_secret}
use Rattle.cred_store.specs.Kinds.{IsSecret}
use Rattle.cred_store.specs.declared.entry.Entry.{Entry}
use Rattle.cred_store.specs.declared.error.LineFault.{LineFault}
use Rattle.cred_store.specs.declared.error.LineFault.TheVariants.{Form, Name, Realm, Kind, Flag, Value, Header}
use Rattle.cred_store.specs.declared.error.StoreError.{StoreError}
use Rattle.cred_store.specs.declared.error.StoreError.TheVariants.{BadLine, Repeated, Unsorted, BadName, OutOfMemory}
use Rattle.cred_store.proofs.Bytes.{both_first, both_second, cut_once, digits_pass, passes_no}
use Rattle.cred_store.proofs.Parts.{colons_at, no_colons, plain_bytes}
use Rattle.cred_store.proofs.Pairs.{not_zero}

-- ---- the parts of a line that says an entry

abbrev either_case : ℕ → Bool
either_case b = is_lower_digit (to_ascii_lowercase b)

both_are : (a b : Bool) → a ≡ true → b ≡ true → a && b ≡ true
both_are a b p q = ap (λ (v : Bool). v && b) p ∙ q

all_lowered : (value : List ℕ) → list_all is_lower_digit (map to_ascii_lowercase value) ≡ true → list_all either_case value ≡ true
all_lowered [] h = refl
all_lowered (b ∷ value) h = both_are (either_case b) _ (both_first (either_case b) _ h) (all_lowered value (both_second (either_case b) _ h))

pair_parts : (line : List ℕ) (e : Entry) (h : IsPair line e) → HasThreeParts line e.name e.realm h.value
pair_parts line e h = record {
  parts = h.says;
  no_name = passes_no is_plain_byte 58 refl e.name (plain_bytes e.name h.is_entry.name);
  no_realm = passes_no is_plain_byte 58 refl e.realm (plain_bytes e.realm h.is_entry.realm);
  no_value = passes_no either_case 58 refl h.value (all_lowered h.value
      (digits_pass (str_to_ascii_lowercase h.value) (subst IsSecret h.is_secret h.is_entry.secret).form.1));
}

two_of_parts : (line a b c : List ℕ) → HasThreeParts line a b c → colons line ≡ 2
two_of_parts line a b c h =
    omega (arith, ap colons h.parts, colons_at a (b ++ 58 ∷ c) h.no_name, colons_at b c h.no_realm, no_colons c h.no_value)

three_are : (line a b c name realm value : List ℕ) → HasThreeParts line a b c → HasThreeParts line name realm value → (a ≡ name) × (b ≡ realm) × (c ≡ value)
three_are line a b c name realm value h g =
    let one = cut_once 58 a (b ++ 58 ∷ c) name (realm ++ 58 ∷ value) h.no_name g.no_name (sym h.parts ∙ g.parts) in
    let two = cut_once 58 b c realm value h.no_realm g.no_realm one.1 in
    (one.0, two.0, two.1)

sound_three : (why : LineFault) (line : List ℕ) (e : Entry) → IsPair line e → HasThreeFaulty line why → ⊥
sound_three why line e h f = by why f.fault
  where
    are : (f.name ≡ e.name) × (f.realm ≡ e.realm) × (f.value ≡ h.value)
    are = three_are line _ _ _ _ _ _ f.parts (pair_parts line e h)

    by : (why : LineFault) → AreThreeFaulty why f.name f.realm f.value → ⊥
    by Form x = x
    by Header x = x
    by Kind x = x
    by Flag x = x
    by Name x = true≢false (sym (ap is_plain_name are.0 ∙ h.is_entry.name) ∙ x)
    by Realm x = true≢false (sym (ap is_plain_name are.1 ∙ h.is_entry.realm) ∙ x.1)
    by Value x = x.2 (subst IsSecret (h.is_secret ∙ ap md5_secret (sym are.2)) h.is_entry.secret)

sound_pair : (why : LineFault) (line : List ℕ) (e : Entry) → IsPair line e → IsPairFaulty why line → ⊥
sound_pair why line e h (inl form) = form.1 (two_of_parts line _ _ _ (pair_parts line e h))
sound_pair why line e h (inr three) = sound_three why line e h three

-- ---- the line in the text

-- what a line that is not empty says
pair_at : (before : List (List ℕ)) (line : List ℕ) (after : List (List ℕ)) (pairs : List Entry) → line ≢ [] → ArePairs (before ++ line ∷ after) pairs → (e : Entry) × IsPair line e
pair_at [] [] after pairs some h = absurd (some refl)
pair_at [] (b ∷ line) after pairs some h =
    first pairs (subst (λ (v : Bool). AllZip IsPair (cond (not v) ((b ∷ line) ∷ full_lines after) (full_lines after)) pairs) (not_zero (length line)) h)
  where
    first : (pairs : List Entry) → AllZip IsPair ((b ∷ line) ∷ full_lines after) pairs → (e : Entry) × IsPair (b ∷ line) e
    first [] h = absurd h
    first (e ∷ pairs) h = (e, h.0)
pair_at (x ∷ before) line after pairs some h =
    by (not (length x == 0)) pairs (λ said. pair_at before line after said some) h
  where
    by : (v : Bool) (pairs : List Entry) → ((said : List Entry) → ArePairs (before ++ line ∷ after) said → (e : Entry) × IsPair line e) →
        AllZip IsPair (cond v (x ∷ full_lines (before ++ line ∷ after)) (full_lines (before ++ line ∷ after))) pairs → (e : Entry) × IsPair line e
    by true [] more h = absurd h
    by true (e ∷ pairs) more h = more pairs h.1
    by false pairs more h = more pairs h

sound_at : (error : StoreError) (line : List ℕ) (n : ℕ) → error ≢ OutOfMemory → PairFault line n error → (line ≢ []) × ((e : Entry) → IsPair line e → ⊥)
sound_at (BadLine at why) line n some f = (f.1, λ e h. sound_pair why line e h f.2)
sound_at (Repeated at) line n some f = absurd f
sound_at (Unsorted at) line n some f = absurd f
sound_at BadName line n some f = absurd f
sound_at OutOfMemory line n some f = absurd (some refl)

pub sound_pairs : (whole : List ℕ) (error : StoreError) → PairFaultBehind whole error → error ≢ OutOfMemory → (pairs : List Entry) → ArePairs (lines whole) pairs → ⊥
sound_pairs whole error f some pairs h =
    let none = sound_at error f.line (length f.before + 1) some f.fault in
    let said = pair_at f.before f.line f.after pairs none.0 (subst (λ (all : List (List ℕ)). ArePairs all pairs) f.splits h) in
    none.1 said.0 said.1
