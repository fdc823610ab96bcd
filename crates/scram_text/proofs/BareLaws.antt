-- What a client-first says by the text behind its flag.
use Rattle.std.proofs.Common.{◌≡◌, ◌≢◌, ◌≤◌, ◌<◌, ◌+◌, ◌==◌, ℕ, Bool, true, false, ◌&&◌, nat_le, List, [], ◌∷◌, ◌++◌, length, drop, Option, Some, None, refl, sym, ap, ◌∙◌, subst, true≢false, append-nil, arith}
use Rattle.std.specs.Prelude.{All, bytes_eq, if◌then◌else◌}
use Rattle.std.specs.List.{AllByRecursion, flat_map, join_with_byte, list_all, slice_split}
use Rattle.std.proofs.lemmas.Bool.Decides.{nat_tests}
use Rattle.std.proofs.lemmas.List.Elements.{All-nil, All-cons}
use Rattle.std.proofs.lemmas.List.Splits.{slice_split_none, slice_split_at, length-slice_split, join_with_byte-slice_split}
use Rattle.std.proofs.lemmas.Slice.Eq.{bytes_eq-Decides}
use Rattle.auth_grammar.specs.Plain.{is_printable}
use Rattle.scram_text.specs.Bares.{BareParts, are_extensions, are_short, bare_of, before_comma, behind_name, escaped_byte, first_behind, first_of, is_bare_of, is_extension, name_from, parts_in, rest_in, written_in}
use Rattle.scram_text.specs.Bytes.{HasNoComma, escape, escaped, is_letter, is_nonce_byte, is_value_byte, some_of}
use Rattle.scram_text.specs.ClientFirsts.{FirstParts, IsShort, SpellsClientFirst}
use Rattle.scram_text.specs.Parts.{AreExtensions, IsAtComma, IsAttribute, behind_commas}
use Rattle.scram_text.specs.declared.attribute.Attribute.TheVariants.{Name as NamePart, Nonce as NoncePart, Extension as ExtensionPart}
use Rattle.scram_text.specs.declared.flag.Flag.TheVariants.{N}
use Rattle.auth_grammar.specs.declared.plain.TheConstants.{NAME_LIMIT}
use Rattle.scram_text.specs.declared.limits.TheConstants.{BARE_LIMIT, NONCE_LIMIT}
use Rattle.scram_text.proofs.AttributeLaws.{content_whole, attribute_whole}
use Rattle.scram_text.proofs.ExtensionLaws.{at_comma}
use Rattle.scram_text.proofs.NameBytes.{Written, written, comma, equals, itself}
use Rattle.scram_text.proofs.PartLaws.{no_comma}

-- ---- tests

both : (a b : Bool) → (a && b) ≡ true → (a ≡ true) × (b ≡ true)
both true b e = (refl, e)
both false b e = absurd (true≢false (sym e))

all_true : (a b : Bool) → a ≡ true → b ≡ true → (a && b) ≡ true
all_true a b p q = rw (p, q) refl

other_byte : (a b : ℕ) → a ≢ b → (a == b) ≡ false
other_byte a b e = grind (arith, nat_tests)

same_byte : (a b : ℕ) → (a == b) ≡ true → a ≡ b
same_byte a b e = grind (arith, nat_tests)

tail_of : {x y : ℕ} {s t : List ℕ} → x ∷ s ≡ y ∷ t → s ≡ t
tail_of same = cc

head_of : {x y : ℕ} {s t : List ℕ} → x ∷ s ≡ y ∷ t → x ≡ y
head_of same = cc

-- ---- up to a comma

up_to : (front rest : List ℕ) → HasNoComma front → IsAtComma rest → before_comma (front ++ rest) ≡ front
up_to [] [] whole at = refl
up_to [] (b ∷ rest) whole at = (let is : (b == 44) ≡ true = rw at refl in ap (λ (t : Bool). if t then [] else b ∷ before_comma rest) is)
up_to (b ∷ front) rest whole at =
    let apart = no_comma b front whole in
    ap (λ (t : Bool). if t then [] else b ∷ before_comma (front ++ rest)) (other_byte b 44 apart.0) ∙ ap (λ (l : List ℕ). b ∷ l) (up_to front rest apart.1 at)

past : (front rest : List ℕ) → drop (length front) (front ++ rest) ≡ rest
past [] rest = refl
past (b ∷ front) rest = past front rest

-- ---- names

name_back_one : (c : ℕ) (rest : List ℕ) → name_from 0 (escape c ++ rest) ≡ c ∷ name_from 0 rest
name_back_one c rest = elim (written c) [
  | comma is e ↦ ap (λ (l : List ℕ). name_from 0 (l ++ rest)) e ∙ ap (λ (n : ℕ). n ∷ name_from 0 rest) (sym is)
  | equals is e ↦ ap (λ (l : List ℕ). name_from 0 (l ++ rest)) e ∙ ap (λ (n : ℕ). n ∷ name_from 0 rest) (sym is)
  | itself n m e ↦ ap (λ (l : List ℕ). name_from 0 (l ++ rest)) e ∙ ap (λ (t : Bool). if t then escaped_byte rest ∷ name_from 2 rest else c ∷ name_from 0 rest) (other_byte c 61 m)
]

name_back : (name : List ℕ) → name_from 0 (escaped name) ≡ name
name_back [] = refl
name_back (c ∷ name) = name_back_one c (escaped name) ∙ ap (λ (l : List ℕ). c ∷ l) (name_back name)

-- ---- extensions

all_apart : (text : List ℕ) → HasNoComma text → All (λ b. (b == 44) ≡ false) text
all_apart [] whole = All-nil (λ b. (b == 44) ≡ false)
all_apart (b ∷ text) whole =
    let apart = no_comma b text whole in
    All-cons (λ b. (b == 44) ≡ false) b text (other_byte b 44 apart.0) (all_apart text apart.1)

split_parts : (part : List ℕ) (parts : List (List ℕ)) → IsAttribute ExtensionPart part → AllByRecursion (IsAttribute ExtensionPart) parts
    → slice_split (λ b. b == 44) (part ++ behind_commas parts) ≡ part ∷ parts
split_parts part [] is each =
    ap (slice_split (λ b. b == 44)) (append-nil part) ∙ slice_split_none (λ b. b == 44) part (all_apart part (attribute_whole ExtensionPart part is))
split_parts part (next ∷ parts) is each =
    slice_split_at (λ b. b == 44) part 44 (next ++ behind_commas parts) (all_apart part (attribute_whole ExtensionPart part is)) refl
    ∙ ap (λ (l : List (List ℕ)). part ∷ l) (split_parts next parts each.0 each.1)

is_one : (part : List ℕ) → IsAttribute ExtensionPart part → is_extension part ≡ true
is_one part is =
    let more = is.follows in
    let cut : part ≡ is.first ∷ more.first ∷ more.more = is.cut ∙ ap (λ (l : List ℕ). is.first ∷ l) more.cut in
    ap is_extension cut ∙ all_true (is_letter is.first && (more.first == 61)) (some_of is_value_byte more.more) (all_true (is_letter is.first) (more.first == 61) is.leads more.leads) more.follows

are_all : (parts : List (List ℕ)) → AllByRecursion (IsAttribute ExtensionPart) parts → list_all is_extension parts ≡ true
are_all [] each = refl
are_all (part ∷ parts) each = all_true (is_extension part) (list_all is_extension parts) (is_one part each.0) (are_all parts each.1)

extensions_pass : (text : List ℕ) (parts : List (List ℕ)) → text ≡ behind_commas parts → AllByRecursion (IsAttribute ExtensionPart) parts → are_extensions text ≡ true
extensions_pass text [] cut each = ap are_extensions cut
extensions_pass text (part ∷ parts) cut each =
    ap are_extensions cut ∙ ap (λ (l : List (List ℕ)). list_all is_extension l) (split_parts part parts each.0 each.1) ∙ are_all (part ∷ parts) each

one_is : (part : List ℕ) → is_extension part ≡ true → IsAttribute ExtensionPart part
one_is [] e = absurd (true≢false (sym e))
one_is (letter ∷ []) e = absurd (true≢false (sym e))
one_is (letter ∷ sign ∷ value) e =
    let outer = both (is_letter letter && (sign == 61)) (some_of is_value_byte value) e in
    let inner = both (is_letter letter) (sign == 61) outer.0 in
    record { first = letter; more = sign ∷ value; cut = refl; leads = inner.0; follows = record { first = sign; more = value; cut = refl; leads = inner.1; follows = outer.1 } }

all_are : (parts : List (List ℕ)) → list_all is_extension parts ≡ true → AllByRecursion (IsAttribute ExtensionPart) parts
all_are [] e = tt
all_are (part ∷ parts) e = (let each = both (is_extension part) (list_all is_extension parts) e in (one_is part each.0, all_are parts each.1))

joined : (part : List ℕ) (parts : List (List ℕ)) → 44 ∷ join_with_byte 44 (part ∷ parts) ≡ behind_commas (part ∷ parts)
joined part [] = ap (λ (l : List ℕ). 44 ∷ l) (sym (append-nil part))
joined part (next ∷ parts) = ap (λ (l : List ℕ). 44 ∷ (part ++ l)) (joined next parts)

passed_are : (text : List ℕ) → are_extensions text ≡ true → AreExtensions text
passed_are [] e = record { parts = []; cut = refl; each = tt }
passed_are (b ∷ text) e =
    let outer = both (b == 44) (list_all is_extension (slice_split (λ b. b == 44) text)) e in
    by (slice_split (λ b. b == 44) text) (some text) (join_with_byte-slice_split 44 text) outer.1 (same_byte b 44 outer.0)
  where
    some : (l : List ℕ) → 0 < length (slice_split (λ b. b == 44) l)
    some l = (let e = length-slice_split (λ b. b == 44) l in omega (arith, e))

    by : (parts : List (List ℕ)) → 0 < length parts → join_with_byte 44 parts ≡ text → list_all is_extension parts ≡ true → b ≡ 44 → AreExtensions (b ∷ text)
    by [] count whole passed is = absurd (omega (arith, count))
    by (part ∷ parts) count whole passed is = record {
      parts = part ∷ parts;
      cut = ap (λ (n : ℕ). n ∷ text) is ∙ ap (λ (l : List ℕ). 44 ∷ l) (sym whole) ∙ joined part parts;
      each = all_are (part ∷ parts) passed;
    }

-- ---- the parts of bare

parts_same : (bare name nonce rest : List ℕ) → bare ≡ 110 ∷ 61 ∷ (escaped name ++ 44 ∷ 114 ∷ 61 ∷ (nonce ++ rest)) → HasNoComma (escaped name) → HasNoComma nonce → IsAtComma rest
    → (parts_in bare ≡ record { name = name; nonce = nonce }) × (rest_in bare ≡ rest)
parts_same bare name nonce rest cut named plain at =
    let written : written_in bare ≡ escaped name = ap written_in cut ∙ up_to (escaped name) (44 ∷ 114 ∷ 61 ∷ (nonce ++ rest)) named refl in
    let behind : behind_name bare ≡ nonce ++ rest =
    ap (λ (l : List ℕ). drop 3 (drop (length l) (drop 2 bare))) written
    ∙ ap (λ (l : List ℕ). drop 3 (drop (length (escaped name)) (drop 2 l))) cut
    ∙ ap (drop 3) (past (escaped name) (44 ∷ 114 ∷ 61 ∷ (nonce ++ rest))) in
    let nonce_is : before_comma (behind_name bare) ≡ nonce = ap before_comma behind ∙ up_to nonce rest plain at in
    let name_is : name_from 0 (written_in bare) ≡ name = ap (name_from 0) written ∙ name_back name in (
      made (name_from 0 (written_in bare)) name (before_comma (behind_name bare)) nonce name_is nonce_is,
      ap (λ (l : List ℕ). drop (length l) (behind_name bare)) nonce_is ∙ ap (drop (length nonce)) behind ∙ past nonce rest,
    )
  where
    made : (a b x y : List ℕ) → a ≡ b → x ≡ y → let p : BareParts = record { name = a; nonce = x } in let q : BareParts = record { name = b; nonce = y } in p ≡ q
    made a b x y p q = cc

-- what a client-first that is taken has behind its flag
pub bare_read : (bare : List ℕ) (parts : FirstParts) → SpellsClientFirst (110 ∷ 44 ∷ 44 ∷ bare) parts → IsShort parts → first_behind bare ≡ Some (first_of bare (record { name = parts.name; nonce = parts.nonce }))
unfolding first_behind
bare_read bare parts spells short =
    let x : BareParts = record { name = parts.name; nonce = parts.nonce } in
    let rest = spells.is_bare.extensions in
    let extensions = spells.is_bare.are_extensions in
    let same : bare ≡ parts.bare = tail_of (tail_of (tail_of spells.cut)) in
    let is_name = spells.is_name in
    let W : List ℕ → Type 0 = λ w. HasNoComma w in
    let cut : bare ≡ bare_of x rest = same ∙ spells.is_bare.cut ∙ ap (λ (w : List ℕ). 110 ∷ 61 ∷ (w ++ 44 ∷ 114 ∷ 61 ∷ (parts.nonce ++ rest))) is_name.written in
    let is = parts_same bare parts.name parts.nonce rest cut (subst W is_name.written (content_whole NamePart spells.written (parts.name, is_name))) (content_whole NoncePart parts.nonce spells.is_bare.is_nonce) (at_comma rest extensions) in
    let right : is_bare_of bare x rest ≡ true =
    all_true (bytes_eq bare (bare_of x rest) && are_extensions rest && some_of is_printable x.name) (some_of is_nonce_byte x.nonce)
    (all_true (bytes_eq bare (bare_of x rest) && are_extensions rest) (some_of is_printable x.name)
    (all_true (bytes_eq bare (bare_of x rest)) (are_extensions rest) ((bytes_eq-Decides bare (bare_of x rest)).1 cut) (extensions_pass rest extensions.parts extensions.cut extensions.each))
    is_name.plain) spells.is_bare.is_nonce in
    let fits : are_short bare x ≡ true = short_test bare x (subst (λ (l : List ℕ). length l ≤ BARE_LIMIT) (sym same) short.bare) short.name short.nonce in
    let test : is_bare_of bare (parts_in bare) (rest_in bare) && are_short bare (parts_in bare) ≡ true =
    ap (λ (p : BareParts). is_bare_of bare p (rest_in bare) && are_short bare p) is.0
    ∙ ap (λ (l : List ℕ). is_bare_of bare x l && are_short bare x) is.1
    ∙ all_true (is_bare_of bare x rest) (are_short bare x) right fits in
    ap (λ (t : Bool). if t then Some (first_of bare (parts_in bare)) else None) test ∙ ap (λ (p : BareParts). Some (first_of bare p)) is.0
  where
    short_test : (text : List ℕ) (p : BareParts) → length text ≤ BARE_LIMIT → length p.name ≤ NAME_LIMIT → length p.nonce ≤ NONCE_LIMIT → are_short text p ≡ true
    short_test text p a b c = grind (arith, nat_tests)

-- a client-first that is taken has this behind its flag n
abbrev pub Told : List ℕ → FirstParts → Type 0
Told bare first = SpellsClientFirst (110 ∷ 44 ∷ 44 ∷ bare) first × IsShort first

at_most : (n limit : ℕ) → nat_le n limit ≡ true → n ≤ limit
at_most n limit e = grind (arith, nat_tests)

told_by : (bare : List ℕ) (x : BareParts) (rest : List ℕ) → is_bare_of bare x rest && are_short bare x ≡ true → Told bare (first_of bare x)
told_by bare x rest is =
    let two = both (is_bare_of bare x rest) (are_short bare x) is in
    let a = both (bytes_eq bare (bare_of x rest) && are_extensions rest && some_of is_printable x.name) (some_of is_nonce_byte x.nonce) two.0 in
    let b = both (bytes_eq bare (bare_of x rest) && are_extensions rest) (some_of is_printable x.name) a.0 in
    let c = both (bytes_eq bare (bare_of x rest)) (are_extensions rest) b.0 in
    let s = both (nat_le (length bare) BARE_LIMIT && nat_le (length x.name) NAME_LIMIT) (nat_le (length x.nonce) NONCE_LIMIT) two.1 in
    let t = both (nat_le (length bare) BARE_LIMIT) (nat_le (length x.name) NAME_LIMIT) s.0 in (
      record {
        written = escaped x.name;
        cut = refl;
        is_bare = record { extensions = rest; cut = (bytes_eq-Decides bare (bare_of x rest)).0 c.0; is_nonce = a.1; are_extensions = passed_are rest c.1 };
        is_name = record { plain = b.1; written = refl };
      },
      record { bare = at_most (length bare) BARE_LIMIT t.0; name = at_most (length x.name) NAME_LIMIT t.1; nonce = at_most (length x.nonce) NONCE_LIMIT s.1 },
    )

-- and where there is none
pub bare_unread : (bare : List ℕ) → ((first : FirstParts) → SpellsClientFirst (110 ∷ 44 ∷ 44 ∷ bare) first → IsShort first → ⊥) → first_behind bare ≡ None
unfolding first_behind
bare_unread bare none = by (is_bare_of bare (parts_in bare) (rest_in bare) && are_short bare (parts_in bare)) refl
  where
    by : (t : Bool) → is_bare_of bare (parts_in bare) (rest_in bare) && are_short bare (parts_in bare) ≡ t → (if t then Some (first_of bare (parts_in bare)) else None) ≡ None
    by false is = refl
    by true is = (let told = told_by bare (parts_in bare) (rest_in bare) is in absurd (none (first_of bare (parts_in bare)) told.0 told.1))

-- where it says something there is such a client-first
pub bare_told : (bare : List ℕ) (first : FirstParts) → first_behind bare ≡ Some first → Told bare first
unfolding first_behind
bare_told bare first = by (is_bare_of bare (parts_in bare) (rest_in bare) && are_short bare (parts_in bare)) refl
  where
    by : (t : Bool) → is_bare_of bare (parts_in bare) (rest_in bare) && are_short bare (parts_in bare) ≡ t → (if t then Some (first_of bare (parts_in bare)) else None) ≡ Some first → Told bare first
    by false is e = absurd (let no : ◌≡◌ {A = Option FirstParts} None (Some first) = e in cc)
    by true is e =
        let one : Some (first_of bare (parts_in bare)) ≡ Some first = e in
        let same : first_of bare (parts_in bare) ≡ first = cc in
        subst (λ (p : FirstParts). Told bare p) same (told_by bare (parts_in bare) (rest_in bare) is)
