-- A text of spaces is read in one way.
use Rattle.std.proofs.Common.{◌≡◌, ◌≢◌, ◌==◌, ◌<◌, ◌+◌, ◌⊎◌, ℕ, true, List, [], ◌∷◌, ◌++◌, Ok, Err, length, map, refl, sym, ap, ◌∙◌, subst, true≢false, arith, inl, inr, append_assoc, length-append}
use Rattle.std.specs.List.{flat_map, list_any}
use Rattle.std.proofs.lemmas.List.{append-nil, append_cancel_left}
use Rattle.spaces_map.specs.Follows.{EachFits}
use Rattle.spaces_map.specs.Kinds.{IsOffers, kinds_text, offer_text}
use Rattle.spaces_map.specs.Lines.{IsAsked, IsLine, IsTerms, asked_text, line_text, mode_name, terms_text}
use Rattle.spaces_map.specs.Outcomes.{IsOutcome, ReadsOneWay}
use Rattle.spaces_map.specs.Texts.{HasNoHeader, IsBadLine, IsNoSpace, IsSamePrefix, IsSpaces, MayFollow, Reaches, has_prefix, header, number_of, space_line, spaces_text}
use Rattle.spaces_map.specs.declared.error.SpacesError.TheVariants.{BadLine, SamePrefix, OutOfMemory}
use Rattle.spaces_map.specs.declared.space.Mode.{Mode}
use Rattle.spaces_map.specs.declared.space.Mode.TheVariants.{Open, Optional, Required}
use Rattle.spaces_map.specs.declared.space.Offer.{Offer}
use Rattle.spaces_map.specs.declared.space.Space.{Space}
use Rattle.spaces_map.proofs.Cuts.{cut_once, no_byte}
use Rattle.spaces_map.proofs.Follows.{fits_at}
use Rattle.spaces_map.proofs.LineTexts.{mode_lacks, one_line, prefix_lacks}
use Rattle.spaces_map.proofs.OfferTexts.{kinds_lack, kinds_parts, one_offer, parts_of}
use Rattle.spaces_map.proofs.SpaceTexts.{line_first, not_nil}

-- ---- a line has one space

first_is : (x y : List ℕ) (xs ys : List (List ℕ)) → x ∷ xs ≡ y ∷ ys → x ≡ y
first_is x y xs ys e = cc

others_are : (x y : List ℕ) (xs ys : List (List ℕ)) → x ∷ xs ≡ y ∷ ys → xs ≡ ys
others_are x y xs ys e = cc

same_offers : (os ps : List Offer) → map offer_text os ≡ map offer_text ps → os ≡ ps
same_offers [] [] e = refl
same_offers [] (p ∷ ps) e = absurd (cc)
same_offers (o ∷ os) [] e = absurd (cc)
same_offers (o ∷ os) (p ∷ ps) e =
    ap (λ (x : Offer). x ∷ os) (one_offer o p (first_is (offer_text o) (offer_text p) (map offer_text os) (map offer_text ps) e))
    ∙ ap (λ (l : List Offer). p ∷ l) (same_offers os ps (others_are (offer_text o) (offer_text p) (map offer_text os) (map offer_text ps) e))

same_kinds : (os ps : List Offer) → IsOffers os → IsOffers ps → kinds_text os ≡ kinds_text ps → os ≡ ps
same_kinds os ps a b e = same_offers os ps (sym (kinds_parts os a.some) ∙ ap parts_of e ∙ kinds_parts ps b.some)

same_asked : (m n : Mode) (os ps : List Offer) (r q : List ℕ) → IsAsked os r → IsAsked ps q → asked_text m os r ≡ asked_text n ps q →
    (mode_name m ≡ mode_name n) × (os ≡ ps) × (r ≡ q)
same_asked m n os ps r q a b e =
    let one = cut_once 32 (mode_name m) (kinds_text os ++ 32 ∷ r) (mode_name n) (kinds_text ps ++ 32 ∷ q) (mode_lacks m) (mode_lacks n) e in
    let two = cut_once 32 (kinds_text os) r (kinds_text ps) q (kinds_lack 32 refl refl os) (kinds_lack 32 refl refl ps) one.1 in
    (one.0, same_kinds os ps a.kinds b.kinds two.0, two.1)

open_alone : (m : Mode) (os : List Offer) (r : List ℕ) → mode_name Open ≢ asked_text m os r
open_alone m os r e = no_byte 32 (mode_name Open) (mode_name m) (kinds_text os ++ 32 ∷ r) refl e

-- only one of the two names has an `o`
other_names : mode_name Optional ≢ mode_name Required
other_names e = true≢false (ap (λ (l : List ℕ). list_any (λ b. b == 111) l) e)

same_terms : (m n : Mode) (os ps : List Offer) (r q : List ℕ) → IsTerms m os r → IsTerms n ps q → terms_text m os r ≡ terms_text n ps q → (m ≡ n) × (os ≡ ps) × (r ≡ q)
same_terms Open Open os ps r q a b e = (refl, a.no_offer ∙ sym b.no_offer, a.no_realm ∙ sym b.no_realm)
same_terms Open Optional os ps r q a b e = absurd (open_alone Optional ps q e)
same_terms Open Required os ps r q a b e = absurd (open_alone Required ps q e)
same_terms Optional Open os ps r q a b e = absurd (open_alone Optional os r (sym e))
same_terms Required Open os ps r q a b e = absurd (open_alone Required os r (sym e))
same_terms Optional Optional os ps r q a b e = let same = same_asked Optional Optional os ps r q a b e in (refl, same.1, same.2)
same_terms Required Required os ps r q a b e = let same = same_asked Required Required os ps r q a b e in (refl, same.1, same.2)
same_terms Optional Required os ps r q a b e = absurd (other_names (same_asked Optional Required os ps r q a b e).0)
same_terms Required Optional os ps r q a b e = absurd (other_names (sym (same_asked Required Optional os ps r q a b e).0))

space_is : (p q : List ℕ) (m n : Mode) (os ps : List Offer) (r u : List ℕ) (i j : ℕ) → p ≡ q → m ≡ n → os ≡ ps → r ≡ u → i ≡ j →
    let a : Space = record { prefix = p; mode = m; offers = os; realm = r; number = i } in let b : Space = record { prefix = q; mode = n; offers = ps; realm = u; number = j } in a ≡ b
space_is p q m n os ps r u i j e f g h k = cc

same_prefix : (s t : Space) → IsLine s → IsLine t → line_text s ≡ line_text t → (s.prefix ≡ t.prefix) × (terms_text s.mode s.offers s.realm ≡ terms_text t.mode t.offers t.realm)
same_prefix s t a b e =
    cut_once 32 s.prefix (terms_text s.mode s.offers s.realm) t.prefix (terms_text t.mode t.offers t.realm) (prefix_lacks 32 refl refl s.prefix a.prefix) (prefix_lacks 32 refl refl t.prefix b.prefix) e

same_space : (before : List Space) (s t : Space) → MayFollow before s → MayFollow before t → line_text s ≡ line_text t → s ≡ t
same_space before s t a b e =
    let parts = same_prefix s t a.line b.line e in
    let terms = same_terms s.mode t.mode s.offers t.offers s.realm t.realm a.line.terms b.line.terms parts.1 in
    let number : s.number ≡ t.number =
    a.number ∙ ap (λ (m : Mode). number_of before m s.realm) terms.0 ∙ ap (λ (r : List ℕ). number_of before t.mode r) terms.2 ∙ sym b.number in
    space_is s.prefix t.prefix s.mode t.mode s.offers t.offers s.realm t.realm s.number t.number parts.0 terms.0 terms.1 terms.2 number

same_line : (s t : Space) (r q : List ℕ) → IsLine s → IsLine t → space_line s ++ r ≡ space_line t ++ q → (line_text s ≡ line_text t) × (r ≡ q)
same_line s t r q a b e = cut_once 10 (line_text s) r (line_text t) q (one_line s a) (one_line t b) (sym (line_first s r) ∙ e ∙ line_first t q)

-- ---- two lists of spaces whose texts begin one text

abbrev lines : List Space → List ℕ
lines spaces = flat_map space_line spaces

-- one of them goes on where the other ends
abbrev GoesOn : List Space → List Space → List ℕ → List ℕ → Type 0
GoesOn xs ys r q = (more : List Space) × (ys ≡ xs ++ more) × (r ≡ lines more ++ q)

either_goes_on : (before xs ys : List Space) (r q : List ℕ) → EachFits MayFollow before xs → EachFits MayFollow before ys → lines xs ++ r ≡ lines ys ++ q →
    GoesOn xs ys r q ⊎ GoesOn ys xs q r
either_goes_on before [] ys r q a b e = inl (ys, refl, e)
either_goes_on before (x ∷ xs) [] r q a b e = inr (x ∷ xs, refl, sym e)
either_goes_on before (x ∷ xs) (y ∷ ys) r q a b e =
    let cut = same_line x y (lines xs ++ r) (lines ys ++ q) a.0.line b.0.line (sym (append_assoc (space_line x) (lines xs) r) ∙ e ∙ append_assoc (space_line y) (lines ys) q) in
    let same : x ≡ y = same_space before x y a.0 b.0 cut.0 in
    let P : Space → Type 0 = λ s. EachFits MayFollow (before ++ s ∷ []) ys in
    elim (either_goes_on (before ++ x ∷ []) xs ys r q a.1 (subst P (sym same) b.1) cut.1) [
      | inl h ↦ inl (h.0, ap (λ (s : Space). s ∷ ys) (sym same) ∙ ap (λ (l : List Space). x ∷ l) h.1, h.2)
      | inr h ↦ inr (h.0, ap (λ (s : Space). s ∷ xs) same ∙ ap (λ (l : List Space). y ∷ l) h.1, h.2)
    ]

-- no space goes on here
abbrev Halts : List Space → List ℕ → Type 0
Halts before rest = (s : Space) (more : List Space) (q : List ℕ) → IsSpaces (before ++ s ∷ more) → rest ≢ lines (s ∷ more) ++ q

record Stop (text : List ℕ) (before : List Space) (rest : List ℕ) : Type 0 where
  spaces : IsSpaces before
  is : text ≡ spaces_text before ++ rest
  halts : Halts before rest

halts_there : (xs ys : List Space) (r q : List ℕ) → IsSpaces ys → Halts xs r → GoesOn xs ys r q → (xs ≡ ys) × (r ≡ q)
halts_there xs ys r q form halts ([], is, rest) = (sym (append-nil xs) ∙ sym is, rest)
halts_there xs ys r q form halts (s ∷ more, is, rest) = absurd (halts s more q (let P : List Space → Type 0 = λ l. IsSpaces l in subst P is form) rest)

same_stop : (text : List ℕ) (xs ys : List Space) (r q : List ℕ) → Stop text xs r → Stop text ys q → (xs ≡ ys) × (r ≡ q)
same_stop text xs ys r q a b =
    let behind : lines xs ++ r ≡ lines ys ++ q =
    append_cancel_left header (lines xs ++ r) (lines ys ++ q) (sym (append_assoc header (lines xs) r) ∙ sym a.is ∙ b.is ∙ append_assoc header (lines ys) q) in
    elim (either_goes_on [] xs ys r q a.spaces.each b.spaces.each behind) [
      | inl h ↦ halts_there xs ys r q b.spaces a.halts h
      | inr h ↦ let back = halts_there ys xs q r a.spaces b.halts h in (sym back.0, sym back.1)
    ]

-- ---- where each outcome stops

line_behind : (s : Space) (more : List Space) (q : List ℕ) → lines (s ∷ more) ++ q ≡ space_line s ++ (lines more ++ q)
line_behind s more q = append_assoc (space_line s) (lines more) q

no_line_left : (s : Space) (rest : List ℕ) → [] ≢ space_line s ++ rest
no_line_left s rest e = not_nil (line_text s) rest (sym (line_first s rest) ∙ sym e)

at_end : (before : List Space) → Halts before []
at_end before s more q form is = no_line_left s (lines more ++ q) (is ∙ line_behind s more q)

follows : (before : List Space) (s : Space) (more : List Space) → IsSpaces (before ++ s ∷ more) → MayFollow before s
follows before s more form = fits_at MayFollow [] before s more form.each

at_no_space : (before : List Space) (rest : List ℕ) → IsNoSpace before rest → Halts before rest
at_no_space before rest (inl full) s more q form is = let count = length-append before (s ∷ more) in let few = form.few in absurd (omega arith)
at_no_space before rest (inr none) s more q form is = none s (follows before s more form).line (lines more ++ q) (is ∙ line_behind s more q)

at_same_prefix : (before : List Space) (space : Space) (behind : List ℕ) → IsLine space → has_prefix space.prefix before ≡ true → Halts before (space_line space ++ behind)
at_same_prefix before space behind line again s more q form is =
    let may = follows before s more form in
    let same = same_line space s behind (lines more ++ q) line may.line (is ∙ line_behind s more q) in
    true≢false (sym again ∙ ap (λ (p : List ℕ). has_prefix p before) (same_prefix space s line may.line same.0).0 ∙ may.prefix)

stop_ok : (text : List ℕ) (spaces : List Space) → IsOutcome text (Ok spaces) → Stop text spaces []
stop_ok text spaces out = record { spaces = out.0; is = out.1 ∙ sym (append-nil (spaces_text spaces)); halts = at_end spaces }

stop_bad : (text : List ℕ) (line : ℕ) (before : List Space) (rest : List ℕ) → Reaches text line before rest → IsNoSpace before rest → Stop text before rest
stop_bad text line before rest reaches none = record { spaces = reaches.spaces; is = reaches.is; halts = at_no_space before rest none }

stop_same : (text : List ℕ) (line : ℕ) (out : IsSamePrefix text line) → Stop text out.0 (space_line out.1 ++ out.2)
stop_same text line out = record { spaces = out.3.spaces; is = out.3.is; halts = at_same_prefix out.0 out.1 out.2 out.5 out.6 }

has_header : (text : List ℕ) (before : List Space) (rest : List ℕ) → HasNoHeader text → text ≡ spaces_text before ++ rest → ⊥
has_header text before rest none is = none (lines before ++ rest) (is ∙ append_assoc header (lines before) rest)

-- ---- no two of them

ok_bad : (text : List ℕ) (spaces : List Space) (line : ℕ) → IsOutcome text (Ok spaces) → IsBadLine text line → ⊥
ok_bad text spaces line ok (inl bad) = has_header text spaces [] bad.1 (stop_ok text spaces ok).is
ok_bad text spaces line ok (inr bad) = bad.3 (sym (same_stop text spaces bad.0 [] bad.1 (stop_ok text spaces ok) (stop_bad text line bad.0 bad.1 bad.2 bad.4)).1)

ok_same : (text : List ℕ) (spaces : List Space) (line : ℕ) → IsOutcome text (Ok spaces) → IsSamePrefix text line → ⊥
ok_same text spaces line ok same =
    no_line_left same.1 same.2 (same_stop text spaces same.0 [] (space_line same.1 ++ same.2) (stop_ok text spaces ok) (stop_same text line same)).1

not_both : (before : List Space) (rest : List ℕ) (space : Space) (more : List ℕ) → IsNoSpace before rest → length before < 256 → IsLine space → rest ≢ space_line space ++ more
not_both before rest space more (inl full) room line is = absurd (omega arith)
not_both before rest space more (inr none) room line is = none space line more is

bad_same : (text : List ℕ) (line other : ℕ) → IsBadLine text line → IsSamePrefix text other → ⊥
bad_same text line other (inl bad) same = has_header text same.0 (space_line same.1 ++ same.2) bad.1 same.3.is
bad_same text line other (inr bad) same =
    let one = same_stop text bad.0 same.0 bad.1 (space_line same.1 ++ same.2) (stop_bad text line bad.0 bad.1 bad.2 bad.4) (stop_same text other same) in
    let room : length bad.0 < 256 = let P : List Space → Type 0 = λ l. length l < 256 in subst P (sym one.0) same.4 in
    not_both bad.0 bad.1 same.1 same.2 bad.4 room same.5 one.1

one_number : (line other : ℕ) (before behind : List Space) → line ≡ length before + 2 → other ≡ length behind + 2 → before ≡ behind → line ≡ other
one_number line other before behind a b same = a ∙ ap (λ (l : List Space). length l + 2) same ∙ sym b

bad_bad : (text : List ℕ) (line other : ℕ) → IsBadLine text line → IsBadLine text other → line ≡ other
bad_bad text line other (inl a) (inl b) = a.0 ∙ sym b.0
bad_bad text line other (inl a) (inr b) = absurd (has_header text b.0 b.1 a.1 b.2.is)
bad_bad text line other (inr a) (inl b) = absurd (has_header text a.0 a.1 b.1 a.2.is)
bad_bad text line other (inr a) (inr b) =
    one_number line other a.0 b.0 a.2.at b.2.at (same_stop text a.0 b.0 a.1 b.1 (stop_bad text line a.0 a.1 a.2 a.4) (stop_bad text other b.0 b.1 b.2 b.4)).0

same_same : (text : List ℕ) (line other : ℕ) → IsSamePrefix text line → IsSamePrefix text other → line ≡ other
same_same text line other a b =
    one_number line other a.0 b.0 a.3.at b.3.at (same_stop text a.0 b.0 (space_line a.1 ++ a.2) (space_line b.1 ++ b.2) (stop_same text line a) (stop_same text other b)).0

pub one_way : ReadsOneWay
one_way text (Ok a) (Ok b) p q = ap (λ (l : List Space). Ok l) (same_stop text a b [] [] (stop_ok text a p) (stop_ok text b q)).0
one_way text (Ok a) (Err (BadLine line)) p q = absurd (ok_bad text a line p q)
one_way text (Ok a) (Err (SamePrefix line)) p q = absurd (ok_same text a line p q)
one_way text (Ok a) (Err OutOfMemory) p q = absurd q
one_way text (Err (BadLine line)) (Ok b) p q = absurd (ok_bad text b line q p)
one_way text (Err (BadLine line)) (Err (BadLine other)) p q = ap (λ (n : ℕ). Err (BadLine n)) (bad_bad text line other p q)
one_way text (Err (BadLine line)) (Err (SamePrefix other)) p q = absurd (bad_same text line other p q)
one_way text (Err (BadLine line)) (Err OutOfMemory) p q = absurd q
one_way text (Err (SamePrefix line)) (Ok b) p q = absurd (ok_same text b line q p)
one_way text (Err (SamePrefix line)) (Err (BadLine other)) p q = absurd (bad_same text other line q p)
one_way text (Err (SamePrefix line)) (Err (SamePrefix other)) p q = ap (λ (n : ℕ). Err (SamePrefix n)) (same_same text line other p q)
one_way text (Err (SamePrefix line)) (Err OutOfMemory) p q = absurd q
one_way text (Err OutOfMemory) b p q = absurd p
