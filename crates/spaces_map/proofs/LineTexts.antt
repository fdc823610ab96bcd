-- A line is that of one space.
use Rattle.std.proofs.Common.{◌≡◌, ◌≢◌, ◌==◌, ℕ, Bool, true, false, ◌&&◌, ◌||◌, not, nat_le, List, [], ◌∷◌, ◌++◌, length, refl, sym, ap, ◌∙◌, true≢false}
use Rattle.std.proofs.lemmas.Slice.Eq.{bytes_eq-Decides}
use Rattle.std.specs.Prelude.{nat_eq, bytes_eq}
use Rattle.std.specs.List.{list_any, starts_with, ends_with}
use Rattle.auth_grammar.specs.Plain.{is_plain_byte, is_plain_name}
use Rattle.spaces_map.specs.Kinds.{IsOffers, kinds_text}
use Rattle.spaces_map.specs.LineFaults.{IsNoLine}
use Rattle.spaces_map.specs.Lines.{IsAsked, IsLine, IsTerms, asked_text, is_prefix, is_visible, line_text, mode_name, terms_text}
use Rattle.spaces_map.specs.declared.space.Mode.{Mode}
use Rattle.spaces_map.specs.declared.space.Mode.TheVariants.{Open, Optional, Required}
use Rattle.spaces_map.specs.declared.space.Offer.{Offer}
use Rattle.spaces_map.specs.declared.space.Space.{Space}
use Rattle.spaces_map.proofs.Cuts.{Lacks, both_second, cut_once, no_byte, lacks_by, lacks_append, lacks_cons}
use Rattle.spaces_map.proofs.OfferTexts.{kinds_lack}

-- ---- which bytes stand where

either : (a b : Bool) → a || b ≡ true → a ≡ false → b ≡ true
either true b e p = absurd (true≢false p)
either false b e p = e

slash_lacks : (d : ℕ) → (47 == d) ≡ false → (prefix : List ℕ) → bytes_eq prefix (47 ∷ []) ≡ true → Lacks d prefix
slash_lacks d other prefix is =
    ap (λ (l : List ℕ). list_any (λ b. b == d) l) ((bytes_eq-Decides prefix (47 ∷ [])).0 is) ∙ lacks_cons d 47 [] other refl

pub prefix_lacks : (d : ℕ) → is_visible d ≡ false → (47 == d) ≡ false → (prefix : List ℕ) → is_prefix prefix ≡ true → Lacks d prefix
prefix_lacks d hidden other prefix is =
    elim (bytes_eq prefix (47 ∷ [])) as (λ v. bytes_eq prefix (47 ∷ []) ≡ v → Lacks d prefix) [
      | true ↦ λ e. slash_lacks d other prefix e
      | false ↦ λ e. lacks_by is_visible d hidden prefix
          (both_second (not (ends_with nat_eq prefix (47 ∷ []))) _ (both_second (starts_with nat_eq prefix (47 ∷ [])) _ (either (bytes_eq prefix (47 ∷ [])) _ is e)))
    ] refl

pub mode_lacks : (mode : Mode) → Lacks 32 (mode_name mode)
mode_lacks Open = refl
mode_lacks Optional = refl
mode_lacks Required = refl

mode_one_line : (mode : Mode) → Lacks 10 (mode_name mode)
mode_one_line Open = refl
mode_one_line Optional = refl
mode_one_line Required = refl

realm_one_line : (realm : List ℕ) → is_plain_name realm ≡ true → Lacks 10 realm
realm_one_line realm plain = lacks_by is_plain_byte 10 refl realm (both_second (nat_le 1 (length realm) && nat_le (length realm) 64) _ plain)

asked_one_line : (mode : Mode) (offers : List Offer) (realm : List ℕ) → IsAsked offers realm → Lacks 10 (asked_text mode offers realm)
asked_one_line mode offers realm asked =
    lacks_append 10 (mode_name mode) (32 ∷ (kinds_text offers ++ 32 ∷ realm)) (mode_one_line mode)
    (lacks_cons 10 32 (kinds_text offers ++ 32 ∷ realm) refl
    (lacks_append 10 (kinds_text offers) (32 ∷ realm) (kinds_lack 10 refl refl offers) (lacks_cons 10 32 realm refl (realm_one_line realm asked.plain))))

terms_one_line : (mode : Mode) (offers : List Offer) (realm : List ℕ) → IsTerms mode offers realm → Lacks 10 (terms_text mode offers realm)
terms_one_line Open offers realm terms = refl
terms_one_line Optional offers realm terms = asked_one_line Optional offers realm terms
terms_one_line Required offers realm terms = asked_one_line Required offers realm terms

-- a line has no line feed of its own
pub one_line : (space : Space) → IsLine space → Lacks 10 (line_text space)
one_line space line =
    lacks_append 10 space.prefix (32 ∷ terms_text space.mode space.offers space.realm) (prefix_lacks 10 refl refl space.prefix line.prefix)
    (lacks_cons 10 32 (terms_text space.mode space.offers space.realm) refl (terms_one_line space.mode space.offers space.realm line.terms))

-- ---- kinds and a realm

pub no_space_asked : (text : List ℕ) → Lacks 32 text → (offers : List Offer) (realm : List ℕ) → IsAsked offers realm → text ≢ kinds_text offers ++ 32 ∷ realm
no_space_asked text lacks offers realm asked is = no_byte 32 text (kinds_text offers) realm lacks is

asked_cut : (text kinds rest : List ℕ) → text ≡ kinds ++ 32 ∷ rest → Lacks 32 kinds → (offers : List Offer) (realm : List ℕ) → text ≡ kinds_text offers ++ 32 ∷ realm →
    (kinds ≡ kinds_text offers) × (rest ≡ realm)
asked_cut text kinds rest cut first offers realm is = cut_once 32 kinds rest (kinds_text offers) realm first (kinds_lack 32 refl refl offers) (sym cut ∙ is)

pub no_realm_asked : (text kinds rest : List ℕ) → text ≡ kinds ++ 32 ∷ rest → Lacks 32 kinds → is_plain_name rest ≡ false →
    (offers : List Offer) (realm : List ℕ) → IsAsked offers realm → text ≢ kinds_text offers ++ 32 ∷ realm
no_realm_asked text kinds rest cut first other offers realm asked is =
    true≢false (sym asked.plain ∙ ap is_plain_name (sym (asked_cut text kinds rest cut first offers realm is).1) ∙ other)

pub no_kinds_asked : (text kinds rest : List ℕ) → text ≡ kinds ++ 32 ∷ rest → Lacks 32 kinds → ((offers : List Offer) → IsOffers offers → kinds ≢ kinds_text offers) →
    (offers : List Offer) (realm : List ℕ) → IsAsked offers realm → text ≢ kinds_text offers ++ 32 ∷ realm
no_kinds_asked text kinds rest cut first none offers realm asked is = none offers asked.kinds (asked_cut text kinds rest cut first offers realm is).0

-- ---- terms

-- no space in the text: it isn't `none`
pub no_open : (text : List ℕ) → Lacks 32 text → text ≢ mode_name Open → (mode : Mode) (offers : List Offer) (realm : List ℕ) → IsTerms mode offers realm → text ≢ terms_text mode offers realm
no_open text lacks other Open offers realm terms is = other is
no_open text lacks other Optional offers realm terms is = no_byte 32 text (mode_name Optional) (kinds_text offers ++ 32 ∷ realm) lacks is
no_open text lacks other Required offers realm terms is = no_byte 32 text (mode_name Required) (kinds_text offers ++ 32 ∷ realm) lacks is

not_open : (text name rest : List ℕ) → text ≡ name ++ 32 ∷ rest → text ≢ mode_name Open
not_open text name rest cut is = no_byte 32 (mode_name Open) name rest refl (sym is ∙ cut)

mode_cut : (text name rest : List ℕ) → text ≡ name ++ 32 ∷ rest → Lacks 32 name → (mode : Mode) (offers : List Offer) (realm : List ℕ) → text ≡ asked_text mode offers realm →
    (name ≡ mode_name mode) × (rest ≡ kinds_text offers ++ 32 ∷ realm)
mode_cut text name rest cut first mode offers realm is =
    cut_once 32 name rest (mode_name mode) (kinds_text offers ++ 32 ∷ realm) first (mode_lacks mode) (sym cut ∙ is)

optional_asks : Optional ≢ Open
optional_asks e = cc

required_asks : Required ≢ Open
required_asks e = cc

-- another name than a mode's
pub no_mode : (text name rest : List ℕ) → text ≡ name ++ 32 ∷ rest → Lacks 32 name → ((mode : Mode) → mode ≢ Open → name ≢ mode_name mode) →
    (mode : Mode) (offers : List Offer) (realm : List ℕ) → IsTerms mode offers realm → text ≢ terms_text mode offers realm
no_mode text name rest cut first none Open offers realm terms is = not_open text name rest cut is
no_mode text name rest cut first none Optional offers realm terms is = none Optional optional_asks (mode_cut text name rest cut first Optional offers realm is).0
no_mode text name rest cut first none Required offers realm terms is = none Required required_asks (mode_cut text name rest cut first Required offers realm is).0

-- no kinds and realm behind the mode
pub no_asked : (text name rest : List ℕ) → text ≡ name ++ 32 ∷ rest → Lacks 32 name → ((offers : List Offer) (realm : List ℕ) → IsAsked offers realm → rest ≢ kinds_text offers ++ 32 ∷ realm) →
    (mode : Mode) (offers : List Offer) (realm : List ℕ) → IsTerms mode offers realm → text ≢ terms_text mode offers realm
no_asked text name rest cut first none Open offers realm terms is = not_open text name rest cut is
no_asked text name rest cut first none Optional offers realm terms is = none offers realm terms (mode_cut text name rest cut first Optional offers realm is).1
no_asked text name rest cut first none Required offers realm terms is = none offers realm terms (mode_cut text name rest cut first Required offers realm is).1

-- what is read is the mode's text
pub asked_read : (text name rest : List ℕ) (mode : Mode) (offers : List Offer) (realm : List ℕ) → text ≡ name ++ 32 ∷ rest → name ≡ mode_name mode → mode ≢ Open →
    rest ≡ kinds_text offers ++ 32 ∷ realm → text ≡ terms_text mode offers realm
asked_read text name rest Open offers realm cut named asks is = absurd (asks refl)
asked_read text name rest Optional offers realm cut named asks is = cut ∙ ap (λ (l : List ℕ). l ++ 32 ∷ rest) named ∙ ap (λ (l : List ℕ). mode_name Optional ++ 32 ∷ l) is
asked_read text name rest Required offers realm cut named asks is = cut ∙ ap (λ (l : List ℕ). l ++ 32 ∷ rest) named ∙ ap (λ (l : List ℕ). mode_name Required ++ 32 ∷ l) is

pub asked_form : (mode : Mode) (offers : List Offer) (realm : List ℕ) → mode ≢ Open → IsAsked offers realm → IsTerms mode offers realm
asked_form Open offers realm asks asked = absurd (asks refl)
asked_form Optional offers realm asks asked = asked
asked_form Required offers realm asks asked = asked

-- ---- lines

line_cut : (line prefix rest : List ℕ) → line ≡ prefix ++ 32 ∷ rest → Lacks 32 prefix → (space : Space) → IsLine space → line ≡ line_text space →
    (prefix ≡ space.prefix) × (rest ≡ terms_text space.mode space.offers space.realm)
line_cut line prefix rest cut first space form is =
    cut_once 32 prefix rest space.prefix (terms_text space.mode space.offers space.realm) first (prefix_lacks 32 refl refl space.prefix form.prefix) (sym cut ∙ is)

pub no_space_line : (line : List ℕ) → Lacks 32 line → IsNoLine line
no_space_line line lacks space form is = no_byte 32 line space.prefix (terms_text space.mode space.offers space.realm) lacks is

pub no_prefix_line : (line prefix rest : List ℕ) → line ≡ prefix ++ 32 ∷ rest → Lacks 32 prefix → is_prefix prefix ≡ false → IsNoLine line
no_prefix_line line prefix rest cut first other space form is =
    true≢false (sym form.prefix ∙ ap is_prefix (sym (line_cut line prefix rest cut first space form is).0) ∙ other)

pub no_terms_line : (line prefix rest : List ℕ) → line ≡ prefix ++ 32 ∷ rest → Lacks 32 prefix →
    ((mode : Mode) (offers : List Offer) (realm : List ℕ) → IsTerms mode offers realm → rest ≢ terms_text mode offers realm) → IsNoLine line
no_terms_line line prefix rest cut first none space form is =
    none space.mode space.offers space.realm form.terms (line_cut line prefix rest cut first space form is).1
