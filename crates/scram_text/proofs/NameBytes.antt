-- One byte of a name as it is written.
use Rattle.std.proofs.Common.{◌≡◌, ◌≢◌, ℕ, List, [], ◌∷◌, ◌++◌, refl, sym, ◌∙◌, ap, inl, inr, arith}
use Rattle.scram_text.specs.Bytes.{escape}
use Rattle.scram_text.specs.Names.{BeginsByte, GoesInto}
use Rattle.scram_text.proofs.ByteTests.{same_or_not}

-- a comma, an equals sign, or a byte that stands for itself
pub data Written (c : ℕ) : Type 0 where
  comma : c ≡ 44 → escape c ≡ 61 ∷ 50 ∷ 67 ∷ [] → Written c
  equals : c ≡ 61 → escape c ≡ 61 ∷ 51 ∷ 68 ∷ [] → Written c
  itself : c ≢ 44 → c ≢ 61 → escape c ≡ c ∷ [] → Written c

pub written : (c : ℕ) → Written c
written c = elim (same_or_not c 44) [
  | inl is ↦ comma is.0 (rw is.1 refl)
  | inr not44 ↦ elim (same_or_not c 61) [
    | inl is ↦ equals is.0 (rw (not44.1, is.1) refl)
    | inr other ↦ itself not44.0 other.0 (rw (not44.1, other.1) refl)
  ]
]

-- a byte that stands for itself is written alone
pub alone : (c : ℕ) → c ≢ 44 → c ≢ 61 → escape c ≡ c ∷ []
alone c not44 not61 = elim (written c) [
  | comma is e ↦ absurd (not44 is)
  | equals is e ↦ absurd (not61 is)
  | itself n m e ↦ e
]

-- what a text begins with, where it begins with a written byte
pub data Begun (x : ℕ) (text : List ℕ) (c : ℕ) (more : List ℕ) : Type 0 where
  by_comma : c ≡ 44 → x ≡ 61 → text ≡ 50 ∷ 67 ∷ more → Begun x text c more
  by_equals : c ≡ 61 → x ≡ 61 → text ≡ 51 ∷ 68 ∷ more → Begun x text c more
  by_itself : c ≢ 44 → c ≢ 61 → x ≡ c → text ≡ more → Begun x text c more

pub begun : (x : ℕ) (text : List ℕ) (c : ℕ) (more : List ℕ) → x ∷ text ≡ escape c ++ more → Begun x text c more
begun x text c more cut = elim (written c) [
  | comma is e ↦ let f : x ∷ text ≡ 61 ∷ 50 ∷ 67 ∷ more = cut ∙ ap (λ (w : List ℕ). w ++ more) e in by_comma is (cc) (cc)
  | equals is e ↦ let f : x ∷ text ≡ 61 ∷ 51 ∷ 68 ∷ more = cut ∙ ap (λ (w : List ℕ). w ++ more) e in by_equals is (cc) (cc)
  | itself not44 not61 e ↦ let f : x ∷ text ≡ c ∷ more = cut ∙ ap (λ (w : List ℕ). w ++ more) e in by_itself not44 not61 (cc) (cc)
]

-- nothing of one
pub goes_0 : (text : List ℕ) → ((byte : ℕ) (more : List ℕ) → BeginsByte text byte more → ⊥) → ((left : List ℕ) → text ≡ 61 ∷ left → ⊥) → GoesInto text 0
goes_0 text none no_mark = record {
  front = [];
  back = text;
  cut = refl;
  long = refl;
  rest = 97 ∷ [];
  byte = 97;
  plain = refl;
  lives = refl;
  stuck = λ b other left more behind e plain cut. elim (begun b more other behind cut) [
    | by_comma is first rest ↦ no_mark left (e ∙ ap (λ x. x ∷ left) first)
    | by_equals is first rest ↦ no_mark left (e ∙ ap (λ x. x ∷ left) first)
    | by_itself not44 not61 first rest ↦ none other left (record { plain = plain; cut = e ∙ ap (λ x. x ∷ left) first ∙ ap (λ (w : List ℕ). w ++ left) (sym (alone other not44 not61)) })
  ];
}

-- the mark alone
pub goes_1 : (text left : List ℕ) → text ≡ 61 ∷ left → ((more : List ℕ) → text ≡ 61 ∷ 50 ∷ more → ⊥) → ((more : List ℕ) → text ≡ 61 ∷ 51 ∷ more → ⊥) → GoesInto text 1
goes_1 text left is no_comma no_equals = record {
  front = 61 ∷ [];
  back = left;
  cut = is;
  long = refl;
  rest = 50 ∷ 67 ∷ [];
  byte = 44;
  plain = refl;
  lives = refl;
  stuck = λ b other next more behind e plain cut. elim (begun 61 (b ∷ more) other behind cut) [
    | by_comma same first rest ↦ no_comma next (is ∙ ap (λ (w : List ℕ). 61 ∷ w) e ∙ (let f : b ≡ 50 = cc in ap (λ (x : ℕ). 61 ∷ x ∷ next) f))
    | by_equals same first rest ↦ no_equals next (is ∙ ap (λ (w : List ℕ). 61 ∷ w) e ∙ (let f : b ≡ 51 = cc in ap (λ (x : ℕ). 61 ∷ x ∷ next) f))
    | by_itself not44 not61 first rest ↦ not61 (sym first)
  ];
}

-- the mark and a digit
pub goes_2_comma : (text left : List ℕ) → text ≡ 61 ∷ 50 ∷ left → ((byte : ℕ) (more : List ℕ) → BeginsByte text byte more → ⊥) → GoesInto text 2
goes_2_comma text left is none = record {
  front = 61 ∷ 50 ∷ [];
  back = left;
  cut = is;
  long = refl;
  rest = 67 ∷ [];
  byte = 44;
  plain = refl;
  lives = refl;
  stuck = λ b other next more behind e plain cut. elim (begun 61 (50 ∷ b ∷ more) other behind cut) [
    | by_comma same first rest ↦ none 44 next (record { plain = refl; cut = is ∙ ap (λ (w : List ℕ). 61 ∷ 50 ∷ w) e ∙ (let f : b ≡ 67 = cc in ap (λ (x : ℕ). 61 ∷ 50 ∷ x ∷ next) f) })
    | by_equals same first rest ↦ let wrong : ◌≡◌ {A = ℕ} 50 51 = cc in absurd (omega (arith, wrong))
    | by_itself not44 not61 first rest ↦ not61 (sym first)
  ];
}

pub goes_2_equals : (text left : List ℕ) → text ≡ 61 ∷ 51 ∷ left → ((byte : ℕ) (more : List ℕ) → BeginsByte text byte more → ⊥) → GoesInto text 2
goes_2_equals text left is none = record {
  front = 61 ∷ 51 ∷ [];
  back = left;
  cut = is;
  long = refl;
  rest = 68 ∷ [];
  byte = 61;
  plain = refl;
  lives = refl;
  stuck = λ b other next more behind e plain cut. elim (begun 61 (51 ∷ b ∷ more) other behind cut) [
    | by_comma same first rest ↦ let wrong : ◌≡◌ {A = ℕ} 51 50 = cc in absurd (omega (arith, wrong))
    | by_equals same first rest ↦ none 61 next (record { plain = refl; cut = is ∙ ap (λ (w : List ℕ). 61 ∷ 51 ∷ w) e ∙ (let f : b ≡ 68 = cc in ap (λ (x : ℕ). 61 ∷ 51 ∷ x ∷ next) f) })
    | by_itself not44 not61 first rest ↦ not61 (sym first)
  ];
}
