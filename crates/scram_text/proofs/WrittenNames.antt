-- Names as they are written.
use Rattle.std.proofs.Common.{◌≡◌, ◌≢◌, ◌+◌, ◌-◌, ℕ, true, List, [], ◌∷◌, ◌++◌, refl, sym, ◌∙◌, ap, length, length-append, append_assoc, append-nil, subst, arith}
use Rattle.std.specs.List.{list_all}
use Rattle.auth_grammar.specs.Plain.{is_printable}
use Rattle.scram_text.specs.Bytes.{escape, escaped}
use Rattle.scram_text.specs.Contents.{WritesName}
use Rattle.scram_text.specs.Names.{BeginsByte, BeginsName, GoesInto}
use Rattle.scram_text.specs.Reaching.{Reaches}
use Rattle.scram_text.proofs.NameBytes.{written, comma, equals, itself}
use Rattle.scram_text.proofs.ByteTests.{both, list_all-append, list_all-split, some_all, some_snoc}

-- one more byte is written at the end
pub escaped-snoc : (name : List ℕ) (b : ℕ) → escaped (name ++ b ∷ []) ≡ escaped name ++ escape b
escaped-snoc [] b = append-nil (escape b)
escaped-snoc (x ∷ name) b = ap (λ (w : List ℕ). escape x ++ w) (escaped-snoc name b) ∙ sym (append_assoc (escape x) (escaped name) (escape b))

-- a written byte isn't empty
pub escape_some : (c : ℕ) (s : List ℕ) → escape c ++ s ≡ [] → ⊥
escape_some c s none = elim (written c) [
  | comma is e ↦ let f : 61 ∷ 50 ∷ 67 ∷ s ≡ [] = sym (ap (λ (w : List ℕ). w ++ s) e) ∙ none in cc
  | equals is e ↦ let f : 61 ∷ 51 ∷ 68 ∷ s ≡ [] = sym (ap (λ (w : List ℕ). w ++ s) e) ∙ none in cc
  | itself n m e ↦ let f : c ∷ s ≡ [] = sym (ap (λ (w : List ℕ). w ++ s) e) ∙ none in cc
]

-- two texts that begin with written bytes begin with one
pub escape_unique : (x y : ℕ) (s t : List ℕ) → escape x ++ s ≡ escape y ++ t → (x ≡ y) × (s ≡ t)
escape_unique x y s t same = elim (written x) [
  | comma is e ↦ elim (written y) [
    | comma is2 e2 ↦ let f : 61 ∷ 50 ∷ 67 ∷ s ≡ 61 ∷ 50 ∷ 67 ∷ t = sym (ap (λ (w : List ℕ). w ++ s) e) ∙ same ∙ ap (λ (w : List ℕ). w ++ t) e2 in (is ∙ sym is2, cc)
    | equals is2 e2 ↦ let f : 61 ∷ 50 ∷ 67 ∷ s ≡ 61 ∷ 51 ∷ 68 ∷ t = sym (ap (λ (w : List ℕ). w ++ s) e) ∙ same ∙ ap (λ (w : List ℕ). w ++ t) e2 in let wrong : ◌≡◌ {A = ℕ} 50 51 = cc in absurd (omega (arith, wrong))
    | itself n m e2 ↦ let f : 61 ∷ 50 ∷ 67 ∷ s ≡ y ∷ t = sym (ap (λ (w : List ℕ). w ++ s) e) ∙ same ∙ ap (λ (w : List ℕ). w ++ t) e2 in absurd (m (cc))
  ]
  | equals is e ↦ elim (written y) [
    | comma is2 e2 ↦ let f : 61 ∷ 51 ∷ 68 ∷ s ≡ 61 ∷ 50 ∷ 67 ∷ t = sym (ap (λ (w : List ℕ). w ++ s) e) ∙ same ∙ ap (λ (w : List ℕ). w ++ t) e2 in let wrong : ◌≡◌ {A = ℕ} 51 50 = cc in absurd (omega (arith, wrong))
    | equals is2 e2 ↦ let f : 61 ∷ 51 ∷ 68 ∷ s ≡ 61 ∷ 51 ∷ 68 ∷ t = sym (ap (λ (w : List ℕ). w ++ s) e) ∙ same ∙ ap (λ (w : List ℕ). w ++ t) e2 in (is ∙ sym is2, cc)
    | itself n m e2 ↦ let f : 61 ∷ 51 ∷ 68 ∷ s ≡ y ∷ t = sym (ap (λ (w : List ℕ). w ++ s) e) ∙ same ∙ ap (λ (w : List ℕ). w ++ t) e2 in absurd (m (cc))
  ]
  | itself n m e ↦ elim (written y) [
    | comma is2 e2 ↦ let f : x ∷ s ≡ 61 ∷ 50 ∷ 67 ∷ t = sym (ap (λ (w : List ℕ). w ++ s) e) ∙ same ∙ ap (λ (w : List ℕ). w ++ t) e2 in absurd (m (cc))
    | equals is2 e2 ↦ let f : x ∷ s ≡ 61 ∷ 51 ∷ 68 ∷ t = sym (ap (λ (w : List ℕ). w ++ s) e) ∙ same ∙ ap (λ (w : List ℕ). w ++ t) e2 in absurd (m (cc))
    | itself n2 m2 e2 ↦ let f : x ∷ s ≡ y ∷ t = sym (ap (λ (w : List ℕ). w ++ s) e) ∙ same ∙ ap (λ (w : List ℕ). w ++ t) e2 in (cc, cc)
  ]
]

-- a text with a byte in it isn't empty
pub some_behind : (front : List ℕ) (b : ℕ) (more : List ℕ) → front ++ b ∷ more ≡ [] → ⊥
some_behind [] b more none = cc
some_behind (x ∷ front) b more none = cc

-- what stands behind a name inside a longer one is the rest of that name
pub record Goes_on (name longer more : List ℕ) : Type 0 where
  pub tail : List ℕ
  pub whole : longer ≡ name ++ tail
  pub left : more ≡ escaped tail

pub goes_on : (name longer more : List ℕ) → escaped name ++ more ≡ escaped longer → Goes_on name longer more
goes_on [] longer more same = record { tail = longer; whole = refl; left = same }
goes_on (x ∷ name) [] more same = absurd (escape_some x (escaped name ++ more) (sym (append_assoc (escape x) (escaped name) more) ∙ same))
goes_on (x ∷ name) (y ∷ longer) more same =
    let unique = escape_unique x y (escaped name ++ more) (escaped longer) (sym (append_assoc (escape x) (escaped name) more) ∙ same) in
    let next = goes_on name longer more unique.1 in
    record { tail = next.tail; whole = (let first : x ≡ y = unique.0 in let rest = next.whole in cc); left = next.left }

-- a longer name goes on with a byte of a name, or is the name itself
pub more_none : (name longer more : List ℕ) → ((byte : ℕ) (behind : List ℕ) → BeginsByte more byte behind → ⊥) → WritesName (escaped name ++ more) longer → more ≡ []
more_none name longer more none writes =
    let next = goes_on name longer more writes.written in
    go next.tail next.whole next.left
  where
    go : (tail : List ℕ) → longer ≡ name ++ tail → more ≡ escaped tail → more ≡ []
    go [] whole left = left
    go (c ∷ tail) whole left = absurd (none c (escaped tail) (record {
      plain = (both (is_printable c) (list_all is_printable tail) (list_all-split is_printable name (c ∷ tail) (let all = some_all is_printable longer writes.plain in let w = whole in subst (λ (l : List ℕ). list_all is_printable l ≡ true) w all)).1).0;
      cut = left;
    }))

-- how far a text goes on that begins with a name
pub name_reaches : (text name more : List ℕ) (at : ℕ) → BeginsName text name more → GoesInto more at → Reaches (λ t. (whole : List ℕ) × WritesName t whole) text (length text - length more + at)
name_reaches text name more at begins into = record {
  front = escaped name ++ into.front;
  back = into.back;
  cut = begins.cut ∙ ap (λ (w : List ℕ). escaped name ++ w) into.cut ∙ sym (append_assoc (escaped name) into.front into.back);
  long = (let e : length text ≡ length (escaped name) + length more = ap length begins.cut ∙ length-append (escaped name) more in let g = into.long in length-append (escaped name) into.front ∙ omega arith);
  rest = into.rest;
  lives = (
    name ++ into.byte ∷ [],
    record {
      plain = some_snoc is_printable name into.byte begins.plain into.plain;
      written = append_assoc (escaped name) into.front into.rest ∙ ap (λ (w : List ℕ). escaped name ++ w) into.lives ∙ sym (escaped-snoc name into.byte);
    },
  );
  stuck = λ b left behind e writes.
      let next = goes_on name writes.0 (into.front ++ b ∷ behind) (sym (append_assoc (escaped name) into.front (b ∷ behind)) ∙ writes.1.written) in
      go b left behind e writes.0 writes.1 next.tail next.whole next.left;
}
  where
    go : (b : ℕ) (left behind : List ℕ) → into.back ≡ b ∷ left → (longer : List ℕ) → WritesName ((escaped name ++ into.front) ++ b ∷ behind) longer → (tail : List ℕ) → longer ≡ name ++ tail → into.front ++ b ∷ behind ≡ escaped tail → ⊥
    go b left behind e longer writes [] whole is = some_behind into.front b behind is
    go b left behind e longer writes (c ∷ tail) whole is =
        into.stuck b c left behind (escaped tail) e
        (both (is_printable c) (list_all is_printable tail) (list_all-split is_printable name (c ∷ tail) (subst (λ (l : List ℕ). list_all is_printable l ≡ true) whole (some_all is_printable longer writes.plain))).1).0
        is

-- the whole text writes the name
pub writes_whole : (text name more : List ℕ) → text ≢ [] → BeginsName text name more → more ≡ [] → WritesName text name
writes_whole text [] more some begins empty = absurd (some (begins.cut ∙ empty))
writes_whole text (x ∷ name) more some begins empty = record { plain = begins.plain; written = begins.cut ∙ ap (λ (w : List ℕ). escaped (x ∷ name) ++ w) empty ∙ append-nil (escaped (x ∷ name)) }

-- an empty text writes none
pub writes_none : (name : List ℕ) → WritesName [] name → ⊥
writes_none [] writes = let e = writes.plain in cc
writes_none (x ∷ name) writes = escape_some x (escaped name) (sym writes.written)

-- one more byte of a name stands first
pub name_next : (text rest more : List ℕ) (byte : ℕ) → ((name : List ℕ) × (list_all is_printable name ≡ true) × (text ≡ escaped name ++ rest)) → BeginsByte rest byte more
    → (name : List ℕ) × (list_all is_printable name ≡ true) × (text ≡ escaped name ++ more)
name_next text rest more byte before next = (
  before.0 ++ byte ∷ [],
  list_all-append is_printable before.0 (byte ∷ []) before.1 (rw next.plain refl),
  before.2 ∙ ap (λ (w : List ℕ). escaped before.0 ++ w) next.cut ∙ sym (append_assoc (escaped before.0) (escape byte) more) ∙ ap (λ (w : List ℕ). w ++ more) (sym (escaped-snoc before.0 byte)),
)

-- a name with which a text of a written name begins is the whole of it
pub whole_name : (text name more : List ℕ) → (longer : List ℕ) → WritesName text longer → BeginsName text name more → more ≡ []
whole_name text name more longer writes begins = more_none name longer more begins.none (record { plain = writes.plain; written = sym begins.cut ∙ writes.written })

-- a text that writes a name isn't empty
pub writes_some : (text : List ℕ) → ((name : List ℕ) × WritesName text name) → text ≢ []
writes_some text writes none = writes_none writes.0 (record { plain = writes.1.plain; written = sym none ∙ writes.1.written })
