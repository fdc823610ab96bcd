-- The line before a chunk: as more bytes come, byte by byte, and by the grammar of `httparse`.
use Rattle.std.proofs.Common.{◌≡◌, ◌∷◌, [], ◌++◌, ◌<◌, ◌≤◌, ◌+◌, ℕ, suc, List, length, take, drop, get_or, Option, Some, None, Bool, true, false, cond, ◌⊎◌, inl, inr, sym, refl, ap, ◌∙◌, subst, append_assoc, length-append, arith}
use Rattle.std.specs.Prelude.{◌==◌, ◌||◌, nat_lt, take_while}
use Rattle.std.specs.List.{list_all}
use Rattle.std.specs.Char.{is_ascii_hexdigit}
use Rattle.std.specs.Str.Parse.{digits_value}
use Rattle.std.proofs.lemmas.Bool.{ltb-true, lt-ltb, and_parts, and_from, eqb-true, eqb-false, ne_eqb}
use Rattle.std.proofs.lemmas.List.{append-nil, get_or_append_left, take-append-le, take_all}
use Rattle.std.proofs.Math.Seq.{drop-cons}
use Rattle.std.proofs.Math.ListN.{drop_of_length-le}
use Rattle.std.proofs.Math.Numerals.{add-one}
use Rattle.std.proofs.lemmas.List.Sums.{AllPass-from_list_all, list_all-from_AllPass, take_while-cons}
use Rattle.httparse.specs.Grammar.{is_ows, is_extension_byte, crlf, print_end, print_extension, IsExtension, ChunkLine, IsChunkLine, print_chunk_line, ReadsChunkLine, NeverHasChunkLine, chunk_size}
use Rattle.http_wire.specs.declared.chunk_line.LinePart.{LinePart}
use Rattle.http_wire.specs.declared.chunk_line.LinePart.TheVariants.{Digits, Pad, Extension, End}
use Rattle.http_wire.specs.declared.chunk_line.LineStep.{LineStep}
use Rattle.http_wire.specs.declared.chunk_line.LineStep.TheVariants.{On, Done, Never}
use Rattle.http_wire.specs.ChunkLine.{behind_size, line_step, LineFront, Line, Unsure, NoLine, behind, after_step, line_from, chunk_line, size_of, GoesOnLine}
use Rattle.http_wire.proofs.HeadLineLemmas.{chosen}

-- ---- as more bytes come

-- what was told stays told
abbrev pub StaysLine : LineFront → LineFront → Type 0
StaysLine Unsure now = Unit {0}
StaysLine (Line count) now = now ≡ Line count
StaysLine NoLine now = now ≡ NoLine

stays_behind : (n : ℕ) (a b : LineFront) → StaysLine a b → StaysLine (behind n a) (behind n b)
stays_behind n Unsure b s = tt
stays_behind n (Line count) b s = ap (behind n) s
stays_behind n NoLine b s = ap (behind n) s

stays_step : (s : LineStep) (f g : LinePart → LineFront) → ((part : LinePart) → StaysLine (f part) (g part)) → StaysLine (after_step s f) (after_step s g)
stays_step (On part) f g h = stays_behind 1 (f part) (g part) (h part)
stays_step Done f g h = refl
stays_step Never f g h = refl

line_more : (bytes more : List ℕ) (part : LinePart) → StaysLine (line_from bytes part) (line_from (bytes ++ more) part)
line_more [] more part = tt
line_more (b ∷ bytes) more part = stays_step (line_step part b) (λ next. line_from bytes next) (λ next. line_from (bytes ++ more) next) (λ next. line_more bytes more next)

pub chunk_line_more : (bytes more : List ℕ) → StaysLine (chunk_line bytes) (chunk_line (bytes ++ more))
unfolding chunk_line
chunk_line_more bytes more = line_more bytes more (Digits 0)

-- ---- byte by byte

pub behind_none : (f : LineFront) → behind 0 f ≡ f
behind_none (Line count) = ap Line (omega arith)
behind_none Unsure = refl
behind_none NoLine = refl

pub behind_behind : (m n : ℕ) (f : LineFront) → behind m (behind n f) ≡ behind (m + n) f
behind_behind m n (Line count) = ap Line (omega arith)
behind_behind m n Unsure = refl
behind_behind m n NoLine = refl

pub goes_on_none : (bytes : List ℕ) → GoesOnLine bytes 0 (Digits 0)
unfolding chunk_line
goes_on_none bytes = record { within = omega arith; goes_on = λ more. sym (behind_none (line_from (bytes ++ more) (Digits 0))) }

-- a byte of the line
module _ (bytes : List ℕ) (at : ℕ) (part : LinePart) (g : GoesOnLine bytes at part) where
  here : (more : List ℕ) → at < length bytes → (b : ℕ) → b ≡ get_or bytes at 0 → chunk_line (bytes ++ more) ≡ behind at (after_step (line_step part b) (λ next. line_from (drop (at + 1) (bytes ++ more)) next))
  here more l b is =
      let size : length (bytes ++ more) ≡ length bytes + length more = length-append bytes more in
      let long : at < length (bytes ++ more) = omega arith in
      let byte : get_or (bytes ++ more) at 0 ≡ b = get_or_append_left bytes more 0 at l ∙ sym is in
      g.goes_on more ∙ ap (λ (d : List ℕ). behind at (line_from d part)) (drop-cons (bytes ++ more) at 0 long ∙ ap (λ (k : ℕ). get_or (bytes ++ more) at 0 ∷ drop k (bytes ++ more)) (sym (add-one at)) ∙ ap (λ (x : ℕ). x ∷ drop (at + 1) (bytes ++ more)) byte)

  pub line_goes_on : (b : ℕ) (next : LinePart) → at < length bytes → b ≡ get_or bytes at 0 → line_step part b ≡ On next → GoesOnLine bytes (at + 1) next
  line_goes_on b next l is step = record {
    within = omega arith;
    goes_on = λ more.
        here more l b is ∙ ap (λ (s : LineStep). behind at (after_step s (λ p. line_from (drop (at + 1) (bytes ++ more)) p))) step
        ∙ behind_behind at 1 (line_from (drop (at + 1) (bytes ++ more)) next);
  }

  so_far : (f : LineFront) → chunk_line (bytes ++ []) ≡ f → chunk_line bytes ≡ f
  so_far f h = ap chunk_line (sym (append-nil bytes)) ∙ h

  pub line_done : (b : ℕ) → at < length bytes → b ≡ get_or bytes at 0 → line_step part b ≡ Done → chunk_line bytes ≡ Line (at + 1)
  line_done b l is step = so_far (Line (at + 1)) (here [] l b is ∙ ap (λ (s : LineStep). behind at (after_step s (λ p. line_from (drop (at + 1) (bytes ++ [])) p))) step)

  pub line_never : (b : ℕ) → at < length bytes → b ≡ get_or bytes at 0 → line_step part b ≡ Never → chunk_line bytes ≡ NoLine
  line_never b l is step = so_far NoLine (here [] l b is ∙ ap (λ (s : LineStep). behind at (after_step s (λ p. line_from (drop (at + 1) (bytes ++ [])) p))) step)

  pub line_unsure : length bytes ≤ at → chunk_line bytes ≡ Unsure
  line_unsure l = so_far Unsure (g.goes_on [] ∙ ap (λ (d : List ℕ). behind at (line_from d part)) (ap (drop at) (append-nil bytes) ∙ drop_of_length-le bytes l))

-- ---- by the grammar: what it prints is a line

behind_add : (m n k : ℕ) (f : LineFront) → m + n ≡ k → behind m (behind n f) ≡ behind k f
behind_add m n k f e = behind_behind m n f ∙ ap (λ (j : ℕ). behind j f) e

ap_step : (s t : LineStep) (f : LinePart → LineFront) → s ≡ t → after_step s f ≡ after_step t f
ap_step s t f e = ap (λ (x : LineStep). after_step x f) e

digit_goes : (count b : ℕ) → is_ascii_hexdigit b ≡ true → count < 16 → line_step (Digits count) b ≡ On (Digits (count + 1))
digit_goes count b hex l =
    ap (λ (t : Bool). cond t (cond (nat_lt count 16) (On (Digits (count + 1))) Never) (cond (count == 0) Never (behind_size b))) hex
    ∙ ap (λ (t : Bool). cond t (On (Digits (count + 1))) Never) (lt-ltb count 16 l)

digits_run : (digits rest : List ℕ) (count : ℕ) → list_all is_ascii_hexdigit digits ≡ true → count + length digits ≤ 16 →
    line_from (digits ++ rest) (Digits count) ≡ behind (length digits) (line_from rest (Digits (count + length digits)))
digits_run [] rest count all l = sym (behind_none (line_from rest (Digits (count + 0))) ∙ ap (λ (n : ℕ). line_from rest (Digits n)) (omega arith))
digits_run (b ∷ digits) rest count all l =
    let parts = and_parts (is_ascii_hexdigit b) (list_all is_ascii_hexdigit digits) all in
    let fits : count < 16 = omega arith in
    let sum : count + 1 + length digits ≡ count + suc (length digits) = omega arith in
    ap_step (line_step (Digits count) b) (On (Digits (count + 1))) (λ next. line_from (digits ++ rest) next) (digit_goes count b parts.0 fits)
    ∙ ap (behind 1) (digits_run digits rest (count + 1) parts.1 (omega arith))
    ∙ behind_add 1 (length digits) (suc (length digits)) (line_from rest (Digits (count + 1 + length digits))) (omega arith)
    ∙ ap (λ (n : ℕ). behind (suc (length digits)) (line_from rest (Digits n))) sum

ows_goes : (b : ℕ) → is_ows b ≡ true → behind_size b ≡ On Pad
ows_goes b h = elim (either (b == 32) (b == 9) h) [
  | inl space ↦ let is : b ≡ 32 = eqb-true b 32 space in subst (λ (x : ℕ). behind_size x ≡ On Pad) (sym is) refl
  | inr tab ↦ let is : b ≡ 9 = eqb-true b 9 tab in subst (λ (x : ℕ). behind_size x ≡ On Pad) (sym is) refl
]
  where
    either : (s t : Bool) → (s || t) ≡ true → (s ≡ true) ⊎ (t ≡ true)
    either true t e = inl refl
    either false t e = inr e

pad_run : (pad rest : List ℕ) → list_all is_ows pad ≡ true → line_from (pad ++ rest) Pad ≡ behind (length pad) (line_from rest Pad)
pad_run [] rest all = sym (behind_none (line_from rest Pad))
pad_run (b ∷ pad) rest all =
    let parts = and_parts (is_ows b) (list_all is_ows pad) all in
    ap_step (behind_size b) (On Pad) (λ next. line_from (pad ++ rest) next) (ows_goes b parts.0)
    ∙ ap (behind 1) (pad_run pad rest parts.1)
    ∙ behind_add 1 (length pad) (suc (length pad)) (line_from rest Pad) (omega arith)

extension_goes : (b : ℕ) → is_extension_byte b ≡ true → line_step Extension b ≡ On Extension
extension_goes b h = elim (chosen (b == 13) true (b == 10) (b == 13 || b == 10) (by (b == 13) (b == 10))) [
  | inl cr ↦ let is : b ≡ 13 = eqb-true b 13 cr.0 in let no : is_extension_byte 13 ≡ true = subst (λ (x : ℕ). is_extension_byte x ≡ true) is h in cc
  | inr not_cr ↦ ap (λ (t : Bool). cond t (On End) (cond (is_extension_byte b) (On Extension) Never)) not_cr.0 ∙ ap (λ (t : Bool). cond t (On Extension) Never) h
]
  where
    by : (s t : Bool) → cond s true t ≡ (s || t)
    by true t = refl
    by false t = refl

extension_run : (text rest : List ℕ) → list_all is_extension_byte text ≡ true → line_from (text ++ rest) Extension ≡ behind (length text) (line_from rest Extension)
extension_run [] rest all = sym (behind_none (line_from rest Extension))
extension_run (b ∷ text) rest all =
    let parts = and_parts (is_extension_byte b) (list_all is_extension_byte text) all in
    ap_step (line_step Extension b) (On Extension) (λ next. line_from (text ++ rest) next) (extension_goes b parts.0)
    ∙ ap (behind 1) (extension_run text rest parts.1)
    ∙ behind_add 1 (length text) (suc (length text)) (line_from rest Extension) (omega arith)

tail_run : (extension : Option (List ℕ)) (rest : List ℕ) → IsExtension extension → line_from (print_extension extension ++ (13 ∷ 10 ∷ rest)) Pad ≡ Line (length (print_extension extension) + 2)
tail_run None rest is = refl
tail_run (Some text) rest is =
    ap (behind 1) (extension_run text (13 ∷ 10 ∷ rest) (list_all-from_AllPass is_extension_byte text is))
    ∙ ap Line (omega arith)

-- what follows the digits is no digit
pub follows : (pad : List ℕ) (extension : Option (List ℕ)) (rest : List ℕ) → list_all is_ows pad ≡ true →
    (b : ℕ) × (tail : List ℕ) × (pad ++ (print_extension extension ++ (13 ∷ 10 ∷ rest)) ≡ b ∷ tail) × (is_ascii_hexdigit b ≡ false)
follows [] None rest all = (13, 10 ∷ rest, refl, refl)
follows [] (Some text) rest all = (59, text ++ (13 ∷ 10 ∷ rest), refl, refl)
follows (b ∷ pad) extension rest all =
    let parts = and_parts (is_ows b) (list_all is_ows pad) all in
    (b, pad ++ (print_extension extension ++ (13 ∷ 10 ∷ rest)), refl, none b parts.0)
  where
    either : (s t : Bool) → (s || t) ≡ true → (s ≡ true) ⊎ (t ≡ true)
    either true t e = inl refl
    either false t e = inr e

    none : (b : ℕ) → is_ows b ≡ true → is_ascii_hexdigit b ≡ false
    none b h = elim (either (b == 32) (b == 9) h) [
      | inl space ↦ ap is_ascii_hexdigit (eqb-true b 32 space)
      | inr tab ↦ ap is_ascii_hexdigit (eqb-true b 9 tab)
    ]

leaves_digits : (b count : ℕ) (tail : List ℕ) → is_ascii_hexdigit b ≡ false → 0 < count → line_from (b ∷ tail) (Digits count) ≡ line_from (b ∷ tail) Pad
leaves_digits b count tail not_hex l =
    ap_step (line_step (Digits count) b) (behind_size b) (λ next. line_from tail next)
    (ap (λ (t : Bool). cond t (cond (nat_lt count 16) (On (Digits (count + 1))) Never) (cond (count == 0) Never (behind_size b))) not_hex
    ∙ ap (λ (t : Bool). cond t Never (behind_size b)) (ne_eqb count 0 (λ e. absurd (omega arith))))

print_line_append : (l : ChunkLine) (rest : List ℕ) → print_chunk_line l ++ rest ≡ l.digits ++ (l.pad ++ (print_extension l.extension ++ (13 ∷ 10 ∷ rest)))
unfolding print_chunk_line
print_line_append l rest = simp append_assoc

print_line_length : (l : ChunkLine) → length (print_chunk_line l) ≡ length l.digits + (length l.pad + (length (print_extension l.extension) + 2))
unfolding print_chunk_line
print_line_length l =
    ap length (append_assoc (l.digits ++ l.pad) (print_extension l.extension) (print_end crlf) ∙ append_assoc l.digits l.pad (print_extension l.extension ++ print_end crlf))
    ∙ length-append l.digits (l.pad ++ (print_extension l.extension ++ print_end crlf))
    ∙ ap (λ (n : ℕ). length l.digits + n) (length-append l.pad (print_extension l.extension ++ print_end crlf) ∙ ap (λ (n : ℕ). length l.pad + n) (length-append (print_extension l.extension) (print_end crlf)))

-- What the grammar reads is a line.
pub chunk_line_print : (buf : List ℕ) (l : ChunkLine) (rest : List ℕ) → ReadsChunkLine buf l rest → chunk_line buf ≡ Line (length (print_chunk_line l))
unfolding chunk_line
chunk_line_print buf l rest reads =
    let is : IsChunkLine l = reads.0 in
    let hex = list_all-from_AllPass is_ascii_hexdigit l.digits is.digits.2 in
    let ows = list_all-from_AllPass is_ows l.pad is.pad in
    let tail = print_extension l.extension ++ (13 ∷ 10 ∷ rest) in
    let next = follows l.pad l.extension rest ows in
    ap (λ (b : List ℕ). line_from b (Digits 0)) (reads.1 ∙ print_line_append l rest)
    ∙ digits_run l.digits (l.pad ++ tail) 0 hex (omega (arith, is.digits.1))
    ∙ ap (λ (f : LineFront). behind (length l.digits) f) (
    ap (λ (b : List ℕ). line_from b (Digits (0 + length l.digits))) next.2
    ∙ leaves_digits next.0 (0 + length l.digits) next.1 next.3 (omega (arith, is.digits.0))
    ∙ ap (λ (b : List ℕ). line_from b Pad) (sym next.2)
    ∙ pad_run l.pad tail ows
    ∙ ap (behind (length l.pad)) (tail_run l.extension rest is.extension)
    )
    ∙ ap Line (sym (print_line_length l))

-- ---- by the grammar: a line is what it prints

-- how a line ends from a part on
abbrev pub Fits : LinePart → List ℕ → Type 0
Fits End front = front ≡ 10 ∷ []
Fits Extension front = (text : List ℕ) × (list_all is_extension_byte text ≡ true) × (front ≡ text ++ (13 ∷ 10 ∷ []))
Fits Pad front = (pad : List ℕ) × (extension : Option (List ℕ)) × (list_all is_ows pad ≡ true) × IsExtension extension × (front ≡ pad ++ (print_extension extension ++ (13 ∷ 10 ∷ [])))
Fits (Digits count) front =
    (digits : List ℕ) × (pad : List ℕ) × (extension : Option (List ℕ)) × (list_all is_ascii_hexdigit digits ≡ true) × (0 < count + length digits) × (count + length digits ≤ 16)
    × (list_all is_ows pad ≡ true) × IsExtension extension × (front ≡ digits ++ (pad ++ (print_extension extension ++ (13 ∷ 10 ∷ []))))

-- no more than 16 digits stand before a part
abbrev pub IsShort : LinePart → Type 0
IsShort (Digits count) = count ≤ 16
IsShort Pad = Unit {0}
IsShort Extension = Unit {0}
IsShort End = Unit {0}

size_cases : (b : ℕ) (s : LineStep) → behind_size b ≡ s →
    ((b ≡ 13) × (On End ≡ s)) ⊎ (((b ≡ 59) × (On Extension ≡ s)) ⊎ (((is_ows b ≡ true) × (On Pad ≡ s)) ⊎ (Never ≡ s)))
size_cases b s h = elim (chosen (b == 13) (On End) (cond (b == 59) (On Extension) (cond (is_ows b) (On Pad) Never)) s h) [
  | inl t ↦ inl (eqb-true b 13 t.0, t.1)
  | inr t ↦ elim (chosen (b == 59) (On Extension) (cond (is_ows b) (On Pad) Never) s t.1) [
    | inl u ↦ inr (inl (eqb-true b 59 u.0, u.1))
    | inr u ↦ elim (chosen (is_ows b) (On Pad) Never s u.1) [ inl v ↦ inr (inr (inl v)) | inr v ↦ inr (inr (inr v.1)) ]
  ]
]

digit_cases : (count b : ℕ) (s : LineStep) → line_step (Digits count) b ≡ s →
    ((is_ascii_hexdigit b ≡ true) × (count < 16) × (On (Digits (count + 1)) ≡ s)) ⊎ (((0 < count) × (behind_size b ≡ s)) ⊎ (Never ≡ s))
digit_cases count b s h = elim (chosen (is_ascii_hexdigit b) (cond (nat_lt count 16) (On (Digits (count + 1))) Never) (cond (count == 0) Never (behind_size b)) s h) [
  | inl t ↦ elim (chosen (nat_lt count 16) (On (Digits (count + 1))) Never s t.1) [ inl u ↦ inl (t.0, ltb-true count 16 u.0, u.1) | inr u ↦ inr (inr u.1) ]
  | inr t ↦ elim (chosen (count == 0) Never (behind_size b) s t.1) [
    | inl u ↦ inr (inr u.1)
    | inr u ↦ let some : 0 < count = omega (arith, eqb-false count 0 u.0) in inr (inl (some, u.1))
  ]
]

extension_cases : (b : ℕ) (s : LineStep) → line_step Extension b ≡ s → ((b ≡ 13) × (On End ≡ s)) ⊎ (((is_extension_byte b ≡ true) × (On Extension ≡ s)) ⊎ (Never ≡ s))
extension_cases b s h = elim (chosen (b == 13) (On End) (cond (is_extension_byte b) (On Extension) Never) s h) [
  | inl t ↦ inl (eqb-true b 13 t.0, t.1)
  | inr t ↦ elim (chosen (is_extension_byte b) (On Extension) Never s t.1) [ inl u ↦ inr (inl u) | inr u ↦ inr (inr u.1) ]
]

end_cases : (b : ℕ) (s : LineStep) → line_step End b ≡ s → ((b ≡ 10) × (Done ≡ s)) ⊎ (Never ≡ s)
end_cases b s h = elim (chosen (b == 10) Done Never s h) [ inl t ↦ inl (eqb-true b 10 t.0, t.1) | inr t ↦ inr t.1 ]

-- where a byte goes on, no more than 16 digits stand before the next
module _ (next : LinePart) (b : ℕ) where
  short_behind : behind_size b ≡ On next → IsShort next
  short_behind h = elim (size_cases b (On next) h) [
    | inl t ↦ let is : End ≡ next = cc (t.1) in subst IsShort is tt
    | inr t ↦ elim t [
      | inl u ↦ let is : Extension ≡ next = cc (u.1) in subst IsShort is tt
      | inr u ↦ elim u [ inl v ↦ let is : Pad ≡ next = cc (v.1) in subst IsShort is tt | inr v ↦ cc (v) ]
    ]
  ]

  short_step : (part : LinePart) → line_step part b ≡ On next → IsShort next
  short_step (Digits count) h = elim (digit_cases count b (On next) h) [
    | inl t ↦
        let is : Digits (count + 1) ≡ next = cc (t.2) in
        let few : count + 1 ≤ 16 = omega (arith, t.1) in
        subst IsShort is few
    | inr t ↦ elim t [ inl u ↦ short_behind u.1 | inr u ↦ cc (u) ]
  ]
  short_step Pad h = short_behind h
  short_step Extension h = elim (extension_cases b (On next) h) [
    | inl t ↦ let is : End ≡ next = cc (t.1) in subst IsShort is tt
    | inr t ↦ elim t [ inl u ↦ let is : Extension ≡ next = cc (u.1) in subst IsShort is tt | inr u ↦ cc (u) ]
  ]
  short_step End h = elim (end_cases b (On next) h) [ inl t ↦ cc (t.1) | inr t ↦ cc (t) ]

-- a byte that goes on, before what the next part leaves
module _ (next : LinePart) (b : ℕ) (front : List ℕ) (f : Fits next front) where
  pad_fits : behind_size b ≡ On next → Fits Pad (b ∷ front)
  pad_fits h = elim (size_cases b (On next) h) [
    | inl t ↦
        let is : next ≡ End = cc (t.1) in
        let last : front ≡ 10 ∷ [] = subst (λ (p : LinePart). Fits p front) is f in
        ([], None, refl, tt, λ i. t.0 i ∷ last i)
    | inr t ↦ elim t [
      | inl u ↦
          let is : next ≡ Extension = cc (u.1) in
          let text = subst (λ (p : LinePart). Fits p front) is f in
          ([], Some text.0, refl, AllPass-from_list_all is_extension_byte text.0 text.1, λ i. u.0 i ∷ text.2 i)
      | inr u ↦ elim u [
        | inl v ↦
            let is : next ≡ Pad = cc (v.1) in
            let more = subst (λ (p : LinePart). Fits p front) is f in
            (b ∷ more.0, more.1, and_from (is_ows b) (list_all is_ows more.0) v.0 more.2, more.3, ap (λ (l : List ℕ). b ∷ l) more.4)
        | inr v ↦ cc (v)
      ]
    ]
  ]

  step_fits : (part : LinePart) → IsShort part → line_step part b ≡ On next → Fits part (b ∷ front)
  step_fits (Digits count) short h = elim (digit_cases count b (On next) h) [
    | inl t ↦
        let is : next ≡ Digits (count + 1) = cc (t.2) in
        let more = subst (λ (p : LinePart). Fits p front) is f in
        let few : count + suc (length more.0) ≤ 16 = omega (arith, more.5) in
        (b ∷ more.0, more.1, more.2, and_from (is_ascii_hexdigit b) (list_all is_ascii_hexdigit more.0) t.0 more.3, omega arith, few, more.6, more.7, ap (λ (l : List ℕ). b ∷ l) more.8)
    | inr t ↦ elim t [
      | inl u ↦
          let more = pad_fits u.1 in
          let some : 0 < count + 0 = omega (arith, u.0) in
          let few : count + 0 ≤ 16 = omega arith in
          ([], more.0, more.1, refl, some, few, more.2, more.3, more.4)
      | inr u ↦ cc (u)
    ]
  ]
  step_fits Pad short h = pad_fits h
  step_fits Extension short h = elim (extension_cases b (On next) h) [
    | inl t ↦
        let is : next ≡ End = cc (t.1) in
        let last : front ≡ 10 ∷ [] = subst (λ (p : LinePart). Fits p front) is f in
        ([], refl, λ i. t.0 i ∷ last i)
    | inr t ↦ elim t [
      | inl u ↦
          let is : next ≡ Extension = cc (u.1) in
          let more = subst (λ (p : LinePart). Fits p front) is f in
          (b ∷ more.0, and_from (is_extension_byte b) (list_all is_extension_byte more.0) u.0 more.1, ap (λ (l : List ℕ). b ∷ l) more.2)
      | inr u ↦ cc (u)
    ]
  ]
  step_fits End short h = elim (end_cases b (On next) h) [ inl t ↦ cc (t.1) | inr t ↦ cc (t) ]

-- the last byte
not_done : (b : ℕ) → behind_size b ≡ Done → ⊥
not_done b h = elim (size_cases b Done h) [ inl t ↦ cc (t.1) | inr t ↦ elim t [ inl u ↦ cc (u.1) | inr u ↦ elim u [ inl v ↦ cc (v.1) | inr v ↦ cc (v) ] ] ]

done_fits : (part : LinePart) (b : ℕ) → line_step part b ≡ Done → Fits part (b ∷ [])
done_fits (Digits count) b h = elim (digit_cases count b Done h) [ inl t ↦ cc (t.2) | inr t ↦ elim t [ inl u ↦ absurd (not_done b u.1) | inr u ↦ cc (u) ] ]
done_fits Pad b h = absurd (not_done b h)
done_fits Extension b h = elim (extension_cases b Done h) [ inl t ↦ cc (t.1) | inr t ↦ elim t [ inl u ↦ cc (u.1) | inr u ↦ cc (u) ] ]
done_fits End b h = elim (end_cases b Done h) [ inl t ↦ ap (λ (n : ℕ). n ∷ []) t.0 | inr t ↦ cc (t) ]

-- the text of a line of that many bytes
pub record Ends (part : LinePart) (bytes : List ℕ) (count : ℕ) : Type 0 where
  pub front : List ℕ
  pub rest : List ℕ
  pub same : bytes ≡ front ++ rest
  pub size : length front ≡ count
  pub fits : Fits part front

behind_line : (f : LineFront) (n : ℕ) → behind 1 f ≡ Line n → (m : ℕ) × (f ≡ Line m) × (suc m ≡ n)
behind_line (Line m) n h = let is : 1 + m ≡ n = cc in (m, refl, omega arith)
behind_line Unsure n h = cc
behind_line NoLine n h = cc

step_ends : (part : LinePart) (b : ℕ) (bytes : List ℕ) (count : ℕ) (s : LineStep) → IsShort part → line_step part b ≡ s → after_step s (λ next. line_from bytes next) ≡ Line count →
    ((next : LinePart) (n : ℕ) → IsShort next → line_from bytes next ≡ Line n → Ends next bytes n) → Ends part (b ∷ bytes) count
step_ends part b bytes count (On next) short is e later =
    let m = behind_line (line_from bytes next) count e in
    let ends = later next m.0 (short_step next b part is) m.1 in
    record {
      front = b ∷ ends.front;
      rest = ends.rest;
      same = ap (λ (l : List ℕ). b ∷ l) ends.same;
      size = ap suc ends.size ∙ m.2;
      fits = step_fits next b ends.front ends.fits part short is;
    }
step_ends part b bytes count Done short is e later = let one : ◌≡◌ {A = ℕ} 1 count = cc in record { front = b ∷ []; rest = bytes; same = refl; size = one; fits = done_fits part b is }
step_ends part b bytes count Never short is e later = cc

line_ends : (bytes : List ℕ) (part : LinePart) (count : ℕ) → IsShort part → line_from bytes part ≡ Line count → Ends part bytes count
line_ends [] part count short h = cc
line_ends (b ∷ bytes) part count short h = step_ends part b bytes count (line_step part b) short refl h (λ next n s e. line_ends bytes next n s e)

-- A line is one of the grammar.
pub chunk_line_reads : (bytes : List ℕ) (count : ℕ) → chunk_line bytes ≡ Line count → (l : ChunkLine) × (rest : List ℕ) × ReadsChunkLine bytes l rest
unfolding chunk_line print_chunk_line
chunk_line_reads bytes count h =
    let none : IsShort (Digits 0) = omega arith in
    let ends = line_ends bytes (Digits 0) count none h in
    let p = ends.fits in
    let l : ChunkLine = record { digits = p.0; pad = p.1; extension = p.2 } in
    let some : 0 < length p.0 = omega (arith, p.4) in
    let few : length p.0 ≤ 16 = omega (arith, p.5) in
    let is : IsChunkLine l = record {
      digits = (some, few, AllPass-from_list_all is_ascii_hexdigit p.0 p.3);
      pad = AllPass-from_list_all is_ows p.1 p.6;
      extension = p.7;
    } in
    (l, ends.rest, (is, ends.same ∙ ap (λ (f : List ℕ). f ++ ends.rest) (p.8 ∙ regroup p.0 p.1 (print_extension p.2) (13 ∷ 10 ∷ []))))
  where
    regroup : (a b c d : List ℕ) → a ++ (b ++ (c ++ d)) ≡ ((a ++ b) ++ c) ++ d
    regroup a b c d = simp append_assoc

-- What is no line never becomes one, and what is unsure isn't one yet.
pub no_line_never : (bytes : List ℕ) → chunk_line bytes ≡ NoLine → NeverHasChunkLine bytes
no_line_never bytes h more l rest reads =
    let stays : chunk_line (bytes ++ more) ≡ NoLine = subst (λ (f : LineFront). StaysLine f (chunk_line (bytes ++ more))) h (chunk_line_more bytes more) in
    let is : chunk_line (bytes ++ more) ≡ Line (length (print_chunk_line l)) = chunk_line_print (bytes ++ more) l rest reads in
    cc

-- ---- the size

hex_front : (digits : List ℕ) (b : ℕ) (tail : List ℕ) → list_all is_ascii_hexdigit digits ≡ true → is_ascii_hexdigit b ≡ false → take_while is_ascii_hexdigit (digits ++ b ∷ tail) ≡ digits
hex_front [] b tail all not_hex = take_while-cons is_ascii_hexdigit b tail ∙ ap (λ (t : Bool). cond t (b ∷ take_while is_ascii_hexdigit tail) []) not_hex
hex_front (d ∷ digits) b tail all not_hex =
    let parts = and_parts (is_ascii_hexdigit d) (list_all is_ascii_hexdigit digits) all in
    take_while-cons is_ascii_hexdigit d (digits ++ b ∷ tail)
    ∙ ap (λ (t : Bool). cond t (d ∷ take_while is_ascii_hexdigit (digits ++ b ∷ tail)) []) parts.0
    ∙ ap (λ (l : List ℕ). d ∷ l) (hex_front digits b tail parts.1 not_hex)

pub size_is : (bytes : List ℕ) (l : ChunkLine) (rest : List ℕ) → ReadsChunkLine bytes l rest → chunk_size l ≡ size_of bytes
size_is bytes l rest reads =
    let is : IsChunkLine l = reads.0 in
    let next = follows l.pad l.extension rest (list_all-from_AllPass is_ows l.pad is.pad) in
    let text : bytes ≡ l.digits ++ next.0 ∷ next.1 = reads.1 ∙ print_line_append l rest ∙ ap (λ (t : List ℕ). l.digits ++ t) next.2 in
    ap (digits_value 16) (sym (ap (take_while is_ascii_hexdigit) text ∙ hex_front l.digits next.0 next.1 (list_all-from_AllPass is_ascii_hexdigit l.digits is.digits.2) next.3))

-- ---- a whole line

pub take_append : (front rest : List ℕ) (n : ℕ) → n ≡ length front → take n (front ++ rest) ≡ front
take_append front rest n e = take-append-le n front rest (omega arith) ∙ take_all n front (omega arith)

-- a line at the front, whatever follows
module _ (bytes : List ℕ) (count : ℕ) (h : chunk_line bytes ≡ Line count) where
  pub line_stays : (more : List ℕ) → chunk_line (bytes ++ more) ≡ Line count
  line_stays more = subst (λ (f : LineFront). StaysLine f (chunk_line (bytes ++ more))) h (chunk_line_more bytes more)

  pub size_stays : (more : List ℕ) → size_of (bytes ++ more) ≡ size_of bytes
  size_stays more =
      let line = chunk_line_reads bytes count h in
      let later : ReadsChunkLine (bytes ++ more) line.0 (line.1 ++ more) =
      (line.2.0, ap (λ (b : List ℕ). b ++ more) line.2.1 ∙ append_assoc (print_chunk_line line.0) line.1 more) in
      sym (size_is (bytes ++ more) line.0 (line.1 ++ more) later) ∙ size_is bytes line.0 line.1 line.2

  -- the text of the line alone
  pub line_text : (chunk_line (take count bytes) ≡ Line (length (take count bytes))) × (size_of (take count bytes) ≡ size_of bytes) × (count ≤ length bytes) × (0 < count)
  line_text =
      let line = chunk_line_reads bytes count h in
      let l = line.0 in
      let is : Line count ≡ Line (length (print_chunk_line l)) = sym h ∙ chunk_line_print bytes l line.1 line.2 in
      let same : count ≡ length (print_chunk_line l) = cc in
      let text : take count bytes ≡ print_chunk_line l = ap (take count) line.2.1 ∙ take_append (print_chunk_line l) line.1 count same in
      let reads : ReadsChunkLine (take count bytes) l [] = (line.2.0, text ∙ sym (append-nil (print_chunk_line l))) in
      let size : length bytes ≡ length (print_chunk_line l) + length line.1 = ap length line.2.1 ∙ length-append (print_chunk_line l) line.1 in
      let all : length (print_chunk_line l) ≡ length l.digits + (length l.pad + (length (print_extension l.extension) + 2)) = print_line_length l in (
        chunk_line_print (take count bytes) l [] reads ∙ ap Line (sym (ap length text)),
        sym (size_is (take count bytes) l [] reads) ∙ size_is bytes l line.1 line.2,
        omega arith,
        omega arith,
      )
