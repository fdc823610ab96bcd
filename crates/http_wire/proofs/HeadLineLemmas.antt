-- Reading the lines of a head is the grammar of `httparse`, both ways.
use Rattle.std.proofs.Common.{◌≡◌, ◌∷◌, [], ◌++◌, ◌≤◌, ◌+◌, ℕ, zero, suc, List, length, Option, Some, None, Bool, true, false, cond, ◌⊎◌, inl, inr, sym, refl, ap, ◌∙◌, subst, append_assoc, arith}
use Rattle.std.specs.Prelude.{◌==◌, ◌&&◌, not, nat_lt, bytes_eq, All}
use Rattle.std.specs.List.{list_all, flat_map, AllByRecursion}
use Rattle.std.specs.Option.{option_map}
use Rattle.std.proofs.lemmas.Bool.{ltb-true, lt-ltb, and_parts, and_from, eqb-true, eq-eqb, ne_eqb, cond_both}
use Rattle.std.proofs.lemmas.List.{append-nil}
use Rattle.std.proofs.lemmas.List.Elements.{recursion_from_All, All-nil, All-cons}
use Rattle.std.proofs.lemmas.List.Sums.{AllPass-from_list_all, list_all-from_AllPass}
use Rattle.std.proofs.lemmas.Slice.Eq.{bytes_eq-Decides}
use Rattle.httparse.specs.Grammar.{is_token_byte, is_value_byte, AllPass, IsToken, is_token, LineEnd, crlf, lf, print_end, print_version, Field, IsField, print_field, print_section}
use Rattle.http_wire.specs.Lines.{Line, with_byte, before_lines, lines_of, with_front, cut_at, ◌>>=◌}
use Rattle.http_wire.specs.Values.{is_empty}
use Rattle.http_wire.specs.HeadLines.{minor_of, field_of, section_of}

-- the text of lines
abbrev pub print_line : Line → List ℕ
print_line line = line.0 ++ print_end line.1

abbrev pub print_lines : List Line → List ℕ
print_lines lines = flat_map print_line lines

pub bind_some : {A B : Type 0} (o : Option A) (f : A → Option B) (y : B) → (o >>= f) ≡ Some y → (x : A) × (o ≡ Some x) × (f x ≡ Some y)
bind_some None f y h = cc
bind_some (Some x) f y h = (x, refl, h)

pub chosen : {A : Type 0} (t : Bool) (x y z : A) → cond t x y ≡ z → ((t ≡ true) × (x ≡ z)) ⊎ ((t ≡ false) × (y ≡ z))
chosen true x y z h = inl (refl, h)
chosen false x y z h = inr (refl, h)

-- ---- lines

pub with_byte_print : (b : ℕ) (line : Line) → print_line (with_byte b line) ≡ b ∷ print_line line
with_byte_print b ([], lf) = cond_both (b == 13) ([], crlf) (b ∷ [], lf) (λ l. print_line l ≡ b ∷ 10 ∷ [])
    (λ e. ap (λ (n : ℕ). n ∷ 10 ∷ []) (sym (eqb-true b 13 e))) (λ e. refl)
with_byte_print b ([], crlf) = refl
with_byte_print b (c ∷ bytes, end) = refl

pub before_print : (b : ℕ) (ls lines : List Line) → before_lines b ls ≡ Some lines → b ∷ print_lines ls ≡ print_lines lines
before_print b [] lines h = cc
before_print b (line ∷ ls) lines h =
    let is : with_byte b line ∷ ls ≡ lines = cc in
    ap (λ (l : List ℕ). l ++ print_lines ls) (sym (with_byte_print b line)) ∙ ap print_lines is

pub lines_of_print : (text : List ℕ) (lines : List Line) → lines_of text ≡ Some lines → text ≡ print_lines lines
lines_of_print [] lines h = let is : [] ≡ lines = cc in ap print_lines is
lines_of_print (b ∷ bytes) lines h =
    let ls = bind_some (lines_of bytes) (λ ls. cond (b == 10) (Some (([], lf) ∷ ls)) (before_lines b ls)) lines h in
    let after : bytes ≡ print_lines ls.0 = lines_of_print bytes ls.0 ls.1 in
    elim (chosen (b == 10) (Some (([], lf) ∷ ls.0)) (before_lines b ls.0) (Some lines) ls.2) [
      | inl t ↦
          let is : ([], lf) ∷ ls.0 ≡ lines = cc (t.1) in
          (λ i. eqb-true b 10 t.0 i ∷ after i) ∙ ap print_lines is
      | inr t ↦ ap (λ (l : List ℕ). b ∷ l) after ∙ before_print b ls.0 lines t.1
    ]

pub before_len : (b : ℕ) (ls lines : List Line) → before_lines b ls ≡ Some lines → length lines ≡ length ls
before_len b [] lines h = cc
before_len b (line ∷ ls) lines h = let is : with_byte b line ∷ ls ≡ lines = cc in sym (ap length is)

pub count_if : (t : Bool) (n : ℕ) → t ≡ true → cond t 1 0 + n ≡ suc n
count_if true n h = omega arith
count_if false n h = cc

pub count_not : (t : Bool) (n : ℕ) → t ≡ false → cond t 1 0 + n ≡ n
count_not true n h = cc
count_not false n h = omega arith

-- the lacking of a byte
abbrev pub Lacks : ℕ → List ℕ → Type 0
Lacks stop [] = Unit {0}
Lacks stop (b ∷ bytes) = (b == stop ≡ false) × Lacks stop bytes

pub Lacks_by : (stop : ℕ) (test : ℕ → Bool) → test stop ≡ false → (bytes : List ℕ) → list_all test bytes ≡ true → Lacks stop bytes
Lacks_by stop test fails [] h = tt
Lacks_by stop test fails (b ∷ bytes) h =
    let parts = and_parts (test b) (list_all test bytes) h in
    (ne_eqb b stop (λ e. let here : test b ≡ false = ap test e ∙ fails in cc (parts.0)), Lacks_by stop test fails bytes parts.1)

pub Lacks_pass : (stop : ℕ) (test : ℕ → Bool) → test stop ≡ false → (bytes : List ℕ) → AllPass test bytes → Lacks stop bytes
Lacks_pass stop test fails bytes h = Lacks_by stop test fails bytes (list_all-from_AllPass test bytes h)

pub Lacks_append : (stop : ℕ) (a b : List ℕ) → Lacks stop a → Lacks stop b → Lacks stop (a ++ b)
Lacks_append stop [] b p q = q
Lacks_append stop (x ∷ a) b p q = (p.0, Lacks_append stop a b p.1 q)

pub cut_at_print : (stop : ℕ) (x rest : List ℕ) → Lacks stop x → cut_at stop (x ++ stop ∷ rest) ≡ Some (x, rest)
cut_at_print stop [] rest l = ap (λ (t : Bool). cond t (Some ([], rest)) (option_map (with_front stop) (cut_at stop rest))) (eq-eqb stop stop refl)
cut_at_print stop (b ∷ x) rest l =
    ap (λ (t : Bool). cond t (Some ([], x ++ stop ∷ rest)) (option_map (with_front b) (cut_at stop (x ++ stop ∷ rest)))) l.0
    ∙ ap (λ (o : Option (List ℕ × List ℕ)). option_map (with_front b) o) (cut_at_print stop x rest l.1)

pub mapped : (b : ℕ) (o : Option (List ℕ × List ℕ)) (parts : List ℕ × List ℕ) → option_map (with_front b) o ≡ Some parts → (q : List ℕ × List ℕ) × (o ≡ Some q) × (with_front b q ≡ parts)
mapped b None parts h = cc
mapped b (Some q) parts h = (q, refl, cc)

pub cut_at_reads : (stop : ℕ) (text : List ℕ) (parts : List ℕ × List ℕ) → cut_at stop text ≡ Some parts → text ≡ parts.0 ++ stop ∷ parts.1
cut_at_reads stop [] parts h = cc
cut_at_reads stop (b ∷ bytes) parts h =
    elim (chosen (b == stop) (Some ([], bytes)) (option_map (with_front b) (cut_at stop bytes)) (Some parts) h) [
      | inl t ↦
          let is : ([], bytes) ≡ parts = cc (t.1) in
          ap (λ (n : ℕ). n ∷ bytes) (eqb-true b stop t.0) ∙ ap (λ (p : List ℕ × List ℕ). p.0 ++ stop ∷ p.1) is
      | inr t ↦
          let m = mapped b (cut_at stop bytes) parts t.1 in
          ap (λ (l : List ℕ). b ∷ l) (cut_at_reads stop bytes m.0 m.1) ∙ ap (λ (p : List ℕ × List ℕ). p.0 ++ stop ∷ p.1) m.2
    ]

-- a line without CR and LF, before the lines of a text
pub with_byte_clean : (b : ℕ) (x : List ℕ) (end : LineEnd) → b == 13 ≡ false → with_byte b (x, end) ≡ (b ∷ x, end)
with_byte_clean b [] crlf h = refl
with_byte_clean b [] lf h = ap (λ (t : Bool). cond t ([], crlf) (b ∷ [], lf)) h
with_byte_clean b (c ∷ x) end h = refl

abbrev pub added : ℕ → List Line → Option (List Line)
added b ls = cond (b == 10) (Some (([], lf) ∷ ls)) (before_lines b ls)

pub end_before : (end : LineEnd) (text : List ℕ) (ls : List Line) → lines_of text ≡ Some ls → lines_of (print_end end ++ text) ≡ Some (([], end) ∷ ls)
end_before lf text ls h = ap (λ (o : Option (List Line)). o >>= added 10) h
end_before crlf text ls h = ap (λ (o : Option (List Line)). (o >>= added 10) >>= added 13) h

pub line_before : (x : List ℕ) (end : LineEnd) (text : List ℕ) (ls : List Line) → Lacks 10 x → Lacks 13 x → lines_of text ≡ Some ls → lines_of (x ++ (print_end end ++ text)) ≡ Some ((x, end) ∷ ls)
line_before [] end text ls l c h = end_before end text ls h
line_before (b ∷ x) end text ls l c h =
    ap (λ (o : Option (List Line)). o >>= added b) (line_before x end text ls l.1 c.1 h)
    ∙ ap (λ (t : Bool). cond t (Some (([], lf) ∷ (x, end) ∷ ls)) (before_lines b ((x, end) ∷ ls))) l.0
    ∙ ap (λ (line : Line). Some (line ∷ ls)) (with_byte_clean b x end c.0)

-- ---- fields

pub IsToken_is : (bytes : List ℕ) → is_token bytes ≡ true → IsToken bytes
IsToken_is bytes h = let parts = and_parts (nat_lt 0 (length bytes)) (list_all is_token_byte bytes) h in (ltb-true 0 (length bytes) parts.0, AllPass-from_list_all is_token_byte bytes parts.1)

pub is_token_from : (bytes : List ℕ) → IsToken bytes → is_token bytes ≡ true
is_token_from bytes h = and_from (nat_lt 0 (length bytes)) (list_all is_token_byte bytes) (lt-ltb 0 (length bytes) h.0) (list_all-from_AllPass is_token_byte bytes h.1)

abbrev pub field_line : Field → Line
field_line f = (f.name ++ 58 ∷ f.raw, f.end)

pub token_colon : is_token_byte 58 ≡ false
unfolding is_token_byte
token_colon = refl

pub token_space : is_token_byte 32 ≡ false
unfolding is_token_byte
token_space = refl

pub token_lf : is_token_byte 10 ≡ false
unfolding is_token_byte
token_lf = refl

pub token_cr : is_token_byte 13 ≡ false
unfolding is_token_byte
token_cr = refl

pub field_of_print : (f : Field) → IsField f → field_of (field_line f) ≡ Some f
field_of_print f is =
    ap (λ (o : Option (List ℕ × List ℕ)). o >>= λ parts. cond (is_token parts.0 && list_all is_value_byte parts.1) (Some (record { name = parts.0; raw = parts.1; end = f.end })) None)
    (cut_at_print 58 f.name f.raw (Lacks_pass 58 is_token_byte token_colon f.name is.name.1))
    ∙ ap (λ (t : Bool). cond t (Some f) None) (and_from (is_token f.name) (list_all is_value_byte f.raw) (is_token_from f.name is.name) (list_all-from_AllPass is_value_byte f.raw is.raw))

pub field_of_reads : (line : Line) (f : Field) → field_of line ≡ Some f → IsField f × (print_line line ≡ print_field f)
field_of_reads line f h =
    let parts = bind_some (cut_at 58 line.0) (λ parts. cond (is_token parts.0 && list_all is_value_byte parts.1) (Some (record { name = parts.0; raw = parts.1; end = line.1 })) None) f h in
    let cut : line.0 ≡ parts.0.0 ++ 58 ∷ parts.0.1 = cut_at_reads 58 line.0 parts.0 parts.1 in
    elim (chosen (is_token parts.0.0 && list_all is_value_byte parts.0.1) (Some (record { name = parts.0.0; raw = parts.0.1; end = line.1 })) None (Some f) parts.2) [
      | inl t ↦
          let tests = and_parts (is_token parts.0.0) (list_all is_value_byte parts.0.1) t.0 in
          let made : Field = record { name = parts.0.0; raw = parts.0.1; end = line.1 } in
          let is : made ≡ f = cc (t.1) in
          let good : IsField made = record { name = IsToken_is parts.0.0 tests.0; raw = AllPass-from_list_all is_value_byte parts.0.1 tests.1 } in (
            subst IsField is good,
            ap (λ (l : List ℕ). l ++ print_end line.1) cut ∙ append_assoc parts.0.0 (58 ∷ parts.0.1) (print_end line.1) ∙ regroup parts.0.0 parts.0.1 (print_end line.1) ∙ ap print_field is,
          )
      | inr t ↦ cc (t.1)
    ]
  where
    regroup : (a b c : List ℕ) → a ++ ((58 ∷ b) ++ c) ≡ a ++ 58 ∷ b ++ c
    regroup a b c = sym (append_assoc a (58 ∷ b) c)

-- ---- sections

abbrev pub section_lines : List Field → LineEnd → List Line
section_lines [] last = ([], last) ∷ []
section_lines (f ∷ fields) last = field_line f ∷ section_lines fields last

abbrev pub EachField : List Field → Type 0
EachField [] = Unit {0}
EachField (f ∷ fields) = IsField f × EachField fields

pub section_cons : (line : Line) (f : Field) (fields : List Field) (last : LineEnd) → field_of line ≡ Some f → section_of (section_lines fields last) ≡ Some (fields, last) → section_of (line ∷ section_lines fields last) ≡ Some (f ∷ fields, last)
section_cons line f [] last h k = ap (λ (o : Option Field). o >>= λ field. section_of (([], last) ∷ []) >>= λ section. Some (field ∷ section.0, section.1)) h
section_cons line f (g ∷ fields) last h k =
    ap (λ (o : Option Field). o >>= λ field. section_of (section_lines (g ∷ fields) last) >>= λ section. Some (field ∷ section.0, section.1)) h
    ∙ ap (λ (o : Option (List Field × LineEnd)). o >>= λ section. Some (f ∷ section.0, section.1)) k

pub section_of_print : (fields : List Field) (last : LineEnd) → EachField fields → section_of (section_lines fields last) ≡ Some (fields, last)
section_of_print [] last each = refl
section_of_print (f ∷ fields) last each = section_cons (field_line f) f fields last (field_of_print f each.0) (section_of_print fields last each.1)

pub empty_is : (bytes : List ℕ) → is_empty bytes ≡ true → bytes ≡ []
empty_is [] h = refl
empty_is (b ∷ bytes) h = cc

pub section_of_reads : (lines : List Line) (section : List Field × LineEnd) → section_of lines ≡ Some section → EachField section.0 × (print_lines lines ≡ print_section section.0 section.1)
section_of_reads [] section h = cc
section_of_reads (line ∷ []) section h =
    elim (chosen (is_empty line.0) (Some ([], line.1)) None (Some section) h) [
      | inl t ↦
          let is : ([], line.1) ≡ section = cc (t.1) in
          subst (λ (s : List Field × LineEnd). EachField s.0 × (print_lines (line ∷ []) ≡ print_section s.0 s.1)) is
          (tt, append-nil (print_line line) ∙ ap (λ (l : List ℕ). l ++ print_end line.1) (empty_is line.0 t.0))
      | inr t ↦ cc (t.1)
    ]
section_of_reads (line ∷ next ∷ lines) section h =
    let field = bind_some (field_of line) (λ field. section_of (next ∷ lines) >>= λ section. Some (field ∷ section.0, section.1)) section h in
    let rest = bind_some (section_of (next ∷ lines)) (λ section. Some (field.0 ∷ section.0, section.1)) section field.2 in
    let here = field_of_reads line field.0 field.1 in
    let after = section_of_reads (next ∷ lines) rest.0 rest.1 in
    let is : (field.0 ∷ rest.0.0, rest.0.1) ≡ section = cc (rest.2) in
    subst (λ (s : List Field × LineEnd). EachField s.0 × (print_lines (line ∷ next ∷ lines) ≡ print_section s.0 s.1)) is (
      (here.0, after.0),
      (λ i. here.1 i ++ after.1 i) ∙ sym (append_assoc (print_field field.0) (flat_map print_field rest.0.0) (print_end rest.0.1)),
    )

-- ---- the version

pub minor_of_print : (minor : ℕ) → minor ≤ 1 → minor_of (print_version minor) ≡ Some minor
minor_of_print zero h = refl
minor_of_print (suc zero) h = refl
minor_of_print (suc (suc n)) h = absurd (omega arith)

pub minor_of_reads : (text : List ℕ) (minor : ℕ) → minor_of text ≡ Some minor → (minor ≤ 1) × (text ≡ print_version minor)
minor_of_reads text minor h =
    elim (chosen (bytes_eq text (print_version 0)) (Some 0) (cond (bytes_eq text (print_version 1)) (Some 1) None) (Some minor) h) [
      | inl t ↦ let is : 0 ≡ minor = cc (t.1) in (omega arith, (bytes_eq-Decides text (print_version 0)).0 t.0 ∙ ap print_version is)
      | inr t ↦ elim (chosen (bytes_eq text (print_version 1)) (Some 1) None (Some minor) t.1) [
        | inl u ↦ let is : 1 ≡ minor = cc (u.1) in (omega arith, (bytes_eq-Decides text (print_version 1)).0 u.0 ∙ ap print_version is)
        | inr u ↦ cc (u.1)
      ]
    ]

-- ---- lines that a grammar reads

pub fields_each : (fields : List Field) → All IsField fields → EachField fields
fields_each fields all = each fields (recursion_from_All IsField fields all)
  where
    each : (fields : List Field) → AllByRecursion IsField fields → EachField fields
    each [] r = tt
    each (f ∷ fields) r = (r.0, each fields r.1)

pub each_fields : (fields : List Field) → EachField fields → All IsField fields
each_fields [] each = All-nil IsField
each_fields (f ∷ fields) each = All-cons IsField f fields each.0 (each_fields fields each.1)

pub section_print : (fields : List Field) (last : LineEnd) → print_lines (section_lines fields last) ≡ print_section fields last
section_print [] last = append-nil (print_end last)
section_print (f ∷ fields) last =
    (λ i. field_text f i ++ section_print fields last i) ∙ sym (append_assoc (print_field f) (flat_map print_field fields) (print_end last))
  where
    field_text : (f : Field) → print_line (field_line f) ≡ print_field f
    field_text f = append_assoc f.name (58 ∷ f.raw) (print_end f.end) ∙ sym (append_assoc f.name (58 ∷ f.raw) (print_end f.end))

-- a text of lines without CR and LF in them
abbrev pub IsClean : List Line → Type 0
IsClean [] = Unit {0}
IsClean (line ∷ lines) = Lacks 10 line.0 × Lacks 13 line.0 × IsClean lines

pub lines_of_clean : (lines : List Line) → IsClean lines → lines_of (print_lines lines) ≡ Some lines
lines_of_clean [] clean = refl
lines_of_clean (line ∷ lines) clean =
    ap lines_of (append_assoc line.0 (print_end line.1) (print_lines lines))
    ∙ line_before line.0 line.1 (print_lines lines) lines clean.0 clean.1 (lines_of_clean lines clean.2)

pub section_clean : (fields : List Field) (last : LineEnd) → EachField fields → IsClean (section_lines fields last)
section_clean [] last each = (tt, tt, tt)
section_clean (f ∷ fields) last each = (
  Lacks_append 10 f.name (58 ∷ f.raw) (Lacks_pass 10 is_token_byte token_lf f.name each.0.name.1) (refl, Lacks_pass 10 is_value_byte refl f.raw each.0.raw),
  Lacks_append 13 f.name (58 ∷ f.raw) (Lacks_pass 13 is_token_byte token_cr f.name each.0.name.1) (refl, Lacks_pass 13 is_value_byte refl f.raw each.0.raw),
  section_clean fields last each.1,
)

pub version_clean : (minor : ℕ) → minor ≤ 1 → Lacks 10 (print_version minor) × Lacks 13 (print_version minor)
version_clean zero h = (Lacks_by 10 (λ b. not (b == 10)) refl (print_version 0) refl, Lacks_by 13 (λ b. not (b == 13)) refl (print_version 0) refl)
version_clean (suc zero) h = (Lacks_by 10 (λ b. not (b == 10)) refl (print_version 1) refl, Lacks_by 13 (λ b. not (b == 13)) refl (print_version 1) refl)
version_clean (suc (suc n)) h = absurd (omega arith)
