-- Judging the text of a head.
use Rattle.std.proofs.Common.{◌≡◌, ◌∷◌, [], ◌++◌, ◌<◌, ◌≤◌, ◌-◌, ℕ, suc, List, length, map, drop, Option, Some, None, cond, inl, inr, sym, refl, ap, ◌∙◌, subst, length-drop, arith}
use Rattle.std.specs.Prelude.{◌==◌, nat_lt}
use Rattle.std.proofs.lemmas.Bool.{lt-ltb, le-ltb, cond-true, cond-false}
use Rattle.std.proofs.lemmas.List.{append-nil}
use Rattle.std.proofs.lemmas.List.Sums.{sum_by-cons}
use Rattle.httparse.specs.Grammar.{LineEnd, crlf, lf, print_blank, print_version, print_end, print_section, Field, RequestHead, ReadsRequest, HasNoRequest}
use Rattle.httparse.specs.Spans.{RequestOverflows, name_and_value}
use Rattle.httparse.proofs.GrammarLemmas.{request_unique, print_request-append}
use Rattle.http_wire.specs.declared.request_head.Judged.TheVariants.{Faulty}
use Rattle.http_wire.specs.HeadPlace.{empty_line}
use Rattle.http_wire.specs.Lines.{Line, lines_of, before_lines, line_feeds}
use Rattle.http_wire.specs.RequestHead.{read_head}
use Rattle.http_wire.specs.RequestChecks.{judge, judge_head, judge_named}
use Rattle.http_wire.specs.Fields.{fields_of, Pairs}
use Rattle.http_wire.proofs.HeadLineLemmas.{section_lines, bind_some, chosen, before_len, count_if, count_not}
use Rattle.http_wire.proofs.RequestHeadLemmas.{read_head_print, read_head_reads, head_lines}

-- a line feed for each line
pub lines_count : (text : List ℕ) (lines : List Line) → lines_of text ≡ Some lines → line_feeds text ≡ length lines
lines_count [] lines h = let is : [] ≡ lines = cc in ap length is
lines_count (b ∷ bytes) lines h =
    let ls = bind_some (lines_of bytes) (λ ls. cond (b == 10) (Some (([], lf) ∷ ls)) (before_lines b ls)) lines h in
    let after : line_feeds bytes ≡ length ls.0 = lines_count bytes ls.0 ls.1 in
    elim (chosen (b == 10) (Some (([], lf) ∷ ls.0)) (before_lines b ls.0) (Some lines) ls.2) [
      | inl t ↦ let is : ([], lf) ∷ ls.0 ≡ lines = cc (t.1) in sum_by-cons (λ x. cond (x == 10) 1 0) b bytes ∙ count_if (b == 10) (line_feeds bytes) t.0 ∙ ap suc after ∙ ap length is
      | inr t ↦ sum_by-cons (λ x. cond (x == 10) 1 0) b bytes ∙ count_not (b == 10) (line_feeds bytes) t.0 ∙ after ∙ sym (before_len b ls.0 lines t.1)
    ]

pub section_count : (fields : List Field) (last : LineEnd) → length (section_lines fields last) ≡ suc (length fields)
section_count [] last = refl
section_count (f ∷ fields) last = ap suc (section_count fields last)

-- a head has two lines more than fields
pub head_fields : (text : List ℕ) (h : RequestHead) → ReadsRequest text h [] → h.blank ≡ [] → line_feeds text ≡ suc (suc (length h.fields))
head_fields text h reads blank = lines_count text (head_lines h) (read_head_print text h reads blank).0 ∙ ap suc (section_count h.fields h.last)

pub empty_lf : (bytes : List ℕ) → empty_line (10 ∷ bytes) ≡ 1
empty_lf [] = refl
empty_lf (b ∷ bytes) = refl

blank_of : (blank : List LineEnd) (rest : List ℕ) → empty_line (print_blank blank ++ rest) ≡ 0 → blank ≡ []
blank_of [] rest h = refl
blank_of (lf ∷ blank) rest h = let one : empty_line (10 ∷ (print_blank blank ++ rest)) ≡ 1 = empty_lf (print_blank blank ++ rest) in absurd (omega arith)
blank_of (crlf ∷ blank) rest h = absurd (omega arith)

-- no empty line stands before the head
pub no_blank : (text : List ℕ) (h : RequestHead) → ReadsRequest text h [] → empty_line text ≡ 0 → h.blank ≡ []
no_blank text h reads e =
    blank_of h.blank (h.method ++ 32 ∷ (h.target ++ 32 ∷ (print_version h.minor ++ (print_end h.line_end ++ (print_section h.fields h.last ++ [])))))
    (sym (ap empty_line (reads.1 ∙ print_request-append h [])) ∙ e)

no_head_by : (text : List ℕ) (o : Option RequestHead) → read_head text ≡ o → ((h : RequestHead) → ReadsRequest text h [] → h.blank ≡ [] → ⊥) → o ≡ None
no_head_by text None e none = refl
no_head_by text (Some h) e none = let r = read_head_reads text h e in absurd (none h r.0 r.1)

pub no_head : (text : List ℕ) → ((h : RequestHead) → ReadsRequest text h [] → h.blank ≡ [] → ⊥) → read_head text ≡ None
no_head text none = no_head_by text (read_head text) refl none

-- a head before the text's end
pub head_before : (text : List ℕ) (h : RequestHead) (len : ℕ) → ReadsRequest text h (drop len text) → len ≤ length text → (len ≡ length text → ⊥) → read_head text ≡ None
head_before text h len reads le ne = no_head text (λ k is blank.
    let same = request_unique text h k (drop len text) [] reads is in
    let size : length (drop len text) ≡ length text - len = length-drop len text in
    let none : length (drop len text) ≡ 0 = ap length same.1 in
    ne (omega arith))

pub drop_all : (n : ℕ) (l : List ℕ) → n ≡ length l → drop n l ≡ []
drop_all n l e = ap (λ (k : ℕ). drop k l) e ∙ all l
  where
    all : (l : List ℕ) → drop (length l) l ≡ []
    all [] = refl
    all (x ∷ l) = all l

-- the head that the text is
pub head_whole : (text : List ℕ) (h : RequestHead) (len : ℕ) → ReadsRequest text h (drop len text) → len ≡ length text → empty_line text ≡ 0 → read_head text ≡ Some h
head_whole text h len reads all e =
    let whole : ReadsRequest text h [] = subst (λ (rest : List ℕ). ReadsRequest text h rest) (drop_all len text all) reads in
    (read_head_print text h whole (no_blank text h whole e)).1

pub head_overflows : (text : List ℕ) → RequestOverflows 64 text → line_feeds text ≤ 66 → read_head text ≡ None
head_overflows text over few = no_head text (λ h reads blank.
    let more : 64 < length h.fields = over [] h [] (subst (λ (t : List ℕ). ReadsRequest t h []) (sym (append-nil text)) reads) in
    let count : line_feeds text ≡ suc (suc (length h.fields)) = head_fields text h reads blank in
    absurd (omega arith))

pub head_none : (text : List ℕ) → HasNoRequest text → read_head text ≡ None
head_none text none = no_head text (λ h reads blank. none h [] reads)

-- ---- the answer

pub judge_many : (text : List ℕ) (n : ℕ) → n ≡ line_feeds text → 66 < n → Faulty 431 ≡ judge text
unfolding judge
judge_many text n is over = sym (cond-true (nat_lt 66 (line_feeds text)) (Faulty 431) (judge_head (read_head text)) (lt-ltb 66 (line_feeds text) (omega arith)))

pub judge_few : (text : List ℕ) → line_feeds text ≤ 66 → judge text ≡ judge_head (read_head text)
unfolding judge
judge_few text few = cond-false (nat_lt 66 (line_feeds text)) (Faulty 431) (judge_head (read_head text)) (le-ltb 66 (line_feeds text) few)

pub judge_none : (text : List ℕ) → line_feeds text ≤ 66 → read_head text ≡ None → Faulty 400 ≡ judge text
judge_none text few none = sym (judge_few text few ∙ ap judge_head none)

pub judge_some : (text : List ℕ) (h : RequestHead) (o : Option Pairs) → line_feeds text ≤ 66 → read_head text ≡ Some h → o ≡ fields_of (map name_and_value h.fields) → judge_named h o ≡ judge text
judge_some text h o few is fields = ap (judge_named h) fields ∙ sym (judge_few text few ∙ ap judge_head is)
