-- Judging the text of a response's head.
use Rattle.std.proofs.Common.{◌≡◌, ◌∷◌, [], ◌++◌, ◌<◌, ◌≤◌, ◌+◌, ◌-◌, ℕ, suc, List, length, map, drop, Option, Some, None, Bool, cond, sym, refl, ap, ◌∙◌, subst, append_assoc, length-append, length-drop, arith}
use Rattle.std.specs.Prelude.{nat_lt}
use Rattle.std.specs.Option.{option_map}
use Rattle.std.proofs.lemmas.Bool.{lt-ltb, le-ltb, cond-true, cond-false}
use Rattle.std.proofs.lemmas.List.{append-nil}
use Rattle.httparse.specs.Grammar.{LineEnd, crlf, lf, print_blank, print_end, ResponseHead, print_response, ReadsResponse, HasNoResponse}
use Rattle.httparse.specs.Spans.{ResponseOverflows}
use Rattle.httparse.proofs.GrammarLemmas.{response_unique}
use Rattle.http_wire.specs.HeadPlace.{head_len}
use Rattle.http_wire.specs.Lines.{line_feeds}
use Rattle.http_wire.specs.ResponseHead.{read_response_head}
use Rattle.httparse.specs.Spans.{name_and_value}
use Rattle.http_wire.specs.declared.response_checks.JudgedResponse.TheVariants.{Faulty}
use Rattle.http_wire.specs.Fields.{Pairs, fields_of}
use Rattle.http_wire.specs.ResponseChecks.{judge_response, judge_response_head, judge_response_named}
use Rattle.http_wire.proofs.HeadLineLemmas.{print_lines}
use Rattle.http_wire.proofs.JudgingLemmas.{lines_count, section_count, empty_lf, drop_all}
use Rattle.http_wire.proofs.ResponseHeadLemmas.{IsFew, blank_lines, response_lines, response_print, read_response_print, read_response_reads}

-- ---- the empty lines before a head

-- two empty lines are a whole head
two_ends : (a b : LineEnd) (rest : List ℕ) → head_len (print_end a ++ (print_end b ++ rest)) ≡ Some (length (print_end a) + length (print_end b))
two_ends lf lf rest = ap (λ (n : ℕ). cond (nat_lt 0 n) (Some (suc n)) (option_map suc (head_len (10 ∷ rest)))) (empty_lf rest)
two_ends lf crlf rest = refl
two_ends crlf lf rest = ap (option_map suc) (ap (λ (n : ℕ). cond (nat_lt 0 n) (Some (suc n)) (option_map suc (head_len (10 ∷ rest)))) (empty_lf rest))
two_ends crlf crlf rest = refl

few_ends : (blank : List LineEnd) (rest : List ℕ) → 0 < length rest → head_len (print_blank blank ++ rest) ≡ Some (length (print_blank blank ++ rest)) → IsFew blank
few_ends [] rest l h = tt
few_ends (end ∷ []) rest l h = tt
few_ends (a ∷ b ∷ blank) rest l h =
    let more = print_blank blank ++ rest in
    let text : print_blank (a ∷ b ∷ blank) ++ rest ≡ print_end a ++ (print_end b ++ more) = regroup (print_end a) (print_end b) (print_blank blank) rest in
    let found : Some (length (print_end a) + length (print_end b)) ≡ Some (length (print_blank (a ∷ b ∷ blank) ++ rest)) = sym (two_ends a b more) ∙ ap head_len (sym text) ∙ h in
    let same : length (print_end a) + length (print_end b) ≡ length (print_blank (a ∷ b ∷ blank) ++ rest) = cc in
    let all : length (print_blank (a ∷ b ∷ blank) ++ rest) ≡ length (print_end a) + (length (print_end b) + length more) =
    ap length text ∙ length-append (print_end a) (print_end b ++ more) ∙ ap (λ (n : ℕ). length (print_end a) + n) (length-append (print_end b) more) in
    let some : length more ≡ length (print_blank blank) + length rest = length-append (print_blank blank) rest in
    absurd (omega arith)
  where
    regroup : (a b c d : List ℕ) → (a ++ (b ++ c)) ++ d ≡ a ++ (b ++ (c ++ d))
    regroup a b c d = simp append_assoc

-- no more than one empty line stands before the head
pub few_blank : (text : List ℕ) (h : ResponseHead) → ReadsResponse text h [] → head_len text ≡ Some (length text) → IsFew h.blank
few_blank text h reads whole =
    let rest = print_lines (response_lines h) in
    let same : text ≡ print_blank h.blank ++ rest = reads.1 ∙ append-nil (print_response h) ∙ response_print h in
    few_ends h.blank rest (omega arith) (subst (λ (t : List ℕ). head_len t ≡ Some (length t)) same whole)

-- ---- how many fields a head has

blank_count : (blank : List LineEnd) → length (blank_lines blank) ≡ length blank
blank_count [] = refl
blank_count (end ∷ blank) = ap suc (blank_count blank)

-- a head has two lines more than fields and empty lines before it
response_fields : (text : List ℕ) (h : ResponseHead) → ReadsResponse text h [] → IsFew h.blank → line_feeds text ≡ length h.blank + suc (suc (length h.fields))
response_fields text h reads few =
    lines_count text (blank_lines h.blank ++ response_lines h) (read_response_print text h reads few).0
    ∙ length-append (blank_lines h.blank) (response_lines h)
    ∙ (λ i. blank_count h.blank i + suc (section_count h.fields h.last i))

-- ---- what the parser answers

no_response_by : (text : List ℕ) (o : Option ResponseHead) → read_response_head text ≡ o → ((h : ResponseHead) → ReadsResponse text h [] → IsFew h.blank → ⊥) → o ≡ None
no_response_by text None e none = refl
no_response_by text (Some h) e none = let r = read_response_reads text h e in absurd (none h r.0 r.1)

no_response : (text : List ℕ) → ((h : ResponseHead) → ReadsResponse text h [] → IsFew h.blank → ⊥) → read_response_head text ≡ None
no_response text none = no_response_by text (read_response_head text) refl none

-- a head before the text's end
pub response_before : (text : List ℕ) (h : ResponseHead) (len : ℕ) → ReadsResponse text h (drop len text) → len ≤ length text → (len ≡ length text → ⊥) → read_response_head text ≡ None
response_before text h len reads le ne = no_response text (λ k is few.
    let same = response_unique text h k (drop len text) [] reads is in
    let size : length (drop len text) ≡ length text - len = length-drop len text in
    let none : length (drop len text) ≡ 0 = ap length same.1 in
    ne (omega arith))

-- the head that the text is
pub response_whole : (text : List ℕ) (h : ResponseHead) (len : ℕ) → ReadsResponse text h (drop len text) → len ≡ length text → head_len text ≡ Some (length text) → read_response_head text ≡ Some h
response_whole text h len reads all whole =
    let is : ReadsResponse text h [] = subst (λ (rest : List ℕ). ReadsResponse text h rest) (drop_all len text all) reads in
    (read_response_print text h is (few_blank text h is whole)).1

pub response_overflows : (text : List ℕ) → ResponseOverflows 64 text → line_feeds text ≤ 66 → read_response_head text ≡ None
response_overflows text over few = no_response text (λ h reads blank.
    let more : 64 < length h.fields = over [] h [] (subst (λ (t : List ℕ). ReadsResponse t h []) (sym (append-nil text)) reads) in
    let count : line_feeds text ≡ length h.blank + suc (suc (length h.fields)) = response_fields text h reads blank in
    absurd (omega arith))

pub response_none : (text : List ℕ) → HasNoResponse text → read_response_head text ≡ None
response_none text none = no_response text (λ h reads blank. none h [] reads)

-- ---- the answer

module _ (to_head : Bool) (text : List ℕ) where
  pub response_many : (n : ℕ) → n ≡ line_feeds text → 66 < n → Faulty ≡ judge_response to_head text
  unfolding judge_response
  response_many n is over = sym (cond-true (nat_lt 66 (line_feeds text)) Faulty (judge_response_head to_head (read_response_head text)) (lt-ltb 66 (line_feeds text) (omega arith)))

  response_few : line_feeds text ≤ 66 → judge_response to_head text ≡ judge_response_head to_head (read_response_head text)
  unfolding judge_response
  response_few few = cond-false (nat_lt 66 (line_feeds text)) Faulty (judge_response_head to_head (read_response_head text)) (le-ltb 66 (line_feeds text) few)

  pub response_unread : line_feeds text ≤ 66 → read_response_head text ≡ None → Faulty ≡ judge_response to_head text
  response_unread few none = sym (response_few few ∙ ap (judge_response_head to_head) none)

  pub response_read : (h : ResponseHead) (o : Option Pairs) → line_feeds text ≤ 66 → read_response_head text ≡ Some h → o ≡ fields_of (map name_and_value h.fields) → judge_response_named to_head h o ≡ judge_response to_head text
  response_read h o few is fields = ap (judge_response_named to_head h) fields ∙ sym (response_few few ∙ ap (judge_response_head to_head) is)
