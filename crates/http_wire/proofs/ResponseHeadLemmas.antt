-- Reading the head of a response is the grammar of `httparse`, both ways, where no more than one empty line stands before it.
use Rattle.std.proofs.Common.{◌≡◌, ◌∷◌, [], ◌++◌, ◌≤◌, ℕ, zero, suc, List, length, take, drop, Option, Some, None, Bool, true, false, cond, inl, inr, sym, refl, ap, ◌∙◌, subst, append_assoc, arith}
use Rattle.std.specs.Prelude.{◌==◌, ◌&&◌, not}
use Rattle.std.specs.List.{list_all}
use Rattle.std.specs.Char.{is_ascii_digit}
use Rattle.std.proofs.lemmas.Bool.{and_parts, and_from, eqb-true, eq-eqb}
use Rattle.std.proofs.lemmas.List.{append-nil, take-append-drop, take-append-le, drop-append-le, take_all}
use Rattle.std.proofs.lemmas.List.Sums.{AllPass-from_list_all, list_all-from_AllPass}
use Rattle.httparse.specs.Grammar.{is_value_byte, AllPass, LineEnd, print_end, print_blank, print_version, print_reason, reason_phrase, Field, print_section, ResponseHead, IsResponseHead, print_response, ReadsResponse}
use Rattle.httparse.proofs.GrammarLemmas.{print_response-append, cons-append}
use Rattle.http_wire.specs.Lines.{Line, lines_of, cut_at, ◌>>=◌}
use Rattle.http_wire.specs.Values.{is_empty}
use Rattle.http_wire.specs.HeadLines.{minor_of, section_of}
use Rattle.http_wire.specs.ResponseHead.{StatusLine, is_code, reason_of, status_line_of, head_behind, response_head_of, read_response_head}
use Rattle.http_wire.proofs.HeadLineLemmas.{print_lines, bind_some, chosen, Lacks, Lacks_by, Lacks_pass, Lacks_append, cut_at_print, cut_at_reads, minor_of_print, minor_of_reads, section_lines, section_of_print, section_of_reads, section_print, fields_each, each_fields, IsClean, lines_of_clean, lines_of_print, section_clean, version_clean, end_before, empty_is}

-- ---- the status line

abbrev pub status_text : ℕ → List ℕ → Option (List ℕ) → List ℕ
status_text minor digits reason = print_version minor ++ 32 ∷ (digits ++ print_reason reason)

pub record IsStatus (s : StatusLine) : Type 0 where
  pub minor : s.minor ≤ 1
  pub digits : (length s.digits ≡ 3) × AllPass is_ascii_digit s.digits
  pub reason : AllPass is_value_byte (reason_phrase s.reason)

reason_of_print : (reason : Option (List ℕ)) → AllPass is_value_byte (reason_phrase reason) → reason_of (print_reason reason) ≡ Some reason
reason_of_print None all = refl
reason_of_print (Some phrase) all = ap (λ (t : Bool). cond t (Some (Some phrase)) None) (list_all-from_AllPass is_value_byte phrase all)

reason_of_reads : (text : List ℕ) (reason : Option (List ℕ)) → reason_of text ≡ Some reason → AllPass is_value_byte (reason_phrase reason) × (text ≡ print_reason reason)
reason_of_reads [] reason h =
    let is : ◌≡◌ {A = Option (List ℕ)} None reason = cc in
    subst (λ (r : Option (List ℕ)). AllPass is_value_byte (reason_phrase r) × ([] ≡ print_reason r)) is (AllPass-from_list_all is_value_byte [] refl, refl)
reason_of_reads (b ∷ phrase) reason h =
    elim (chosen (b == 32 && list_all is_value_byte phrase) (Some (Some phrase)) None (Some reason) h) [
      | inl t ↦
          let parts = and_parts (b == 32) (list_all is_value_byte phrase) t.0 in
          let is : ◌≡◌ {A = Option (List ℕ)} (Some phrase) reason = cc (t.1) in
          subst (λ (r : Option (List ℕ)). AllPass is_value_byte (reason_phrase r) × (b ∷ phrase ≡ print_reason r)) is
          (AllPass-from_list_all is_value_byte phrase parts.1, ap (λ (n : ℕ). n ∷ phrase) (eqb-true b 32 parts.0))
      | inr t ↦ cc (t.1)
    ]

is_code_from : (digits : List ℕ) → (length digits ≡ 3) × AllPass is_ascii_digit digits → is_code digits ≡ true
is_code_from digits is = and_from (length digits == 3) (list_all is_ascii_digit digits) (eq-eqb (length digits) 3 is.0) (list_all-from_AllPass is_ascii_digit digits is.1)

code_is : (digits : List ℕ) → is_code digits ≡ true → (length digits ≡ 3) × AllPass is_ascii_digit digits
code_is digits h = let parts = and_parts (length digits == 3) (list_all is_ascii_digit digits) h in (eqb-true (length digits) 3 parts.0, AllPass-from_list_all is_ascii_digit digits parts.1)

front_three : (digits rest : List ℕ) → length digits ≡ 3 → take 3 (digits ++ rest) ≡ digits
front_three digits rest three = take-append-le 3 digits rest (omega arith) ∙ take_all 3 digits (omega arith)

drop_all_of : (n : ℕ) (l : List ℕ) → n ≡ length l → drop n l ≡ []
drop_all_of n l e = ap (λ (k : ℕ). drop k l) e ∙ all l
  where
    all : (l : List ℕ) → drop (length l) l ≡ []
    all [] = refl
    all (x ∷ l) = all l

back_three : (digits rest : List ℕ) → length digits ≡ 3 → drop 3 (digits ++ rest) ≡ rest
back_three digits rest three = drop-append-le 3 digits rest (omega arith) ∙ ap (λ (l : List ℕ). l ++ rest) (drop_all_of 3 digits (sym three))

version_space : (minor : ℕ) → minor ≤ 1 → Lacks 32 (print_version minor)
version_space zero h = Lacks_by 32 (λ b. not (b == 32)) refl (print_version 0) refl
version_space (suc zero) h = Lacks_by 32 (λ b. not (b == 32)) refl (print_version 1) refl
version_space (suc (suc n)) h = absurd (omega arith)

abbrev pub stated : ℕ → List ℕ → Option (List ℕ) → Option StatusLine
stated minor text reason = cond (is_code (take 3 text)) (Some (record { minor = minor; digits = take 3 text; reason = reason })) None

pub status_line_print : (s : StatusLine) → IsStatus s → status_line_of (status_text s.minor s.digits s.reason) ≡ Some s
status_line_print s is =
    let text = s.digits ++ print_reason s.reason in
    ap (λ (o : Option (List ℕ × List ℕ)). o >>= λ first. minor_of first.0 >>= λ minor. reason_of (drop 3 first.1) >>= stated minor first.1)
    (cut_at_print 32 (print_version s.minor) text (version_space s.minor is.minor))
    ∙ ap (λ (o : Option ℕ). o >>= λ minor. reason_of (drop 3 text) >>= stated minor text) (minor_of_print s.minor is.minor)
    ∙ ap (λ (o : Option (Option (List ℕ))). o >>= stated s.minor text) (ap reason_of (back_three s.digits (print_reason s.reason) is.digits.0) ∙ reason_of_print s.reason is.reason)
    ∙ ap (λ (l : List ℕ). cond (is_code l) (Some (record { minor = s.minor; digits = l; reason = s.reason })) None) (front_three s.digits (print_reason s.reason) is.digits.0)
    ∙ ap (λ (t : Bool). cond t (Some s) None) (is_code_from s.digits is.digits)

pub status_line_reads : (line : List ℕ) (s : StatusLine) → status_line_of line ≡ Some s → IsStatus s × (line ≡ status_text s.minor s.digits s.reason)
status_line_reads line s h =
    let first = bind_some (cut_at 32 line) (λ first. minor_of first.0 >>= λ minor. reason_of (drop 3 first.1) >>= stated minor first.1) s h in
    let minor = bind_some (minor_of first.0.0) (λ minor. reason_of (drop 3 first.0.1) >>= stated minor first.0.1) s first.2 in
    let reason = bind_some (reason_of (drop 3 first.0.1)) (stated minor.0 first.0.1) s minor.2 in
    let version = minor_of_reads first.0.0 minor.0 minor.1 in
    let phrase = reason_of_reads (drop 3 first.0.1) reason.0 reason.1 in
    elim (chosen (is_code (take 3 first.0.1)) (Some (record { minor = minor.0; digits = take 3 first.0.1; reason = reason.0 })) None (Some s) reason.2) [
      | inl t ↦
          let made : StatusLine = record { minor = minor.0; digits = take 3 first.0.1; reason = reason.0 } in
          let is : made ≡ s = cc (t.1) in
          let good : IsStatus made = record { minor = version.0; digits = code_is (take 3 first.0.1) t.0; reason = phrase.0 } in (
            subst IsStatus is good,
            cut_at_reads 32 line first.0 first.1
                ∙ (λ i. version.1 i ++ 32 ∷ (sym (take-append-drop 3 first.0.1) ∙ ap (λ (l : List ℕ). take 3 first.0.1 ++ l) phrase.1) i)
                ∙ ap (λ (x : StatusLine). status_text x.minor x.digits x.reason) is,
          )
      | inr t ↦ cc (t.1)
    ]

-- ---- the whole head

abbrev pub blank_lines : List LineEnd → List Line
blank_lines [] = []
blank_lines (end ∷ ends) = ([], end) ∷ blank_lines ends

abbrev pub response_lines : ResponseHead → List Line
response_lines h = (status_text h.minor h.digits h.reason, h.line_end) ∷ section_lines h.fields h.last

status_clean : (h : ResponseHead) → IsResponseHead h → (stop : ℕ) → is_ascii_digit stop ≡ false → is_value_byte stop ≡ false → 32 == stop ≡ false → Lacks stop (print_version h.minor) → Lacks stop (status_text h.minor h.digits h.reason)
status_clean h is stop digit value space version =
    Lacks_append stop (print_version h.minor) (32 ∷ (h.digits ++ print_reason h.reason)) version
    (space, Lacks_append stop h.digits (print_reason h.reason) (Lacks_pass stop is_ascii_digit digit h.digits is.digits.1) (phrase h.reason is.reason))
  where
    phrase : (reason : Option (List ℕ)) → AllPass is_value_byte (reason_phrase reason) → Lacks stop (print_reason reason)
    phrase None all = tt
    phrase (Some text) all = (space, Lacks_pass stop is_value_byte value text all)

response_clean : (h : ResponseHead) → IsResponseHead h → IsClean (response_lines h)
response_clean h is =
    let version = version_clean h.minor is.minor in
    (status_clean h is 10 refl refl refl version.0, status_clean h is 13 refl refl refl version.1, section_clean h.fields h.last (fields_each h.fields is.fields))

-- the text of a head behind its empty lines
pub response_print : (h : ResponseHead) → print_response h ≡ print_blank h.blank ++ print_lines (response_lines h)
response_print h =
    sym (append-nil (print_response h))
    ∙ print_response-append h []
    ∙ ap (λ (l : List ℕ). print_blank h.blank ++ (print_version h.minor ++ 32 ∷ (h.digits ++ (print_reason h.reason ++ (print_end h.line_end ++ l))))) (append-nil (print_section h.fields h.last) ∙ sym (section_print h.fields h.last))
    ∙ ap (λ (l : List ℕ). print_blank h.blank ++ l) (sym (regroup (print_version h.minor) h.digits (print_reason h.reason) (print_end h.line_end) (print_lines (section_lines h.fields h.last))))
  where
    regroup : (a b c d e : List ℕ) → ((a ++ 32 ∷ (b ++ c)) ++ d) ++ e ≡ a ++ 32 ∷ (b ++ (c ++ (d ++ e)))
    regroup a b c d e = simp (append_assoc, cons-append)

blank_before : (blank : List LineEnd) (text : List ℕ) (lines : List Line) → lines_of text ≡ Some lines → lines_of (print_blank blank ++ text) ≡ Some (blank_lines blank ++ lines)
blank_before [] text lines h = h
blank_before (end ∷ blank) text lines h =
    ap lines_of (append_assoc (print_end end) (print_blank blank) text) ∙ end_before end (print_blank blank ++ text) (blank_lines blank ++ lines) (blank_before blank text lines h)

-- at most one empty line
abbrev pub IsFew : List LineEnd → Type 0
IsFew [] = Unit {0}
IsFew (end ∷ []) = Unit {0}
IsFew (end ∷ next ∷ blank) = ⊥

module _ (h : ResponseHead) (is : IsResponseHead h) where
  abbrev made : List LineEnd → StatusLine → List Field → LineEnd → ResponseHead
  made blank start fields last = record { blank = blank; minor = start.minor; digits = start.digits; reason = start.reason; line_end = h.line_end; fields = fields; last = last }

  behind_print : (blank : List LineEnd) → head_behind blank (response_lines h) ≡ Some (record h { blank = blank })
  behind_print blank =
      let s : StatusLine = record { minor = h.minor; digits = h.digits; reason = h.reason } in
      ap (λ (o : Option StatusLine). o >>= λ start. section_of (section_lines h.fields h.last) >>= λ section. Some (made blank start section.0 section.1))
      (status_line_print s (record { minor = is.minor; digits = is.digits; reason = is.reason }))
      ∙ ap (λ (o : Option (List Field × LineEnd)). o >>= λ section. Some (made blank s section.0 section.1)) (section_of_print h.fields h.last (fields_each h.fields is.fields))

  few_print : (blank : List LineEnd) → IsFew blank → response_head_of (blank_lines blank ++ response_lines h) ≡ Some (record h { blank = blank })
  few_print [] few = behind_print []
  few_print (end ∷ []) few = behind_print (end ∷ [])
  few_print (end ∷ next ∷ blank) few = absurd few

-- What the grammar reads, this reads, where no more than one empty line stands before it.
pub read_response_print : (text : List ℕ) (h : ResponseHead) → ReadsResponse text h [] → IsFew h.blank →
    (lines_of text ≡ Some (blank_lines h.blank ++ response_lines h)) × (read_response_head text ≡ Some h)
unfolding read_response_head
read_response_print text h reads few =
    let same : text ≡ print_blank h.blank ++ print_lines (response_lines h) = reads.1 ∙ append-nil (print_response h) ∙ response_print h in
    let lines = ap lines_of same ∙ blank_before h.blank (print_lines (response_lines h)) (response_lines h) (lines_of_clean (response_lines h) (response_clean h reads.0)) in
    (lines, ap (λ (o : Option (List Line)). o >>= response_head_of) lines ∙ few_print h reads.0 h.blank few)

-- What this reads, the grammar reads.
pub read_response_reads : (text : List ℕ) (h : ResponseHead) → read_response_head text ≡ Some h → ReadsResponse text h [] × IsFew h.blank
unfolding read_response_head
read_response_reads text h r =
    let lines = bind_some (lines_of text) response_head_of h r in
    of_lines lines.0 lines.2 (lines_of_print text lines.0 lines.1)
  where
    behind : (blank : List LineEnd) (lines : List Line) → IsFew blank → head_behind blank lines ≡ Some h → text ≡ print_blank blank ++ print_lines lines → ReadsResponse text h [] × IsFew h.blank
    behind blank [] few e p = cc
    behind blank (line ∷ lines) few e p =
        let mk : StatusLine → List Field × LineEnd → ResponseHead = λ start section. record { blank = blank; minor = start.minor; digits = start.digits; reason = start.reason; line_end = line.1; fields = section.0; last = section.1 } in
        let start = bind_some (status_line_of line.0) (λ start. section_of lines >>= λ section. Some (mk start section)) h e in
        let section = bind_some (section_of lines) (λ section. Some (mk start.0 section)) h start.2 in
        let first = status_line_reads line.0 start.0 start.1 in
        let after = section_of_reads lines section.0 section.1 in
        let m : ResponseHead = mk start.0 section.0 in
        let is : m ≡ h = cc (section.2) in
        let good : IsResponseHead m = record { minor = first.0.minor; digits = first.0.digits; reason = first.0.reason; fields = each_fields section.0.0 after.0 } in
        let spelled : text ≡ print_response m ++ [] =
        p ∙ ap (λ (l : List ℕ). print_blank blank ++ l) (λ i. (first.1 i ++ print_end line.1) ++ (after.1 ∙ sym (section_print section.0.0 section.0.1)) i) ∙ sym (response_print m) ∙ sym (append-nil (print_response m)) in
        subst (λ (x : ResponseHead). ReadsResponse text x [] × IsFew x.blank) is ((good, spelled), few)

    of_lines : (lines : List Line) → response_head_of lines ≡ Some h → text ≡ print_lines lines → ReadsResponse text h [] × IsFew h.blank
    of_lines [] e p = cc
    of_lines (line ∷ lines) e p = elim (chosen (is_empty line.0) (head_behind (line.1 ∷ []) lines) (head_behind [] (line ∷ lines)) (Some h) e) [
      | inl t ↦
          let none : line.0 ≡ [] = empty_is line.0 t.0 in
          behind (line.1 ∷ []) lines tt t.1 (p ∙ ap (λ (l : List ℕ). (l ++ print_end line.1) ++ print_lines lines) none ∙ ap (λ (l : List ℕ). l ++ print_lines lines) (sym (append-nil (print_end line.1))))
      | inr t ↦ behind [] (line ∷ lines) tt t.1 p
    ]
