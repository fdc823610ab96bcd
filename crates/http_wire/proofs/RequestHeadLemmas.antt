-- Reading the head of a request is the grammar of `httparse`, both ways.
use Rattle.std.proofs.Common.{◌≡◌, ◌∷◌, [], ◌++◌, ◌<◌, ◌≤◌, ℕ, List, length, Option, Some, None, Bool, true, false, cond, inl, inr, sym, refl, ap, ◌∙◌, subst, append_assoc}
use Rattle.std.specs.Prelude.{◌==◌, ◌&&◌, nat_lt, IsUtf8}
use Rattle.std.specs.List.{list_all}
use Rattle.std.specs.Str.{is_utf8}
use Rattle.std.proofs.lemmas.Bool.{ltb-true, lt-ltb, and_parts, and_from}
use Rattle.std.proofs.lemmas.List.{append-nil}
use Rattle.std.proofs.lemmas.List.Sums.{AllPass-from_list_all, list_all-from_AllPass}
use Rattle.std.proofs.lemmas.Str.{IsUtf8-from_is_utf8, is_utf8-from_IsUtf8}
use Rattle.httparse.specs.Grammar.{is_token_byte, is_uri_byte, AllPass, IsToken, is_token, LineEnd, print_end, print_blank, print_version, Field, print_section, RequestHead, IsRequestHead, print_request, ReadsRequest}
use Rattle.httparse.proofs.GrammarLemmas.{print_request-append, cons-append}
use Rattle.http_wire.specs.Lines.{Line, lines_of, cut_at, ◌>>=◌}
use Rattle.http_wire.specs.HeadLines.{minor_of, section_of}
use Rattle.http_wire.specs.RequestHead.{Start, is_target, start_of, head_of, read_head}
use Rattle.http_wire.proofs.HeadLineLemmas.{print_lines, bind_some, chosen, lines_of_print, Lacks, Lacks_pass, Lacks_append, cut_at_print, cut_at_reads, IsToken_is, is_token_from, token_space, token_lf, token_cr, section_lines, section_of_print, section_of_reads, minor_of_print, minor_of_reads, fields_each, each_fields, section_print, IsClean, lines_of_clean, section_clean, version_clean}

-- ---- the first line

abbrev pub start_line : List ℕ → List ℕ → ℕ → List ℕ
start_line method target minor = method ++ 32 ∷ (target ++ 32 ∷ print_version minor)

pub record IsStart (s : Start) : Type 0 where
  pub method : IsToken s.method
  pub target : (0 < length s.target) × AllPass is_uri_byte s.target
  pub target_text : IsUtf8 s.target
  pub minor : s.minor ≤ 1

is_target_from : (s : Start) → IsStart s → is_target s.target ≡ true
is_target_from s is = and_from (nat_lt 0 (length s.target) && list_all is_uri_byte s.target) (is_utf8 s.target)
    (and_from (nat_lt 0 (length s.target)) (list_all is_uri_byte s.target) (lt-ltb 0 (length s.target) is.target.0) (list_all-from_AllPass is_uri_byte s.target is.target.1))
    (is_utf8-from_IsUtf8 s.target is.target_text)

abbrev pub started : List ℕ → List ℕ → ℕ → Option Start
started method target minor = cond (is_token method && is_target target) (Some (record { method = method; target = target; minor = minor })) None

pub start_of_print : (s : Start) → IsStart s → start_of (start_line s.method s.target s.minor) ≡ Some s
start_of_print s is =
    ap (λ (o : Option (List ℕ × List ℕ)). o >>= λ first. cut_at 32 first.1 >>= λ second. minor_of second.1 >>= λ minor. started first.0 second.0 minor)
    (cut_at_print 32 s.method (s.target ++ 32 ∷ print_version s.minor) (Lacks_pass 32 is_token_byte token_space s.method is.method.1))
    ∙ ap (λ (o : Option (List ℕ × List ℕ)). o >>= λ second. minor_of second.1 >>= λ minor. started s.method second.0 minor)
    (cut_at_print 32 s.target (print_version s.minor) (Lacks_pass 32 is_uri_byte refl s.target is.target.1))
    ∙ ap (λ (o : Option ℕ). o >>= started s.method s.target) (minor_of_print s.minor is.minor)
    ∙ ap (λ (t : Bool). cond t (Some s) None) (and_from (is_token s.method) (is_target s.target) (is_token_from s.method is.method) (is_target_from s is))

pub start_of_reads : (line : List ℕ) (s : Start) → start_of line ≡ Some s → IsStart s × (line ≡ start_line s.method s.target s.minor)
start_of_reads line s h =
    let first = bind_some (cut_at 32 line) (λ first. cut_at 32 first.1 >>= λ second. minor_of second.1 >>= λ minor. started first.0 second.0 minor) s h in
    let second = bind_some (cut_at 32 first.0.1) (λ second. minor_of second.1 >>= λ minor. started first.0.0 second.0 minor) s first.2 in
    let minor = bind_some (minor_of second.0.1) (λ minor. started first.0.0 second.0.0 minor) s second.2 in
    let version = minor_of_reads second.0.1 minor.0 minor.1 in
    elim (chosen (is_token first.0.0 && is_target second.0.0) (Some (record { method = first.0.0; target = second.0.0; minor = minor.0 })) None (Some s) minor.2) [
      | inl t ↦
          let tests = and_parts (is_token first.0.0) (is_target second.0.0) t.0 in
          let target = and_parts (nat_lt 0 (length second.0.0) && list_all is_uri_byte second.0.0) (is_utf8 second.0.0) tests.1 in
          let bytes = and_parts (nat_lt 0 (length second.0.0)) (list_all is_uri_byte second.0.0) target.0 in
          let made : Start = record { method = first.0.0; target = second.0.0; minor = minor.0 } in
          let is : made ≡ s = cc (t.1) in
          let good : IsStart made = record {
            method = IsToken_is first.0.0 tests.0;
            target = (ltb-true 0 (length second.0.0) bytes.0, AllPass-from_list_all is_uri_byte second.0.0 bytes.1);
            target_text = IsUtf8-from_is_utf8 second.0.0 target.1;
            minor = version.0;
          } in (
            subst IsStart is good,
            cut_at_reads 32 line first.0 first.1
                ∙ ap (λ (l : List ℕ). first.0.0 ++ 32 ∷ l) (cut_at_reads 32 first.0.1 second.0 second.1 ∙ ap (λ (l : List ℕ). second.0.0 ++ 32 ∷ l) version.1)
                ∙ ap (λ (x : Start). start_line x.method x.target x.minor) is,
          )
      | inr t ↦ cc (t.1)
    ]

-- ---- the whole head

abbrev pub head_lines : RequestHead → List Line
head_lines h = (start_line h.method h.target h.minor, h.line_end) ∷ section_lines h.fields h.last

start_clean : (h : RequestHead) → IsRequestHead h → (stop : ℕ) → is_token_byte stop ≡ false → is_uri_byte stop ≡ false → 32 == stop ≡ false → Lacks stop (print_version h.minor) → Lacks stop (start_line h.method h.target h.minor)
start_clean h is stop token uri space version =
    Lacks_append stop h.method (32 ∷ (h.target ++ 32 ∷ print_version h.minor)) (Lacks_pass stop is_token_byte token h.method is.method.1)
    (space, Lacks_append stop h.target (32 ∷ print_version h.minor) (Lacks_pass stop is_uri_byte uri h.target is.target.1) (space, version))

head_clean : (h : RequestHead) → IsRequestHead h → IsClean (head_lines h)
head_clean h is =
    let version = version_clean h.minor is.minor in
    (start_clean h is 10 token_lf refl refl version.0, start_clean h is 13 token_cr refl refl version.1, section_clean h.fields h.last (fields_each h.fields is.fields))

-- the text of a head without empty lines before it
head_print : (h : RequestHead) → h.blank ≡ [] → print_request h ≡ print_lines (head_lines h)
head_print h blank =
    sym (append-nil (print_request h))
    ∙ print_request-append h []
    ∙ ap (λ (ends : List LineEnd). print_blank ends ++ (h.method ++ 32 ∷ (h.target ++ 32 ∷ (print_version h.minor ++ (print_end h.line_end ++ (print_section h.fields h.last ++ [])))))) blank
    ∙ ap (λ (l : List ℕ). h.method ++ 32 ∷ (h.target ++ 32 ∷ (print_version h.minor ++ (print_end h.line_end ++ l)))) (append-nil (print_section h.fields h.last) ∙ sym (section_print h.fields h.last))
    ∙ sym (regroup h.method h.target (print_version h.minor) (print_end h.line_end) (print_lines (section_lines h.fields h.last)))
  where
    regroup : (a b c d e : List ℕ) → ((a ++ 32 ∷ (b ++ 32 ∷ c)) ++ d) ++ e ≡ a ++ 32 ∷ (b ++ 32 ∷ (c ++ (d ++ e)))
    regroup a b c d e = simp (append_assoc, cons-append)

-- What the grammar reads, this reads, where no empty line stands before it.
pub read_head_print : (text : List ℕ) (h : RequestHead) → ReadsRequest text h [] → h.blank ≡ [] → (lines_of text ≡ Some (head_lines h)) × (read_head text ≡ Some h)
unfolding read_head
read_head_print text h reads blank =
    let is : IsRequestHead h = reads.0 in
    let same : text ≡ print_lines (head_lines h) = reads.1 ∙ append-nil (print_request h) ∙ head_print h blank in
    let lines : lines_of text ≡ Some (head_lines h) = ap lines_of same ∙ lines_of_clean (head_lines h) (head_clean h is) in
    let s : Start = record { method = h.method; target = h.target; minor = h.minor } in
    let start : start_of (start_line h.method h.target h.minor) ≡ Some s = start_of_print s (record { method = is.method; target = is.target; target_text = is.target_text; minor = is.minor }) in (
      lines,
      ap (λ (o : Option (List Line)). o >>= head_of) lines
          ∙ ap (λ (o : Option Start). o >>= λ start. section_of (section_lines h.fields h.last) >>= λ section. Some (made start section.0 section.1)) start
          ∙ ap (λ (o : Option (List Field × LineEnd)). o >>= λ section. Some (made s section.0 section.1)) (section_of_print h.fields h.last (fields_each h.fields is.fields))
          ∙ ap (λ (ends : List LineEnd). Some (record h { blank = ends })) (sym blank),
    )
  where
    made : Start → List Field → LineEnd → RequestHead
    made start fields last = record { blank = []; method = start.method; target = start.target; minor = start.minor; line_end = h.line_end; fields = fields; last = last }

-- What this reads, the grammar reads.
pub read_head_reads : (text : List ℕ) (h : RequestHead) → read_head text ≡ Some h → ReadsRequest text h [] × (h.blank ≡ [])
unfolding read_head
read_head_reads text h r =
    let lines = bind_some (lines_of text) head_of h r in
    let print : text ≡ print_lines lines.0 = lines_of_print text lines.0 lines.1 in
    of_lines lines.0 lines.2 print
  where
    of_lines : (lines : List Line) → head_of lines ≡ Some h → text ≡ print_lines lines → ReadsRequest text h [] × (h.blank ≡ [])
    of_lines [] e p = cc
    of_lines (line ∷ lines) e p =
        let made : Start → List Field × LineEnd → RequestHead = λ start section. record { blank = []; method = start.method; target = start.target; minor = start.minor; line_end = line.1; fields = section.0; last = section.1 } in
        let start = bind_some (start_of line.0) (λ start. section_of lines >>= λ section. Some (made start section)) h e in
        let section = bind_some (section_of lines) (λ section. Some (made start.0 section)) h start.2 in
        let first = start_of_reads line.0 start.0 start.1 in
        let after = section_of_reads lines section.0 section.1 in
        let m : RequestHead = made start.0 section.0 in
        let is : m ≡ h = cc (section.2) in
        let good : IsRequestHead m = record { method = first.0.method; target = first.0.target; target_text = first.0.target_text; minor = first.0.minor; fields = each_fields section.0.0 after.0 } in
        let spelled : text ≡ print_request m ++ [] =
        p ∙ (λ i. (first.1 i ++ print_end line.1) ++ (after.1 ∙ sym (section_print section.0.0 section.0.1)) i) ∙ sym (head_print m refl) ∙ sym (append-nil (print_request m)) in
        subst (λ (x : RequestHead). ReadsRequest text x [] × (x.blank ≡ [])) is ((good, spelled), refl)
