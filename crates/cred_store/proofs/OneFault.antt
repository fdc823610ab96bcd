-- A text has one first fault.
use Rattle.std.proofs.Common.{◌≡◌, ◌≢◌, ℕ, ◌+◌, true, false, List, [], ◌∷◌, ◌++◌, length, refl, sym, ap, ◌∙◌, subst, inl, inr, true≢false}
use Rattle.std.specs.declared.cmp.Ordering.{Ordering}
use Rattle.std.specs.declared.cmp.Ordering.TheVariants.{Equal, Greater}
use Rattle.auth_grammar.specs.Plain.{is_plain_name}
use Rattle.cred_store.specs.Faults.{ArePartsFaulty, BeginsFaulty, FaultAfter, FaultBehind, FirstFault, HasFaultyParts, IsFaulty, IsTitleFaulty, NextStands}
use Rattle.cred_store.specs.Keys.{entry_cmp}
use Rattle.cred_store.specs.Texts.{entry_text, header}
use Rattle.cred_store.specs.declared.entry.Entry.{Entry}
use Rattle.cred_store.specs.declared.error.LineFault.{LineFault}
use Rattle.cred_store.specs.declared.error.LineFault.TheVariants.{Form, Name, Realm, Kind, Flag, Value, Header}
use Rattle.cred_store.specs.declared.error.StoreError.{StoreError}
use Rattle.cred_store.specs.declared.error.StoreError.TheVariants.{BadLine, Repeated, Unsorted, BadName, OutOfMemory}
use Rattle.cred_store.specs.declared.version.Version.{Version}
use Rattle.cred_store.specs.declared.version.Version.TheVariants.{One, Two}
use Rattle.cred_store.proofs.Bytes.{cut_once}
use Rattle.cred_store.proofs.Parts.{count_of_parts, no_feed, one_entry, parts_are}
use Rattle.cred_store.proofs.StoreTexts.{Overlap, behind_both, behind_lines, clear_after, clear_first, has_feed, line_again, one_version, overlap, split_header, title_alone}

-- ---- one line has one fault

module _ (name realm kind flag value : List ℕ) where
  abbrev Faulty : LineFault → Type 0
  Faulty f = ArePartsFaulty f name realm kind flag value

  -- the name is at fault, or not
  at_name : (f : LineFault) → is_plain_name name ≡ false → Faulty f → Name ≡ f
  at_name Form p q = absurd q
  at_name Header p q = absurd q
  at_name Name p q = refl
  at_name Realm p q = absurd (true≢false (sym q.0 ∙ p))
  at_name Kind p q = absurd (true≢false (sym q.0.0 ∙ p))
  at_name Flag p q = absurd (true≢false (sym q.0.0 ∙ p))
  at_name Value p q = absurd (true≢false (sym q.0.0 ∙ p))

  at_realm : (f : LineFault) → is_plain_name name ≡ true → is_plain_name realm ≡ false → Faulty f → Realm ≡ f
  at_realm Form n p q = absurd q
  at_realm Header n p q = absurd q
  at_realm Name n p q = absurd (true≢false (sym n ∙ q))
  at_realm Realm n p q = refl
  at_realm Kind n p q = absurd (true≢false (sym q.0.1 ∙ p))
  at_realm Flag n p q = absurd (true≢false (sym q.0.1 ∙ p))
  at_realm Value n p q = absurd (true≢false (sym q.0.1 ∙ p))

  at_kind : (f : LineFault) → Faulty Kind → Faulty f → Kind ≡ f
  at_kind Form p q = absurd q
  at_kind Header p q = absurd q
  at_kind Name p q = absurd (true≢false (sym p.0.0 ∙ q))
  at_kind Realm p q = absurd (true≢false (sym p.0.1 ∙ q.1))
  at_kind Kind p q = refl
  at_kind Flag p q = absurd (p.1 q.1.0 q.1.1)
  at_kind Value p q = absurd (p.1 q.1.0 q.1.1)

  at_flag : (f : LineFault) → Faulty Flag → Faulty f → Flag ≡ f
  at_flag Form p q = absurd q
  at_flag Header p q = absurd q
  at_flag Name p q = absurd (true≢false (sym p.0.0 ∙ q))
  at_flag Realm p q = absurd (true≢false (sym p.0.1 ∙ q.1))
  at_flag Kind p q = absurd (q.1 p.1.0 p.1.1)
  at_flag Flag p q = refl
  at_flag Value p q = absurd (p.2 q.2.0 q.2.1)

  at_value : (f : LineFault) → Faulty Value → Faulty f → Value ≡ f
  at_value Form p q = absurd q
  at_value Header p q = absurd q
  at_value Name p q = absurd (true≢false (sym p.0.0 ∙ q))
  at_value Realm p q = absurd (true≢false (sym p.0.1 ∙ q.1))
  at_value Kind p q = absurd (q.1 p.1.0 p.1.1)
  at_value Flag p q = absurd (q.2 p.2.0 p.2.1)
  at_value Value p q = refl

  pub one_of_parts : (e f : LineFault) → Faulty e → Faulty f → e ≡ f
  one_of_parts Form f p q = absurd p
  one_of_parts Header f p q = absurd p
  one_of_parts Name f p q = at_name f p q
  one_of_parts Realm f p q = at_realm f p.0 p.1 q
  one_of_parts Kind f p q = at_kind f p q
  one_of_parts Flag f p q = at_flag f p q
  one_of_parts Value f p q = at_value f p q

last_of_both : (xs ys : List Entry) (a b : Entry) → xs ++ a ∷ [] ≡ ys ++ b ∷ [] → a ≡ b
last_of_both [] [] a b e = cc
last_of_both [] (y ∷ []) a b e = cc
last_of_both [] (y ∷ z ∷ ys) a b e = cc
last_of_both (x ∷ []) [] a b e = cc
last_of_both (x ∷ z ∷ xs) [] a b e = cc
last_of_both (x ∷ xs) (y ∷ ys) a b e = last_of_both xs ys a b cc

equal_not_greater : Equal ≢ Greater
equal_not_greater e = cc

-- ---- in one version

module _ (v : Version) where
  one_faulty : (line : List ℕ) (e f : LineFault) → HasFaultyParts v line e → HasFaultyParts v line f → e ≡ f
  one_faulty line e f p q =
      let are = parts_are v line _ _ _ _ _ _ _ _ _ _ p.parts q.parts in
      one_of_parts p.name p.realm p.kind p.flag p.value e f p.fault
      (subst (λ (n : List ℕ). ArePartsFaulty f n p.realm p.kind p.flag p.value) (sym are.0)
      (subst (λ (r : List ℕ). ArePartsFaulty f q.name r p.kind p.flag p.value) (sym are.1)
      (subst (λ (k : List ℕ). ArePartsFaulty f q.name q.realm k p.flag p.value) (sym are.2)
      (subst (λ (g : List ℕ). ArePartsFaulty f q.name q.realm q.kind g p.value) (sym are.3)
      (subst (λ (d : List ℕ). ArePartsFaulty f q.name q.realm q.kind q.flag d) (sym are.4) q.fault)))))

  one_of_line : (line : List ℕ) (e f : LineFault) → IsFaulty v e line → IsFaulty v f line → e ≡ f
  one_of_line line e f (inl p) (inl q) = p.0 ∙ sym q.0
  one_of_line line e f (inl p) (inr q) = absurd (p.1 (count_of_parts v line _ _ _ _ _ q.parts))
  one_of_line line e f (inr p) (inl q) = absurd (q.1 (count_of_parts v line _ _ _ _ _ p.parts))
  one_of_line line e f (inr p) (inr q) = one_faulty line e f p q

  one_first : (rest : List ℕ) (e f : LineFault) → BeginsFaulty v e rest → BeginsFaulty v f rest → e ≡ f
  one_first rest e f (inl p) (inl q) = p.0 ∙ sym q.0
  one_first rest e f (inl p) (inr q) = absurd (has_feed rest q.0 q.1 q.2 p.2)
  one_first rest e f (inr p) (inl q) = absurd (has_feed rest p.0 p.1 p.2 q.2)
  one_first rest e f (inr p) (inr q) =
      let cut = cut_once 10 p.0 p.1 q.0 q.1 p.3 q.3 (sym p.2 ∙ q.2) in
      one_of_line p.0 e f p.4 (subst (λ (l : List ℕ). IsFaulty v f l) (sym cut.0) q.4)

  -- ---- behind one list of entries

  one_order : (before : List Entry) (rest : List ℕ) (o p : Ordering) → NextStands v before rest o → NextStands v before rest p → o ≡ p
  one_order before rest o p h g =
      let cut = cut_once 10 (entry_text v h.next) h.more (entry_text v g.next) g.more (no_feed v h.next h.is_entry) (no_feed v g.next g.is_entry)
      (sym (h.begins ∙ line_again v h.next h.more) ∙ g.begins ∙ line_again v g.next g.more) in
      let same = one_entry v h.next g.next h.is_entry g.is_entry cut.0 in
      let ends = last_of_both h.front g.front h.last g.last (sym h.ends ∙ g.ends) in
      sym h.stands ∙ ap (λ (l : Entry). entry_cmp l h.next) ends ∙ ap (entry_cmp g.last) same ∙ g.stands

  stands_clear : (before : List Entry) (rest : List ℕ) (o : Ordering) (why : LineFault) → NextStands v before rest o → BeginsFaulty v why rest → ⊥
  stands_clear before rest o why h f = clear_first v why rest h.next h.more h.is_entry h.begins f

  pub one_after : (before : List Entry) (rest : List ℕ) (n : ℕ) (e f : StoreError) → e ≢ OutOfMemory → f ≢ OutOfMemory → FaultAfter v before rest n e → FaultAfter v before rest n f → e ≡ f
  one_after before rest n OutOfMemory f some other p q = absurd (some refl)
  one_after before rest n BadName f some other p q = absurd p
  one_after before rest n e OutOfMemory some other p q = absurd (other refl)
  one_after before rest n e BadName some other p q = absurd q
  one_after before rest n (BadLine a why) (BadLine b how) some other p q =
      ap (λ (l : ℕ). BadLine l why) (p.0 ∙ sym q.0) ∙ ap (λ (w : LineFault). BadLine b w) (one_first rest why how p.1 q.1)
  one_after before rest n (BadLine a why) (Repeated b) some other p q = absurd (stands_clear before rest Equal why q.1 p.1)
  one_after before rest n (BadLine a why) (Unsorted b) some other p q = absurd (stands_clear before rest Greater why q.1 p.1)
  one_after before rest n (Repeated a) (BadLine b how) some other p q = absurd (stands_clear before rest Equal how p.1 q.1)
  one_after before rest n (Repeated a) (Repeated b) some other p q = ap (λ (l : ℕ). Repeated l) (p.0 ∙ sym q.0)
  one_after before rest n (Repeated a) (Unsorted b) some other p q = absurd (equal_not_greater (one_order before rest Equal Greater p.1 q.1))
  one_after before rest n (Unsorted a) (BadLine b how) some other p q = absurd (stands_clear before rest Greater how p.1 q.1)
  one_after before rest n (Unsorted a) (Repeated b) some other p q = absurd (equal_not_greater (one_order before rest Equal Greater q.1 p.1))
  one_after before rest n (Unsorted a) (Unsorted b) some other p q = ap (λ (l : ℕ). Unsorted l) (p.0 ∙ sym q.0)

  one_behind : (whole : List ℕ) (e f : StoreError) → e ≢ OutOfMemory → f ≢ OutOfMemory → FaultBehind v whole e → FaultBehind v whole f → e ≡ f
  one_behind whole e f some other p q =
      by (overlap v p.before q.before p.rest q.rest p.is_store.each q.is_store.each (behind_both v p.before q.before p.rest q.rest (sym p.begins ∙ q.begins)))
    where
      by : Overlap v p.before q.before p.rest q.rest → e ≡ f
      by (inl same) =
          one_after p.before p.rest (length p.before + 2) e f some other p.fault
          (subst (λ (r : List ℕ). FaultAfter v p.before r (length p.before + 2) f) (sym same.1)
          (subst (λ (l : List Entry). FaultAfter v l q.rest (length l + 2) f) (sym same.0) q.fault))
      by (inr (inl g)) = absurd (clear_after v e p.before p.rest (length p.before + 2) q.before q.is_store.rising g some p.fault)
      by (inr (inr g)) = absurd (clear_after v f q.before q.rest (length q.before + 2) p.before p.is_store.rising g other q.fault)

-- ---- in the whole text

one_title : (whole : List ℕ) (e f : LineFault) → IsTitleFaulty e whole → IsTitleFaulty f whole → e ≡ f
one_title whole e f (inl p) (inl q) = p.0 ∙ sym q.0
one_title whole e f (inl p) (inr q) = absurd (q.1 p.1.0 p.1.1)
one_title whole e f (inr p) (inl q) = absurd (p.1 q.1.0 q.1.1)
one_title whole e f (inr p) (inr q) = p.0 ∙ sym q.0

header_there : (v : Version) (whole : List ℕ) (f : StoreError) (q : FaultBehind v whole f) → whole ≡ header v ++ behind_lines v q.before q.rest
header_there v whole f q = q.begins ∙ split_header v q.before q.rest

title_or_behind : (v : Version) (whole : List ℕ) (why : LineFault) (f : StoreError) → IsTitleFaulty why whole → FaultBehind v whole f → ⊥
title_or_behind v whole why f (inl p) q = title_alone p.1.0 v (behind_lines v q.before q.rest) (sym p.1.1 ∙ header_there v whole f q)
title_or_behind v whole why f (inr p) q = p.2 v (behind_lines v q.before q.rest) (header_there v whole f q)

either_version : (v w : Version) (whole : List ℕ) (e f : StoreError) → e ≢ OutOfMemory → f ≢ OutOfMemory → FaultBehind v whole e → FaultBehind w whole f → v ≡ w → e ≡ f
either_version One One whole e f some other p q same = one_behind One whole e f some other p q
either_version One Two whole e f some other p q same = cc
either_version Two One whole e f some other p q same = cc
either_version Two Two whole e f some other p q same = one_behind Two whole e f some other p q

pub one_fault : (whole : List ℕ) (e f : StoreError) → e ≢ OutOfMemory → f ≢ OutOfMemory → FirstFault whole e → FirstFault whole f → e ≡ f
one_fault whole e f some other (inl p) (inl q) = p.1 ∙ ap (λ (w : LineFault). BadLine 1 w) (one_title whole p.0 q.0 p.2 q.2) ∙ sym q.1
one_fault whole e f some other (inl p) (inr q) = absurd (title_or_behind q.0 whole p.0 f p.2 q.1)
one_fault whole e f some other (inr p) (inl q) = absurd (title_or_behind p.0 whole q.0 e q.2 p.1)
one_fault whole e f some other (inr p) (inr q) =
    either_version p.0 q.0 whole e f some other p.1 q.1
    (one_version p.0 q.0 (behind_lines p.0 p.1.before p.1.rest) (behind_lines q.0 q.1.before q.1.rest)
    (sym (header_there p.0 whole e p.1) ∙ header_there q.0 whole f q.1))
