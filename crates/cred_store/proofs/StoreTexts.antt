-- A text is that of one store at most.
use Rattle.std.proofs.Common.{◌≡◌, ◌≢◌, ℕ, ◌+◌, ◌==◌, ◌⊎◌, List, [], ◌∷◌, ◌++◌, length, All, Result, Ok, Err, IfErr, IfOk, refl, sym, ap, ◌∙◌, subst, inl, inr, true≢false, slice_index, arith}
use Rattle.std.specs.List.{flat_map, list_any}
use Rattle.std.specs.declared.cmp.Ordering.{Ordering}
use Rattle.std.specs.declared.cmp.Ordering.TheVariants.{Less, Equal, Greater}
use Rattle.std.proofs.lemmas.List.{append_assoc, append-nil, append_cancel_left}
use Rattle.std.proofs.lemmas.List.Concat.{flat_map-append}
use Rattle.std.proofs.lemmas.List.Elements.{All-cons, All-head, All-nil, All-tail}
use Rattle.auth_grammar.specs.Plain.{is_plain_name}
use Rattle.cred_store.specs.Faults.{ArePartsFaulty, BeginsFaulty, FaultAfter, FaultBehind, FirstFault, HasFaultyParts, HasParts, IsFaulty, IsTitleFaulty, NextStands}
use Rattle.cred_store.specs.Keys.{IsRising, entry_cmp}
use Rattle.cred_store.specs.Kinds.{kind_name, kind_of}
use Rattle.cred_store.specs.Texts.{IsEntry, IsStore, IsStoreText, entry_text, entry_line, header, store_text, text_in, title}
use Rattle.cred_store.specs.Values.{HasNo, flag_text, text_of}
use Rattle.cred_store.specs.declared.entry.Entry.{Entry}
use Rattle.cred_store.specs.declared.error.LineFault.{LineFault}
use Rattle.cred_store.specs.declared.error.LineFault.TheVariants.{Form, Name, Realm, Kind, Flag, Value, Header}
use Rattle.cred_store.specs.declared.error.StoreError.{StoreError}
use Rattle.cred_store.specs.declared.error.StoreError.TheVariants.{BadLine, Repeated, Unsorted, BadName, OutOfMemory}
use Rattle.cred_store.specs.declared.version.Version.{Version}
use Rattle.cred_store.specs.declared.version.Version.TheVariants.{One, Two}
use Rattle.cred_store.proofs.Bytes.{cut_once, has_it, not_empty}
use Rattle.cred_store.proofs.Order.{rising_between}
use Rattle.cred_store.proofs.Parts.{count_of_parts, entry_parts, no_feed, one_entry, one_kind, parts_are}

pub title_alone : (v w : Version) (rest : List ℕ) → title v ≢ header w ++ rest
unfolding header
title_alone One One rest e = cc
title_alone One Two rest e = cc
title_alone Two One rest e = cc
title_alone Two Two rest e = cc

-- the first line tells the version
pub one_version : (v w : Version) (a b : List ℕ) → header v ++ a ≡ header w ++ b → v ≡ w
unfolding header
one_version One One a b e = refl
one_version One Two a b e = absurd (omega (arith, ap (λ (l : List ℕ). slice_index l 10) e))
one_version Two One a b e = absurd (omega (arith, ap (λ (l : List ℕ). slice_index l 10) e))
one_version Two Two a b e = refl

pub has_feed : (text line rest : List ℕ) → text ≡ line ++ 10 ∷ rest → HasNo 10 text → ⊥
has_feed text line rest is none = true≢false (sym (has_it 10 line rest) ∙ ap (list_any (λ b. b == 10)) (sym is) ∙ none)

pub equal_not_less : Equal ≢ Less
equal_not_less e = cc

pub greater_not_less : Greater ≢ Less
greater_not_less e = cc

module _ (v : Version) where
  -- a line and its line feed
  pub line_again : (e : Entry) (rest : List ℕ) → entry_line v e ++ rest ≡ entry_text v e ++ 10 ∷ rest
  line_again e rest = append_assoc (entry_text v e) (10 ∷ []) rest

  pub some_line : (e : Entry) (rest : List ℕ) → entry_line v e ++ rest ≢ []
  some_line e rest is = not_empty 10 (entry_text v e) rest (sym (line_again e rest) ∙ is)

  -- ---- the entries of two texts that are one

  -- one list of entries goes on where the other ends, and there the text begins with the next entry's line
  pub record GoesOn (es fs : List Entry) (rest : List ℕ) : Type 0 where
    pub next : Entry
    pub tail : List Entry
    pub more : List ℕ
    pub is_entry : IsEntry v next
    pub splits : fs ≡ es ++ next ∷ tail
    pub begins : rest ≡ entry_line v next ++ more

  goes_on_more : (x y : Entry) (es fs : List Entry) (rest : List ℕ) → x ≡ y → GoesOn es fs rest → GoesOn (x ∷ es) (y ∷ fs) rest
  goes_on_more x y es fs rest same h = record {
    next = h.next;
    tail = h.tail;
    more = h.more;
    is_entry = h.is_entry;
    splits = ap (λ (l : List Entry). y ∷ l) h.splits ∙ ap (λ (v : Entry). v ∷ (es ++ h.next ∷ h.tail)) (sym same);
    begins = h.begins;
  }

  abbrev pub Overlap : (es fs : List Entry) (r q : List ℕ) → Type 0
  Overlap es fs r q = ((es ≡ fs) × (r ≡ q)) ⊎ (GoesOn es fs r ⊎ GoesOn fs es q)

  overlap_more : (x y : Entry) (es fs : List Entry) (r q : List ℕ) → x ≡ y → Overlap es fs r q → Overlap (x ∷ es) (y ∷ fs) r q
  overlap_more x y es fs r q same (inl h) = inl (ap (λ (l : List Entry). x ∷ l) h.0 ∙ ap (λ (v : Entry). v ∷ fs) same, h.1)
  overlap_more x y es fs r q same (inr (inl h)) = inr (inl (goes_on_more x y es fs r same h))
  overlap_more x y es fs r q same (inr (inr h)) = inr (inr (goes_on_more y x fs es q (sym same) h))

  pub overlap : (es fs : List Entry) (r q : List ℕ) → All (IsEntry v) es → All (IsEntry v) fs → flat_map (entry_line v) es ++ r ≡ flat_map (entry_line v) fs ++ q → Overlap es fs r q
  overlap [] [] r q h g e = inl (refl, e)
  overlap [] (y ∷ fs) r q h g e = inr (inl (record {
    next = y;
    tail = fs;
    more = flat_map (entry_line v) fs ++ q;
    is_entry = All-head (IsEntry v) y fs g;
    splits = refl;
    begins = e ∙ append_assoc (entry_line v y) (flat_map (entry_line v) fs) q;
  }))
  overlap (x ∷ es) [] r q h g e = inr (inr (record {
    next = x;
    tail = es;
    more = flat_map (entry_line v) es ++ r;
    is_entry = All-head (IsEntry v) x es h;
    splits = refl;
    begins = sym e ∙ append_assoc (entry_line v x) (flat_map (entry_line v) es) r;
  }))
  overlap (x ∷ es) (y ∷ fs) r q h g e =
      let is_x = All-head (IsEntry v) x es h in
      let is_y = All-head (IsEntry v) y fs g in
      let cut = cut_once 10 (entry_text v x) (flat_map (entry_line v) es ++ r) (entry_text v y) (flat_map (entry_line v) fs ++ q) (no_feed v x is_x) (no_feed v y is_y)
      (sym (append_assoc (entry_line v x) (flat_map (entry_line v) es) r ∙ line_again x (flat_map (entry_line v) es ++ r)) ∙ e
      ∙ append_assoc (entry_line v y) (flat_map (entry_line v) fs) q ∙ line_again y (flat_map (entry_line v) fs ++ q)) in
      overlap_more x y es fs r q (one_entry v x y is_x is_y cut.0) (overlap es fs r q (All-tail (IsEntry v) x es h) (All-tail (IsEntry v) y fs g) cut.1)

  -- ---- a faulty line is no entry's

  sound_parts : (why : LineFault) (line : List ℕ) (e : Entry) → IsEntry v e → line ≡ entry_text v e → HasFaultyParts v line why → ⊥
  sound_parts why line e h is f =
      by why f.fault
    where
      theirs : HasParts v line e.name e.realm (kind_name (kind_of e.secret)) (flag_text e.on) (text_of e.secret)
      theirs = entry_parts v line e h is

      are : (f.name ≡ e.name) × (f.realm ≡ e.realm) × (f.kind ≡ kind_name (kind_of e.secret)) × (f.flag ≡ flag_text e.on) × (f.value ≡ text_of e.secret)
      are = parts_are v line _ _ _ _ _ _ _ _ _ _ f.parts theirs

      by : (why : LineFault) → ArePartsFaulty why f.name f.realm f.kind f.flag f.value → ⊥
      by Form x = x
      by Header x = x
      by Name x = true≢false (sym (ap is_plain_name are.0 ∙ h.name) ∙ x)
      by Realm x = true≢false (sym (ap is_plain_name are.1 ∙ h.realm) ∙ x.1)
      by Kind x = x.1 (kind_of e.secret) are.2
      by Flag x = x.2 e.on are.3
      by Value x = x.1.2 e.secret h.secret (one_kind _ _ (sym are.2 ∙ x.1.1)) (sym are.4)

  sound_line : (why : LineFault) (line : List ℕ) (e : Entry) → IsEntry v e → line ≡ entry_text v e → IsFaulty v why line → ⊥
  sound_line why line e h is (inl form) = form.1 (count_of_parts v line _ _ _ _ _ (entry_parts v line e h is))
  sound_line why line e h is (inr parts) = sound_parts why line e h is parts

  -- a text that begins with an entry's line has no fault there
  pub clear_first : (why : LineFault) (rest : List ℕ) (e : Entry) (more : List ℕ) → IsEntry v e → rest ≡ entry_line v e ++ more → BeginsFaulty v why rest → ⊥
  clear_first why rest e more h is (inl form) = has_feed rest (entry_text v e) more (is ∙ line_again e more) form.2
  clear_first why rest e more h is (inr line) =
      let cut = cut_once 10 line.0 line.1 (entry_text v e) more line.3 (no_feed v e h) (sym line.2 ∙ is ∙ line_again e more) in
      sound_line why line.0 e h cut.0 line.4

  clear_order : (before : List Entry) (rest : List ℕ) (order : Ordering) (fs : List Entry) → IsRising fs → GoesOn before fs rest → NextStands v before rest order → order ≢ Less → ⊥
  clear_order before rest order fs up g next other =
      let cut = cut_once 10 (entry_text v next.next) next.more (entry_text v g.next) g.more (no_feed v next.next next.is_entry) (no_feed v g.next g.is_entry)
      (sym (next.begins ∙ line_again next.next next.more) ∙ g.begins ∙ line_again g.next g.more) in
      let same = one_entry v next.next g.next next.is_entry g.is_entry cut.0 in
      let split : fs ≡ (next.front ++ next.last ∷ []) ++ g.next ∷ g.tail = g.splits ∙ ap (λ (l : List Entry). l ++ g.next ∷ g.tail) next.ends in
      let below = rising_between next.front next.last g.next g.tail (subst IsRising split up) in
      other (sym next.stands ∙ ap (entry_cmp next.last) same ∙ below)

  -- where a store's entries go on there is no fault
  pub clear_after : (error : StoreError) (before : List Entry) (rest : List ℕ) (n : ℕ) (fs : List Entry) → IsRising fs → GoesOn before fs rest → error ≢ OutOfMemory → FaultAfter v before rest n error → ⊥
  clear_after (BadLine line why) before rest n fs up g some f = clear_first why rest g.next g.more g.is_entry g.begins f.1
  clear_after (Repeated line) before rest n fs up g some f = clear_order before rest Equal fs up g f.1 equal_not_less
  clear_after (Unsorted line) before rest n fs up g some f = clear_order before rest Greater fs up g f.1 greater_not_less
  clear_after BadName before rest n fs up g some f = f
  clear_after OutOfMemory before rest n fs up g some f = some refl

  -- nor is there at the end
  empty_first : (why : LineFault) (rest : List ℕ) → rest ≡ [] → BeginsFaulty v why rest → ⊥
  empty_first why rest is (inl form) = form.1 is
  empty_first why rest is (inr line) = not_empty 10 line.0 line.1 (sym line.2 ∙ is)

  empty_after : (error : StoreError) (before : List Entry) (rest : List ℕ) (n : ℕ) → rest ≡ [] → error ≢ OutOfMemory → FaultAfter v before rest n error → ⊥
  empty_after (BadLine line why) before rest n is some f = empty_first why rest is f.1
  empty_after (Repeated line) before rest n is some f = some_line f.1.next f.1.more (sym f.1.begins ∙ is)
  empty_after (Unsorted line) before rest n is some f = some_line f.1.next f.1.more (sym f.1.begins ∙ is)
  empty_after BadName before rest n is some f = f
  empty_after OutOfMemory before rest n is some f = some refl

  pub fault_behind : (text : List ℕ) (before : List Entry) (rest : List ℕ) (error : StoreError) → IsStore v before → text ≡ flat_map (entry_line v) before ++ rest →
      FaultAfter v before rest (length before + 2) error → FaultBehind v (header v ++ text) error
  fault_behind text before rest error h begins fault = record {
    before = before;
    rest = rest;
    is_store = h;
    begins = ap (λ (l : List ℕ). header v ++ l) begins ∙ sym (append_assoc (header v) (flat_map (entry_line v) before) rest);
    fault = fault;
  }

  pub one_more : (text : List ℕ) (before : List Entry) (rest : List ℕ) (e : Entry) (more : List ℕ) → text ≡ flat_map (entry_line v) before ++ rest → rest ≡ entry_line v e ++ more →
      text ≡ flat_map (entry_line v) (before ++ e ∷ []) ++ more
  one_more text before rest e more begins line =
      begins ∙ ap (λ (l : List ℕ). flat_map (entry_line v) before ++ l) line ∙ sym (append_assoc (flat_map (entry_line v) before) (entry_line v e) more)
      ∙ ap (λ (l : List ℕ). l ++ more) (sym (flat_map-append (entry_line v) before (e ∷ []) ∙ ap (λ (l : List ℕ). flat_map (entry_line v) before ++ l) (append-nil (entry_line v e))))

  -- ---- whole texts

  -- what stands behind the first line of two texts that are one
  pub behind_both : (es fs : List Entry) (r q : List ℕ) → text_in v es ++ r ≡ text_in v fs ++ q → flat_map (entry_line v) es ++ r ≡ flat_map (entry_line v) fs ++ q
  behind_both es fs r q same =
      append_cancel_left (header v) _ _
      (sym (append_assoc (header v) (flat_map (entry_line v) es) r) ∙ same ∙ append_assoc (header v) (flat_map (entry_line v) fs) q)

  -- a text with a faulty line behind the first is no store's of that version
  pub sound_behind : (whole : List ℕ) (error : StoreError) → FaultBehind v whole error → error ≢ OutOfMemory → (fs : List Entry) → IsStore v fs → whole ≢ text_in v fs
  sound_behind whole error f some fs h is =
      by (overlap f.before fs f.rest [] f.is_store.each h.each (behind_both f.before fs f.rest [] (sym f.begins ∙ is ∙ sym (append-nil (text_in v fs)))))
    where
      by : Overlap f.before fs f.rest [] → ⊥
      by (inl same) = empty_after error f.before f.rest (length f.before + 2) same.1 some f.fault
      by (inr (inl g)) = clear_after error f.before f.rest (length f.before + 2) fs h.rising g some f.fault
      by (inr (inr g)) = some_line g.next g.more (sym g.begins)

  -- two stores of one text are one
  pub one_store : (es fs : List Entry) → All (IsEntry v) es → All (IsEntry v) fs → text_in v es ≡ text_in v fs → es ≡ fs
  one_store es fs h g same =
      by (overlap es fs [] [] h g (behind_both es fs [] [] (append-nil (text_in v es) ∙ same ∙ sym (append-nil (text_in v fs)))))
    where
      by : Overlap es fs [] [] → es ≡ fs
      by (inl both) = both.0
      by (inr (inl g)) = absurd (some_line g.next g.more (sym g.begins))
      by (inr (inr g)) = absurd (some_line g.next g.more (sym g.begins))

-- ---- versions

-- what can stand in a text of any version can stand in one that is written
newer_entry : (v : Version) (e : Entry) → IsEntry v e → IsEntry Two e
newer_entry v e h = record { name = h.name; realm = h.realm; secret = h.secret; flag = tt }

newer_entries : (v : Version) (es : List Entry) → All (IsEntry v) es → All (IsEntry Two) es
newer_entries v [] h = All-nil (IsEntry Two)
newer_entries v (e ∷ es) h =
    All-cons (IsEntry Two) e es (newer_entry v e (All-head (IsEntry v) e es h)) (newer_entries v es (All-tail (IsEntry v) e es h))

pub newer_store : (v : Version) (es : List Entry) → IsStore v es → IsStore Two es
newer_store v es h = record { each = newer_entries v es h.each; rising = h.rising }

-- the text behind the first line
abbrev pub behind_lines : (v : Version) (es : List Entry) (rest : List ℕ) → List ℕ
behind_lines v es rest = flat_map (entry_line v) es ++ rest

pub split_header : (v : Version) (es : List Entry) (rest : List ℕ) → text_in v es ++ rest ≡ header v ++ behind_lines v es rest
split_header v es rest = append_assoc (header v) (flat_map (entry_line v) es) rest

sound_title : (why : LineFault) (whole : List ℕ) (w : Version) (fs : List Entry) → IsTitleFaulty why whole → whole ≢ text_in w fs
sound_title why whole w fs (inl form) is = title_alone form.1.0 w (flat_map (entry_line w) fs) (sym form.1.1 ∙ is)
sound_title why whole w fs (inr other) is = other.2 w (flat_map (entry_line w) fs) is

sound_version : (v w : Version) (whole : List ℕ) (error : StoreError) → FaultBehind v whole error → error ≢ OutOfMemory → (fs : List Entry) → IsStore w fs → whole ≡ text_in w fs → v ≡ w → ⊥
sound_version One One whole error f some fs h is same = sound_behind One whole error f some fs h is
sound_version One Two whole error f some fs h is same = cc
sound_version Two One whole error f some fs h is same = cc
sound_version Two Two whole error f some fs h is same = sound_behind Two whole error f some fs h is

-- a text with a faulty line is no store's
pub sound : (whole : List ℕ) (error : StoreError) → FirstFault whole error → error ≢ OutOfMemory → (fs : List Entry) → IsStoreText whole fs → ⊥
sound whole error (inl first) some fs h = sound_title first.0 whole h.version fs first.2 h.says
sound whole error (inr f) some fs h =
    sound_version f.0 h.version whole error f.1 some fs h.is_store h.says
    (one_version f.0 h.version (behind_lines f.0 f.1.before f.1.rest) (flat_map (entry_line h.version) fs)
    (sym (split_header f.0 f.1.before f.1.rest) ∙ sym f.1.begins ∙ h.says))

-- ---- writing part by part

pub line_written : (text name realm kind flag value : List ℕ) →
    (((((text ++ (name ++ 58 ∷ [])) ++ (realm ++ 58 ∷ [])) ++ (kind ++ 58 ∷ [])) ++ (flag ++ 58 ∷ [])) ++ value) ++ 10 ∷ []
    ≡ text ++ ((name ++ 58 ∷ (realm ++ 58 ∷ (kind ++ 58 ∷ (flag ++ 58 ∷ value)))) ++ 10 ∷ [])
line_written text name realm kind flag value = simp append_assoc

-- what is read from the text of a store is that store
again_in : (s t : List Entry) (v : Version) → IsStore Two s → IsStore v t → store_text s ≡ text_in v t → v ≡ Two → t ≡ s
again_in s t One h g is same = cc
again_in s t Two h g is same = one_store Two t s g.each h.each (sym is)

again : (s t : List Entry) (text : List ℕ) → IsStore Two s → text ≡ store_text s → IsStoreText text t → t ≡ s
again s t text h is g =
    again_in s t g.version h g.is_store (sym is ∙ g.says)
    (one_version g.version Two (flat_map (entry_line g.version) t) (flat_map (entry_line Two) s) (sym g.says ∙ is))

pub same_again : (s : List Entry) (text : List ℕ) → IsStore Two s → text ≡ store_text s → (r : Result (List Entry) StoreError) → IfOk r (IsStoreText text) → IfOk r (λ t. t ≡ s)
same_again s text h is (Ok t) read = again s t text h is read
same_again s text h is (Err error) read = tt

-- only want of memory keeps from reading the text of a store
pub only_memory : (text : List ℕ) (s : List Entry) → IsStoreText text s → (r : Result (List Entry) StoreError) →
    IfErr r (λ error. error ≢ OutOfMemory → (entries : List Entry) → IsStoreText text entries → ⊥) → IfErr r (λ error. error ≡ OutOfMemory)
only_memory text s is (Ok t) h = tt
only_memory text s is (Err OutOfMemory) h = refl
only_memory text s is (Err (BadLine line why)) h = absurd (h (λ e. cc) s is)
only_memory text s is (Err (Repeated line)) h = absurd (h (λ e. cc) s is)
only_memory text s is (Err (Unsorted line)) h = absurd (h (λ e. cc) s is)
only_memory text s is (Err BadName) h = absurd (h (λ e. cc) s is)
