-- What stands at the front of a stream, as more bytes come.
use Rattle.std.proofs.Common.{◌≡◌, ◌∷◌, [], ◌++◌, ◌<◌, ◌≤◌, ◌+◌, ◌-◌, ℕ, zero, suc, List, length, take, drop, Option, Some, None, Bool, true, false, cond, ◌⊎◌, inl, inr, sym, refl, ap, ◌∙◌, subst, length-append, length-drop, arith}
use Rattle.std.specs.Prelude.{nat_lt, slice_range}
use Rattle.std.proofs.lemmas.Bool.{ltb-false, le-ltb}
use Rattle.std.proofs.lemmas.List.{take-append-le, drop-append-le, take-append-drop}
use Rattle.http_wire.specs.declared.request.Request.{Request}
use Rattle.http_wire.specs.declared.request_head.SoundHead.{SoundHead}
use Rattle.http_wire.specs.declared.request_head.Judged.{Judged}
use Rattle.http_wire.specs.declared.request_head.Judged.TheVariants.{Sound, Faulty}
use Rattle.http_wire.specs.RequestChecks.{judge}
use Rattle.http_wire.specs.HeadPlace.{head_place}
use Rattle.http_wire.specs.Requests.{Front, Unfinished, Whole, Wrong, with_body, front_behind, front_at, front, is_due, Cuts}
use Rattle.http_wire.proofs.HeadPlaceLemmas.{IsPlace, place_is, head_place_more}

-- what stood at the front, and what stands there when more bytes came
abbrev pub Later : List ℕ → Front → Front → Type 0
Later more (Unfinished due) now = due ≡ true → is_due now ≡ true
Later more (Whole due request rest) now = now ≡ Whole due request (rest ++ more)
Later more (Wrong status) now = now ≡ Wrong status

-- the window of the first bytes
abbrev pub window : List ℕ → List ℕ
window bytes = take 16384 bytes

pub take_split : (n : ℕ) (xs ys : List ℕ) → (zs : List ℕ) × (take n (xs ++ ys) ≡ take n xs ++ zs)
take_split zero xs ys = ([], refl)
take_split (suc n) [] ys = (take (suc n) ys, refl)
take_split (suc n) (x ∷ xs) ys = let more = take_split n xs ys in (more.0, ap (λ (l : List ℕ). x ∷ l) more.1)

-- behind a head without fault
behind_if : (t t' : Bool) (head : SoundHead) (bytes more : List ℕ) (request : Request) (rest : List ℕ) →
    (t ≡ false → t' ≡ false) → (t ≡ false → (with_body head.request (take head.body_len (bytes ++ more)) ≡ with_body head.request (take head.body_len bytes)) × (drop head.body_len (bytes ++ more) ≡ drop head.body_len bytes ++ more)) →
    Later more (cond t (Unfinished head.expects) (Whole head.expects (with_body head.request (take head.body_len bytes)) (drop head.body_len bytes)))
    (cond t' (Unfinished head.expects) (Whole head.expects (with_body head.request (take head.body_len (bytes ++ more))) (drop head.body_len (bytes ++ more))))
behind_if true true head bytes more request rest f g = λ e. e
behind_if true false head bytes more request rest f g = λ e. e
behind_if false true head bytes more request rest f g = cc (f refl)
behind_if false false head bytes more request rest f g = λ i. Whole head.expects ((g refl).0 i) ((g refl).1 i)

-- a body that is there stays there
pub behind_more : (judged : Judged) (bytes more : List ℕ) → Later more (front_behind judged bytes) (front_behind judged (bytes ++ more))
behind_more (Faulty status) bytes more = refl
behind_more (Sound head) bytes more =
    let size : length (bytes ++ more) ≡ length bytes + length more = length-append bytes more in
    behind_if (nat_lt (length bytes) head.body_len) (nat_lt (length (bytes ++ more)) head.body_len) head bytes more (with_body head.request []) []
    (λ e. le-ltb (length (bytes ++ more)) head.body_len (let le : head.body_len ≤ length bytes = ltb-false (length bytes) head.body_len e in omega arith))
    (λ e. let le : head.body_len ≤ length bytes = ltb-false (length bytes) head.body_len e in
    (ap (λ (l : List ℕ). with_body head.request l) (take-append-le head.body_len bytes more le), drop-append-le head.body_len bytes more le))

pub place_case : (o : Option (ℕ × ℕ)) → (o ≡ None) ⊎ ((place : ℕ × ℕ) × (o ≡ Some place))
place_case None = inl refl
place_case (Some place) = inr (place, refl)

none_if : (t : Bool) (more : List ℕ) (now : Front) → (t ≡ false → now ≡ Wrong 431) → Later more (cond t (Unfinished false) (Wrong 431)) now
none_if true more now f = λ e. cc
none_if false more now f = f refl

pub full_window : (bytes more : List ℕ) → 16384 ≤ length bytes → window (bytes ++ more) ≡ window bytes
full_window bytes more le = take-append-le 16384 bytes more le

pub in_window : (bytes : List ℕ) (place : ℕ × ℕ) → IsPlace (window bytes) place → place.1 ≤ length bytes
in_window bytes place p =
    let size : length (window bytes ++ drop 16384 bytes) ≡ length (window bytes) + length (drop 16384 bytes) = length-append (window bytes) (drop 16384 bytes) in
    let all : length (window bytes ++ drop 16384 bytes) ≡ length bytes = ap length (take-append-drop 16384 bytes) in
    omega (arith, p.in_range)

pub slice_more : (bytes more : List ℕ) (i j : ℕ) → i ≤ j → j ≤ length bytes → slice_range (bytes ++ more) i j ≡ slice_range bytes i j
slice_more bytes more i j o le =
    let cut : drop i (bytes ++ more) ≡ drop i bytes ++ more = drop-append-le i bytes more (omega arith) in
    let size : length (drop i bytes) ≡ length bytes - i = length-drop i bytes in
    ap (λ (l : List ℕ). take (j - i) l) cut ∙ take-append-le (j - i) (drop i bytes) more (omega arith)

-- What stands at the front when more bytes came.
pub front_more : (bytes more : List ℕ) → Later more (front bytes) (front (bytes ++ more))
unfolding front
front_more bytes more = elim (place_case (head_place (window bytes))) [
  | inl none ↦
      let here : front_at (head_place (window bytes)) bytes ≡ cond (nat_lt (length bytes) 16384) (Unfinished false) (Wrong 431) = ap (λ (o : Option (ℕ × ℕ)). front_at o bytes) none in
      subst (λ (f : Front). Later more f (front_at (head_place (window (bytes ++ more))) (bytes ++ more))) (sym here)
      (none_if (nat_lt (length bytes) 16384) more (front_at (head_place (window (bytes ++ more))) (bytes ++ more)) (λ e.
      let le : 16384 ≤ length bytes = ltb-false (length bytes) 16384 e in
      let size : length (bytes ++ more) ≡ length bytes + length more = length-append bytes more in
      let far : nat_lt (length (bytes ++ more)) 16384 ≡ false = le-ltb (length (bytes ++ more)) 16384 (omega arith) in
      ap (λ (w : List ℕ). front_at (head_place w) (bytes ++ more)) (full_window bytes more le)
      ∙ ap (λ (o : Option (ℕ × ℕ)). front_at o (bytes ++ more)) none
      ∙ ap (λ (t : Bool). cond t (Unfinished false) (Wrong 431)) far))
  | inr p ↦
      let place = p.0 in
      let is : IsPlace (window bytes) place = place_is (window bytes) place p.1 in
      let split = take_split 16384 bytes more in
      let later : head_place (window (bytes ++ more)) ≡ Some place = ap head_place split.1 ∙ head_place_more (window bytes) split.0 place p.1 in
      let within : place.1 ≤ length bytes = in_window bytes place is in
      let ordered : place.0 ≤ place.1 = omega (arith, is.ordered) in
      let here : front_at (head_place (window bytes)) bytes ≡ front_behind (judge (slice_range bytes place.0 place.1)) (drop place.1 bytes) = ap (λ (o : Option (ℕ × ℕ)). front_at o bytes) p.1 in
      let there : front_at (head_place (window (bytes ++ more))) (bytes ++ more) ≡ front_behind (judge (slice_range bytes place.0 place.1)) (drop place.1 bytes ++ more) =
      ap (λ (o : Option (ℕ × ℕ)). front_at o (bytes ++ more)) later
      ∙ (λ i. front_behind (judge (slice_more bytes more place.0 place.1 ordered within i)) (drop-append-le place.1 bytes more within i)) in
      subst (λ (f : Front). Later more f (front_at (head_place (window (bytes ++ more))) (bytes ++ more))) (sym here)
      (subst (λ (f : Front). Later more (front_behind (judge (slice_range bytes place.0 place.1)) (drop place.1 bytes)) f) (sym there)
      (behind_more (judge (slice_range bytes place.0 place.1)) (drop place.1 bytes) more))
]

later_at : (more : List ℕ) (f g now : Front) → f ≡ g → Later more f now → Later more g now
later_at more f g now e l = subst (λ (x : Front). Later more x now) e l

-- A whole message stays whole when bytes follow.
pub whole_more : (bytes more : List ℕ) (due : Bool) (request : Request) (rest : List ℕ) → front bytes ≡ Whole due request rest → front (bytes ++ more) ≡ Whole due request (rest ++ more)
whole_more bytes more due request rest h = later_at more (front bytes) (Whole due request rest) (front (bytes ++ more)) h (front_more bytes more)

-- A bad one stays bad.
pub wrong_more : (bytes more : List ℕ) (status : ℕ) → front bytes ≡ Wrong status → front (bytes ++ more) ≡ Wrong status
wrong_more bytes more status h = later_at more (front bytes) (Wrong status) (front (bytes ++ more)) h (front_more bytes more)

due_later : (more : List ℕ) (f now : Front) → Later more f now → is_due f ≡ true → is_due now ≡ true
due_later more (Unfinished due) now l h = l h
due_later more (Whole due request rest) now l h = ap is_due l ∙ h
due_later more (Wrong status) now l h = cc

-- What is due stays due.
pub due_more : (bytes more : List ℕ) → is_due (front bytes) ≡ true → is_due (front (bytes ++ more)) ≡ true
due_more bytes more h = due_later more (front bytes) (front (bytes ++ more)) (front_more bytes more) h

whole_if : (t : Bool) (head : SoundHead) (bytes : List ℕ) (due : Bool) (request : Request) (rest : List ℕ) →
    cond t (Unfinished head.expects) (Whole head.expects (with_body head.request (take head.body_len bytes)) (drop head.body_len bytes)) ≡ Whole due request rest →
    rest ≡ drop head.body_len bytes
whole_if true head bytes due request rest h = cc
whole_if false head bytes due request rest h = cc

behind_le : (judged : Judged) (bytes : List ℕ) (due : Bool) (request : Request) (rest : List ℕ) → front_behind judged bytes ≡ Whole due request rest → length rest ≤ length bytes
behind_le (Faulty status) bytes due request rest h = cc
behind_le (Sound head) bytes due request rest h =
    let is : rest ≡ drop head.body_len bytes = whole_if (nat_lt (length bytes) head.body_len) head bytes due request rest h in
    let size : length (drop head.body_len bytes) ≡ length bytes - head.body_len = length-drop head.body_len bytes in
    let same : length rest ≡ length (drop head.body_len bytes) = ap length is in
    omega arith

none_whole : (t : Bool) (due : Bool) (request : Request) (rest : List ℕ) → cond t (Unfinished false) (Wrong 431) ≡ Whole due request rest → false ≡ true
none_whole true due request rest h = cc
none_whole false due request rest h = cc

-- A whole one takes at least one byte.
pub whole_takes : (bytes : List ℕ) (due : Bool) (request : Request) (rest : List ℕ) → front bytes ≡ Whole due request rest → length rest < length bytes
unfolding front
whole_takes bytes due request rest h = elim (place_case (head_place (window bytes))) [
  | inl none ↦
      let no : false ≡ true = none_whole (nat_lt (length bytes) 16384) due request rest (ap (λ (o : Option (ℕ × ℕ)). front_at o bytes) (sym none) ∙ h) in cc
  | inr p ↦
      let is : IsPlace (window bytes) p.0 = place_is (window bytes) p.0 p.1 in
      let within : p.0.1 ≤ length bytes = in_window bytes p.0 is in
      let le : length rest ≤ length (drop p.0.1 bytes) = behind_le (judge (slice_range bytes p.0.0 p.0.1)) (drop p.0.1 bytes) due request rest (ap (λ (o : Option (ℕ × ℕ)). front_at o bytes) (sym p.1) ∙ h) in
      let size : length (drop p.0.1 bytes) ≡ length bytes - p.0.1 = length-drop p.0.1 bytes in
      omega (arith, is.ordered)
]

-- The messages of a stream stay when bytes follow.
pub Cuts_more : (requests : List Request) (bytes rest more : List ℕ) → Cuts bytes requests rest → Cuts (bytes ++ more) requests (rest ++ more)
Cuts_more [] bytes rest more c = ap (λ (l : List ℕ). l ++ more) c
Cuts_more (request ∷ requests) bytes rest more c = (c.0, c.1 ++ more, whole_more bytes more c.0 request c.1 c.2, Cuts_more requests c.1 rest more c.3)

same_whole : (f : Front) (d e : Bool) (q r : Request) (a b : List ℕ) → f ≡ Whole d q a → f ≡ Whole e r b → (q ≡ r) × (a ≡ b)
same_whole f d e q r a b h k = let is : Whole d q a ≡ Whole e r b = sym h ∙ k in (cc, cc)

-- One more message.
pub Cuts_push : (requests : List Request) (bytes mid rest : List ℕ) (due : Bool) (request : Request) → Cuts bytes requests mid → front mid ≡ Whole due request rest → Cuts bytes (requests ++ request ∷ []) rest
Cuts_push [] bytes mid rest due request c h = (due, rest, ap front c ∙ h, refl)
Cuts_push (first ∷ requests) bytes mid rest due request c h = (c.0, c.1, c.2, Cuts_push requests c.1 mid rest due request c.3 h)
