-- What stands at the front of a stream of responses: round by round, and as more bytes come.
use Rattle.std.proofs.Common.{◌≡◌, ◌∷◌, [], ◌++◌, ◌<◌, ◌≤◌, ◌+◌, ◌-◌, ℕ, zero, suc, List, length, take, drop, Option, Some, None, Bool, true, false, cond, inl, inr, sym, refl, ap, ◌∙◌, subst, length-append, length-drop, min, arith}
use Rattle.std.specs.Prelude.{◌==◌, ◌&&◌, nat_lt}
use Rattle.std.proofs.lemmas.Bool.{ltb-true, ltb-false, lt-ltb, le-ltb}
use Rattle.std.proofs.lemmas.List.{take-append-le, drop-append-le, take-append-drop, length-take}
use Rattle.http_wire.specs.declared.response.Response.{Response}
use Rattle.http_wire.specs.declared.response_checks.Framing.{Framing}
use Rattle.http_wire.specs.declared.response_checks.Framing.TheVariants.{Sized, TooLong, Chunked, UntilEnd}
use Rattle.http_wire.specs.declared.response_checks.JudgedResponse.{JudgedResponse}
use Rattle.http_wire.specs.declared.response_checks.JudgedResponse.TheVariants.{Sound, Informational, Faulty}
use Rattle.http_wire.specs.HeadPlace.{empty_line, head_len}
use Rattle.http_wire.specs.ChunkLine.{LineFront, Line, Unsure, NoLine, chunk_line, size_of}
use Rattle.http_wire.specs.ResponseChecks.{judge_response}
use Rattle.http_wire.specs.Responses.{ResponseFront, Incomplete, Open, Complete, Broken, add, sized_body, open_body, trailers_len, after_trailers, trailers, chunk_end, chunk_data, behind_line, at_line, chunks_in, chunks, body_front, behind_head, at_head, responses_in, response_front}
use Rattle.http_wire.proofs.HeadPlaceLemmas.{head_len_more, head_len_within, empty_line_more, empty_line_later, empty_line_le}
use Rattle.http_wire.proofs.RequestLaws.{take_split}
use Rattle.http_wire.proofs.ChunkLineLemmas.{chunk_line_more, StaysLine, line_stays, size_stays, line_text}
use Rattle.http_wire.proofs.HeadLineLemmas.{chosen}

cond_same : (t : Bool) (x y z : ResponseFront) → (t ≡ false → y ≡ z) → cond t x y ≡ cond t x z
cond_same true x y z h = refl
cond_same false x y z h = h refl

cond_then : (t : Bool) (x y z : ResponseFront) → (t ≡ true → x ≡ y) → cond t x z ≡ cond t y z
cond_then true x y z h = h refl
cond_then false x y z h = refl

drop_le : (n : ℕ) (bytes : List ℕ) → length (drop n bytes) ≤ length bytes
drop_le n bytes = let e : length (drop n bytes) ≡ length bytes - n = length-drop n bytes in omega arith

-- ---- chunks, round by round

module _ (bytes : List ℕ) (f g : ℕ → List ℕ → ResponseFront) (same : (p : ℕ) (b : List ℕ) → length b < length bytes → f p b ≡ g p b) where
  end_same : (at line_at place : ℕ) (front : List ℕ) → length front ≤ length bytes → chunk_end f at line_at place front ≡ chunk_end g at line_at place front
  end_same at line_at place [] l = refl
  end_same at line_at place (b ∷ []) l = refl
  end_same at line_at place (b ∷ c ∷ rest) l = cond_then (b == 13 && c == 10) (f (place + 2) rest) (g (place + 2) rest) (Broken line_at) (λ t. same (place + 2) rest (omega arith))

module _ (bytes : List ℕ) (f g : Response → ℕ → List ℕ → ResponseFront) (same : (r : Response) (p : ℕ) (b : List ℕ) → length b < length bytes → f r p b ≡ g r p b) where
  data_same : (response : Response) (at line_at place left : ℕ) (front : List ℕ) → length front ≤ length bytes → chunk_data f response at line_at place left front ≡ chunk_data g response at line_at place left front
  data_same response at line_at place left front l =
      let fits : length (drop left front) ≤ length front = drop_le left front in
      let less : length (drop left front) ≤ length bytes = omega arith in
      cond_same (nat_lt (length front) left) (Incomplete at) (chunk_end (f (add response (take left front))) at line_at (place + left) (drop left front)) (chunk_end (g (add response (take left front))) at line_at (place + left) (drop left front))
      (λ t. end_same bytes (f (add response (take left front))) (g (add response (take left front))) (same (add response (take left front))) at line_at (place + left) (drop left front) less)

  line_same : (response : Response) (at place : ℕ) (line : LineFront) → at_line f response at place line bytes ≡ at_line g response at place line bytes
  line_same response at place Unsure = refl
  line_same response at place NoLine = refl
  line_same response at place (Line n) =
      let size = size_of bytes in
      let rest = drop n bytes in
      cond_same (size == 0) (trailers response at rest)
      (cond (nat_lt 16777216 (length response.body + size)) (Broken at) (chunk_data f response at place (place + n) size rest))
      (cond (nat_lt 16777216 (length response.body + size)) (Broken at) (chunk_data g response at place (place + n) size rest))
      (λ t. cond_same (nat_lt 16777216 (length response.body + size)) (Broken at) (chunk_data f response at place (place + n) size rest) (chunk_data g response at place (place + n) size rest)
      (λ u. data_same response at place (place + n) size rest (drop_le n bytes)))

none_of : (bytes : List ℕ) → length bytes ≤ 0 → bytes ≡ []
none_of [] l = refl
none_of (b ∷ bytes) l = absurd (omega arith)

no_chunk : (rounds : ℕ) (response : Response) (at place : ℕ) (bytes : List ℕ) → length bytes ≤ 0 → chunks_in rounds response at place bytes ≡ Incomplete at
unfolding chunk_line
no_chunk zero response at place bytes l = refl
no_chunk (suc rounds) response at place bytes l = ap (λ (b : List ℕ). chunks_in (suc rounds) response at place b) (none_of bytes l)

-- as many rounds as bytes are enough
chunks_enough : (m n : ℕ) (response : Response) (at place : ℕ) (bytes : List ℕ) → length bytes ≤ m → length bytes ≤ n → chunks_in m response at place bytes ≡ chunks_in n response at place bytes
chunks_enough zero n response at place bytes l k = sym (no_chunk n response at place bytes l)
chunks_enough (suc m) zero response at place bytes l k = no_chunk (suc m) response at place bytes k
chunks_enough (suc m) (suc n) response at place bytes l k =
    line_same bytes (λ r p b. chunks_in m r at p b) (λ r p b. chunks_in n r at p b) (λ r p b less. chunks_enough m n r at p b (omega arith) (omega arith)) response at place (chunk_line (take 16384 bytes))

-- the first chunk line, and the chunks behind it
pub chunks_step : (response : Response) (at place : ℕ) (bytes : List ℕ) → chunks response at place bytes ≡ at_line (λ r p b. chunks r at p b) response at place (chunk_line (take 16384 bytes)) bytes
unfolding chunks
chunks_step response at place bytes =
    chunks_enough (length bytes) (suc (length bytes)) response at place bytes (omega arith) (omega arith)
    ∙ line_same bytes (λ r p b. chunks_in (length bytes) r at p b) (λ r p b. chunks_in (length b) r at p b)
    (λ r p b less. chunks_enough (length bytes) (length b) r at p b (omega arith) (omega arith)) response at place (chunk_line (take 16384 bytes))

-- ---- heads, round by round

module _ (f g : ℕ → List ℕ → ResponseFront) (place : ℕ) (rest : List ℕ) (same : f place rest ≡ g place rest) where
  judged_same : (judged : JudgedResponse) (at : ℕ) → behind_head f judged at place rest ≡ behind_head g judged at place rest
  judged_same Faulty at = refl
  judged_same Informational at = same
  judged_same (Sound head) at = refl

module _ (bytes : List ℕ) (f g : ℕ → List ℕ → ResponseFront) (same : (p : ℕ) (b : List ℕ) → length b < length bytes → f p b ≡ g p b) where
  head_same : (to_head : Bool) (at : ℕ) (o : Option ℕ) → head_len (take 16384 bytes) ≡ o → at_head f to_head at o bytes ≡ at_head g to_head at o bytes
  head_same to_head at None h = refl
  head_same to_head at (Some n) h =
      let within : (0 < n) × (n ≤ length (take 16384 bytes)) = head_len_within (take 16384 bytes) n h in
      let window : length (take 16384 bytes) ≤ length bytes = window_le bytes in
      let size : length (drop n bytes) ≡ length bytes - n = length-drop n bytes in
      judged_same f g (at + n) (drop n bytes) (same (at + n) (drop n bytes) (omega arith)) (judge_response to_head (take n bytes)) at
    where
      window_le : (bytes : List ℕ) → length (take 16384 bytes) ≤ length bytes
      window_le bytes = let e : length (take 16384 bytes) ≡ min 16384 (length bytes) = length-take 16384 bytes in omega arith

no_response : (rounds : ℕ) (to_head : Bool) (at : ℕ) (bytes : List ℕ) → length bytes ≤ 0 → responses_in rounds to_head at bytes ≡ Incomplete at
no_response zero to_head at bytes l = refl
no_response (suc rounds) to_head at bytes l = ap (λ (b : List ℕ). responses_in (suc rounds) to_head at b) (none_of bytes l)

responses_enough : (m n : ℕ) (to_head : Bool) (at : ℕ) (bytes : List ℕ) → length bytes ≤ m → length bytes ≤ n → responses_in m to_head at bytes ≡ responses_in n to_head at bytes
responses_enough zero n to_head at bytes l k = sym (no_response n to_head at bytes l)
responses_enough (suc m) zero to_head at bytes l k = no_response (suc m) to_head at bytes k
responses_enough (suc m) (suc n) to_head at bytes l k =
    head_same bytes (λ p b. responses_in m to_head p b) (λ p b. responses_in n to_head p b) (λ p b less. responses_enough m n to_head p b (omega arith) (omega arith)) to_head at (head_len (take 16384 bytes)) refl

-- the first head, and the responses behind it
pub responses_step : (to_head : Bool) (at : ℕ) (bytes : List ℕ) → response_front to_head at bytes ≡ at_head (λ p b. response_front to_head p b) to_head at (head_len (take 16384 bytes)) bytes
unfolding response_front
responses_step to_head at bytes =
    responses_enough (length bytes) (suc (length bytes)) to_head at bytes (omega arith) (omega arith)
    ∙ head_same bytes (λ p b. responses_in (length bytes) to_head p b) (λ p b. responses_in (length b) to_head p b)
    (λ p b less. responses_enough (length bytes) (length b) to_head p b (omega arith) (omega arith)) to_head at (head_len (take 16384 bytes)) refl

-- ---- as more bytes come

-- what stood at the front, and what stands there when more bytes came
abbrev pub LaterResponse : List ℕ → ResponseFront → ResponseFront → Type 0
LaterResponse more (Incomplete at) now = Unit {0}
LaterResponse more (Open response) now = Unit {0}
LaterResponse more (Complete response rest) now = now ≡ Complete response (rest ++ more)
LaterResponse more (Broken at) now = now ≡ Broken at

-- where it was incomplete, or else the same
later_if : (t u : Bool) (more : List ℕ) (at : ℕ) (x y : ResponseFront) → (t ≡ false → u ≡ false) → (t ≡ false → LaterResponse more x y) → LaterResponse more (cond t (Incomplete at) x) (cond u (Incomplete at) y)
later_if true u more at x y f g = tt
later_if false true more at x y f g = cc (f refl)
later_if false false more at x y f g = g refl

-- a test that stays
later_both : (t : Bool) (more : List ℕ) (x y z w : ResponseFront) → (t ≡ true → LaterResponse more x z) → (t ≡ false → LaterResponse more y w) → LaterResponse more (cond t x y) (cond t z w)
later_both true more x y z w f g = f refl
later_both false more x y z w f g = g refl

-- enough bytes stay enough
enough : (bytes more : List ℕ) (n : ℕ) → nat_lt (length bytes) n ≡ false → nat_lt (length (bytes ++ more)) n ≡ false
enough bytes more n h =
    let le : n ≤ length bytes = ltb-false (length bytes) n h in
    let size : length (bytes ++ more) ≡ length bytes + length more = length-append bytes more in
    le-ltb (length (bytes ++ more)) n (omega arith)

pub sized_more : (response : Response) (at left : ℕ) (bytes more : List ℕ) → LaterResponse more (sized_body response at left bytes) (sized_body response at left (bytes ++ more))
sized_more response at left bytes more =
    later_if (nat_lt (length bytes) left) (nat_lt (length (bytes ++ more)) left) more at
    (Complete (add response (take left bytes)) (drop left bytes)) (Complete (add response (take left (bytes ++ more))) (drop left (bytes ++ more)))
    (enough bytes more left)
    (λ t. let le : left ≤ length bytes = ltb-false (length bytes) left t in
    λ i. Complete (add response (take-append-le left bytes more le i)) (drop-append-le left bytes more le i))

pub open_more : (response : Response) (at : ℕ) (bytes more : List ℕ) → LaterResponse more (open_body response at bytes) (open_body response at (bytes ++ more))
open_more response at bytes more = by (nat_lt 16777216 (length response.body + length bytes)) refl
  where
    by : (t : Bool) → nat_lt 16777216 (length response.body + length bytes) ≡ t → LaterResponse more (cond t (Broken at) (Open (add response bytes))) (open_body response at (bytes ++ more))
    by false e = tt
    by true e =
        let over : 16777216 < length response.body + length bytes = ltb-true 16777216 (length response.body + length bytes) e in
        let size : length (bytes ++ more) ≡ length bytes + length more = length-append bytes more in
        ap (λ (t : Bool). cond t (Broken at) (Open (add response (bytes ++ more)))) (lt-ltb 16777216 (length response.body + length (bytes ++ more)) (omega arith))

-- the end of the trailers stays where it is
pub trailers_len_more : (bytes more : List ℕ) (n : ℕ) → trailers_len bytes ≡ Some n → trailers_len (bytes ++ more) ≡ Some n
trailers_len_more bytes more n h = elim (chosen (nat_lt 0 (empty_line bytes)) (Some (empty_line bytes)) (head_len bytes) (Some n) h) [
  | inl t ↦ ap (λ (e : ℕ). cond (nat_lt 0 e) (Some e) (head_len (bytes ++ more))) (empty_line_more bytes more t.0) ∙ ap (λ (b : Bool). cond b (Some (empty_line bytes)) (head_len (bytes ++ more))) t.0 ∙ t.1
  | inr t ↦ ap (λ (e : ℕ). cond (nat_lt 0 e) (Some e) (head_len (bytes ++ more))) (empty_line_later bytes more n t.1) ∙ ap (λ (b : Bool). cond b (Some (empty_line bytes)) (head_len (bytes ++ more))) t.0 ∙ head_len_more bytes more n t.1
]

pub trailers_len_within : (bytes : List ℕ) (n : ℕ) → trailers_len bytes ≡ Some n → (0 < n) × (n ≤ length bytes)
trailers_len_within bytes n h = elim (chosen (nat_lt 0 (empty_line bytes)) (Some (empty_line bytes)) (head_len bytes) (Some n) h) [
  | inl t ↦
      let is : empty_line bytes ≡ n = cc (t.1) in
      let some : 0 < empty_line bytes = ltb-true 0 (empty_line bytes) t.0 in
      let fits : empty_line bytes ≤ length bytes = empty_line_le bytes in
      (omega arith, omega arith)
  | inr t ↦ head_len_within bytes n t.1
]

window_le : (bytes : List ℕ) → length (take 16384 bytes) ≤ length bytes
window_le bytes = let e : length (take 16384 bytes) ≡ min 16384 (length bytes) = length-take 16384 bytes in omega arith

full : (bytes more : List ℕ) → nat_lt (length bytes) 16384 ≡ false → take 16384 (bytes ++ more) ≡ take 16384 bytes
full bytes more h = let le : 16384 ≤ length bytes = ltb-false (length bytes) 16384 h in take-append-le 16384 bytes more le

pub trailers_more : (response : Response) (at : ℕ) (bytes more : List ℕ) → LaterResponse more (trailers response at bytes) (trailers response at (bytes ++ more))
trailers_more response at bytes more = by (trailers_len (take 16384 bytes)) refl
  where
    by : (o : Option ℕ) → trailers_len (take 16384 bytes) ≡ o → LaterResponse more (after_trailers response at o bytes) (trailers response at (bytes ++ more))
    by (Some n) e =
        let split = take_split 16384 bytes more in
        let fits : n ≤ length bytes = let a : n ≤ length (take 16384 bytes) = (trailers_len_within (take 16384 bytes) n e).1 in let b : length (take 16384 bytes) ≤ length bytes = window_le bytes in omega arith in
        ap (λ (o : Option ℕ). after_trailers response at o (bytes ++ more)) (ap trailers_len split.1 ∙ trailers_len_more (take 16384 bytes) split.0 n e)
        ∙ ap (Complete response) (drop-append-le n bytes more fits)
    by None e = later_none (nat_lt (length bytes) 16384) refl
      where
        later_none : (t : Bool) → nat_lt (length bytes) 16384 ≡ t → LaterResponse more (cond t (Incomplete at) (Broken at)) (trailers response at (bytes ++ more))
        later_none true h = tt
        later_none false h = ap (λ (o : Option ℕ). after_trailers response at o (bytes ++ more)) (ap trailers_len (full bytes more h) ∙ e) ∙ ap (λ (t : Bool). cond t (Incomplete at) (Broken at)) (enough bytes more 16384 h)

module _ (next : ℕ → List ℕ → ResponseFront) (more : List ℕ) (at line_at : ℕ) where
  pub end_more : (place : ℕ) (bytes : List ℕ) → ((p : ℕ) (b : List ℕ) → length b < length bytes → LaterResponse more (next p b) (next p (b ++ more))) →
      LaterResponse more (chunk_end next at line_at place bytes) (chunk_end next at line_at place (bytes ++ more))
  end_more place [] later = tt
  end_more place (b ∷ []) later = one (b == 13) refl more
    where
      one : (t : Bool) → (b == 13) ≡ t → (more : List ℕ) → LaterResponse more (cond t (Incomplete at) (Broken line_at)) (chunk_end next at line_at place (b ∷ more))
      one true e more = tt
      one false e [] = ap (λ (t : Bool). cond t (Incomplete at) (Broken line_at)) e
      one false e (c ∷ more) = ap (λ (t : Bool). cond (t && c == 10) (next (place + 2) more) (Broken line_at)) e
  end_more place (b ∷ c ∷ bytes) later = later_both (b == 13 && c == 10) more (next (place + 2) bytes) (Broken line_at) (next (place + 2) (bytes ++ more)) (Broken line_at) (λ t. later (place + 2) bytes (omega arith)) (λ t. refl)

module _ (next : Response → ℕ → List ℕ → ResponseFront) (more : List ℕ) where
  pub data_more : (response : Response) (at line_at place left : ℕ) (bytes : List ℕ) → ((r : Response) (p : ℕ) (b : List ℕ) → length b < length bytes → LaterResponse more (next r p b) (next r p (b ++ more))) →
      LaterResponse more (chunk_data next response at line_at place left bytes) (chunk_data next response at line_at place left (bytes ++ more))
  data_more response at line_at place left bytes later =
      later_if (nat_lt (length bytes) left) (nat_lt (length (bytes ++ more)) left) more at
      (chunk_end (next (add response (take left bytes))) at line_at (place + left) (drop left bytes))
      (chunk_end (next (add response (take left (bytes ++ more)))) at line_at (place + left) (drop left (bytes ++ more)))
      (enough bytes more left)
      (λ t.
      let le : left ≤ length bytes = ltb-false (length bytes) left t in
      let size : length (drop left bytes) ≡ length bytes - left = length-drop left bytes in
      let same : chunk_end (next (add response (take left (bytes ++ more)))) at line_at (place + left) (drop left (bytes ++ more)) ≡ chunk_end (next (add response (take left bytes))) at line_at (place + left) (drop left bytes ++ more) =
      λ i. chunk_end (next (add response (take-append-le left bytes more le i))) at line_at (place + left) (drop-append-le left bytes more le i) in
      subst (λ (f : ResponseFront). LaterResponse more (chunk_end (next (add response (take left bytes))) at line_at (place + left) (drop left bytes)) f) (sym same)
      (end_more (next (add response (take left bytes))) more at line_at (place + left) (drop left bytes) (λ p b less. later (add response (take left bytes)) p b (omega arith))))

  pub behind_more : (response : Response) (at line_at place size : ℕ) (bytes : List ℕ) → ((r : Response) (p : ℕ) (b : List ℕ) → length b < length bytes → LaterResponse more (next r p b) (next r p (b ++ more))) →
      LaterResponse more (behind_line next response at line_at place size bytes) (behind_line next response at line_at place size (bytes ++ more))
  behind_more response at line_at place size bytes later =
      later_both (size == 0) more (trailers response at bytes)
      (cond (nat_lt 16777216 (length response.body + size)) (Broken at) (chunk_data next response at line_at place size bytes))
      (trailers response at (bytes ++ more))
      (cond (nat_lt 16777216 (length response.body + size)) (Broken at) (chunk_data next response at line_at place size (bytes ++ more)))
      (λ t. trailers_more response at bytes more)
      (λ t. later_both (nat_lt 16777216 (length response.body + size)) more (Broken at) (chunk_data next response at line_at place size bytes) (Broken at) (chunk_data next response at line_at place size (bytes ++ more))
      (λ u. refl) (λ u. data_more response at line_at place size bytes later))

-- a chunk line in the first bytes
pub window_line : (bytes more : List ℕ) (n : ℕ) → chunk_line (take 16384 bytes) ≡ Line n → (chunk_line (take 16384 (bytes ++ more)) ≡ Line n) × (size_of (bytes ++ more) ≡ size_of bytes) × (n ≤ length bytes) × (0 < n)
window_line bytes more n h =
    let split = take_split 16384 bytes more in
    let w = take 16384 bytes in
    let all : w ++ drop 16384 bytes ≡ bytes = take-append-drop 16384 bytes in
    let whole : chunk_line bytes ≡ Line n = ap chunk_line (sym all) ∙ line_stays w n h (drop 16384 bytes) in
    let text = line_text bytes n whole in
    (ap chunk_line split.1 ∙ line_stays w n h split.0, size_stays bytes n whole more, text.2, text.3)

module _ (more : List ℕ) (next : Response → ℕ → List ℕ → ResponseFront) (response : Response) (at place : ℕ) (bytes : List ℕ)
    (later : (r : Response) (p : ℕ) (b : List ℕ) → length b < length bytes → LaterResponse more (next r p b) (next r p (b ++ more))) where
  at_line_more : (line : LineFront) → chunk_line (take 16384 bytes) ≡ line → LaterResponse more (at_line next response at place line bytes) (at_line next response at place (chunk_line (take 16384 (bytes ++ more))) (bytes ++ more))
  at_line_more (Line n) h =
      let w = window_line bytes more n h in
      let size : length (drop n bytes) ≡ length bytes - n = length-drop n bytes in
      let now : at_line next response at place (chunk_line (take 16384 (bytes ++ more))) (bytes ++ more) ≡ behind_line next response at place (place + n) (size_of bytes) (drop n bytes ++ more) =
      ap (λ (f : LineFront). at_line next response at place f (bytes ++ more)) w.0
      ∙ (λ i. behind_line next response at place (place + n) (w.1 i) (drop-append-le n bytes more w.2 i)) in
      subst (λ (f : ResponseFront). LaterResponse more (behind_line next response at place (place + n) (size_of bytes) (drop n bytes)) f) (sym now)
      (behind_more next more response at place (place + n) (size_of bytes) (drop n bytes) (λ r p b less. later r p b (omega arith)))
  at_line_more NoLine h =
      let split = take_split 16384 bytes more in
      let stays : chunk_line (take 16384 bytes ++ split.0) ≡ NoLine = subst (λ (f : LineFront). StaysLine f (chunk_line (take 16384 bytes ++ split.0))) h (chunk_line_more (take 16384 bytes) split.0) in
      ap (λ (f : LineFront). at_line next response at place f (bytes ++ more)) (ap chunk_line split.1 ∙ stays)
  at_line_more Unsure h = by (nat_lt (length bytes) 16384) refl
    where
      by : (t : Bool) → nat_lt (length bytes) 16384 ≡ t → LaterResponse more (cond t (Incomplete at) (Broken place)) (at_line next response at place (chunk_line (take 16384 (bytes ++ more))) (bytes ++ more))
      by true e = tt
      by false e = ap (λ (f : LineFront). at_line next response at place f (bytes ++ more)) (ap chunk_line (full bytes more e) ∙ h) ∙ ap (λ (t : Bool). cond t (Incomplete at) (Broken place)) (enough bytes more 16384 e)

chunks_more_in : (k : ℕ) (more : List ℕ) (response : Response) (at place : ℕ) (bytes : List ℕ) → length bytes ≤ k → LaterResponse more (chunks response at place bytes) (chunks response at place (bytes ++ more))
unfolding chunks
chunks_more_in zero more response at place bytes l = subst (λ (f : ResponseFront). LaterResponse more f (chunks response at place (bytes ++ more))) (sym (no_chunk (length bytes) response at place bytes l)) tt
chunks_more_in (suc k) more response at place bytes l =
    subst (λ (f : ResponseFront). LaterResponse more f (chunks response at place (bytes ++ more))) (sym (chunks_step response at place bytes))
    (subst (λ (f : ResponseFront). LaterResponse more (at_line (λ r p b. chunks r at p b) response at place (chunk_line (take 16384 bytes)) bytes) f) (sym (chunks_step response at place (bytes ++ more)))
    (at_line_more more (λ r p b. chunks r at p b) response at place bytes (λ r p b less. chunks_more_in k more r at p b (omega arith)) (chunk_line (take 16384 bytes)) refl))

pub chunks_more : (more : List ℕ) (response : Response) (at place : ℕ) (bytes : List ℕ) → LaterResponse more (chunks response at place bytes) (chunks response at place (bytes ++ more))
chunks_more more response at place bytes = chunks_more_in (length bytes) more response at place bytes (omega arith)

body_more : (more : List ℕ) (response : Response) (framing : Framing) (at : ℕ) (bytes : List ℕ) → LaterResponse more (body_front response framing at bytes) (body_front response framing at (bytes ++ more))
body_more more response (Sized size) at bytes = sized_more response at size bytes more
body_more more response TooLong at bytes = refl
body_more more response Chunked at bytes = chunks_more more response at at bytes
body_more more response UntilEnd at bytes = open_more response at bytes more

-- a head in the first bytes
pub window_head : (bytes more : List ℕ) (n : ℕ) → head_len (take 16384 bytes) ≡ Some n → (head_len (take 16384 (bytes ++ more)) ≡ Some n) × (n ≤ length bytes) × (0 < n)
window_head bytes more n h =
    let split = take_split 16384 bytes more in
    let within : (0 < n) × (n ≤ length (take 16384 bytes)) = head_len_within (take 16384 bytes) n h in
    let window : length (take 16384 bytes) ≤ length bytes = window_le bytes in
    (ap head_len split.1 ∙ head_len_more (take 16384 bytes) split.0 n h, omega arith, omega arith)

module _ (more : List ℕ) (next : ℕ → List ℕ → ResponseFront) (to_head : Bool) (at : ℕ) (bytes : List ℕ)
    (later : (p : ℕ) (b : List ℕ) → length b < length bytes → LaterResponse more (next p b) (next p (b ++ more))) where
  judged_more : (judged : JudgedResponse) (place n : ℕ) → length (drop n bytes) < length bytes → LaterResponse more (behind_head next judged at place (drop n bytes)) (behind_head next judged at place (drop n bytes ++ more))
  judged_more Faulty place n less = refl
  judged_more Informational place n less = later place (drop n bytes) less
  judged_more (Sound head) place n less = body_more more head.response head.framing place (drop n bytes)

  at_head_more : (o : Option ℕ) → head_len (take 16384 bytes) ≡ o → LaterResponse more (at_head next to_head at o bytes) (at_head next to_head at (head_len (take 16384 (bytes ++ more))) (bytes ++ more))
  at_head_more (Some n) h =
      let w = window_head bytes more n h in
      let size : length (drop n bytes) ≡ length bytes - n = length-drop n bytes in
      let now : at_head next to_head at (head_len (take 16384 (bytes ++ more))) (bytes ++ more) ≡ behind_head next (judge_response to_head (take n bytes)) at (at + n) (drop n bytes ++ more) =
      ap (λ (o : Option ℕ). at_head next to_head at o (bytes ++ more)) w.0
      ∙ (λ i. behind_head next (judge_response to_head (take-append-le n bytes more w.1 i)) at (at + n) (drop-append-le n bytes more w.1 i)) in
      subst (λ (f : ResponseFront). LaterResponse more (behind_head next (judge_response to_head (take n bytes)) at (at + n) (drop n bytes)) f) (sym now)
      (judged_more (judge_response to_head (take n bytes)) (at + n) n (omega (arith, w.2)))
  at_head_more None h = by (nat_lt (length bytes) 16384) refl
    where
      by : (t : Bool) → nat_lt (length bytes) 16384 ≡ t → LaterResponse more (cond t (Incomplete at) (Broken at)) (at_head next to_head at (head_len (take 16384 (bytes ++ more))) (bytes ++ more))
      by true e = tt
      by false e = ap (λ (o : Option ℕ). at_head next to_head at o (bytes ++ more)) (ap head_len (full bytes more e) ∙ h) ∙ ap (λ (t : Bool). cond t (Incomplete at) (Broken at)) (enough bytes more 16384 e)

response_more_in : (k : ℕ) (more : List ℕ) (to_head : Bool) (at : ℕ) (bytes : List ℕ) → length bytes ≤ k → LaterResponse more (response_front to_head at bytes) (response_front to_head at (bytes ++ more))
unfolding response_front
response_more_in zero more to_head at bytes l = subst (λ (f : ResponseFront). LaterResponse more f (response_front to_head at (bytes ++ more))) (sym (no_response (length bytes) to_head at bytes l)) tt
response_more_in (suc k) more to_head at bytes l =
    subst (λ (f : ResponseFront). LaterResponse more f (response_front to_head at (bytes ++ more))) (sym (responses_step to_head at bytes))
    (subst (λ (f : ResponseFront). LaterResponse more (at_head (λ p b. response_front to_head p b) to_head at (head_len (take 16384 bytes)) bytes) f) (sym (responses_step to_head at (bytes ++ more)))
    (at_head_more more (λ p b. response_front to_head p b) to_head at bytes (λ p b less. response_more_in k more to_head p b (omega arith)) (head_len (take 16384 bytes)) refl))

-- What stands at the front when more bytes came.
pub response_more : (to_head : Bool) (at : ℕ) (bytes more : List ℕ) → LaterResponse more (response_front to_head at bytes) (response_front to_head at (bytes ++ more))
response_more to_head at bytes more = response_more_in (length bytes) more to_head at bytes (omega arith)

-- A response stays when bytes follow.
pub complete_more : (to_head : Bool) (at : ℕ) (bytes more : List ℕ) (response : Response) (rest : List ℕ) → response_front to_head at bytes ≡ Complete response rest → response_front to_head at (bytes ++ more) ≡ Complete response (rest ++ more)
complete_more to_head at bytes more response rest h = subst (λ (f : ResponseFront). LaterResponse more f (response_front to_head at (bytes ++ more))) h (response_more to_head at bytes more)

-- A fault stays where it is.
pub broken_more : (to_head : Bool) (at : ℕ) (bytes more : List ℕ) (fault : ℕ) → response_front to_head at bytes ≡ Broken fault → response_front to_head at (bytes ++ more) ≡ Broken fault
broken_more to_head at bytes more fault h = subst (λ (f : ResponseFront). LaterResponse more f (response_front to_head at (bytes ++ more))) h (response_more to_head at bytes more)
