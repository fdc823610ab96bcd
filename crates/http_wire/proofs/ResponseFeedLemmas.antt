-- What a feed of responses knows of its bytes, and what a step of it does.
use Rattle.std.proofs.Common.{◌≡◌, ◌∷◌, [], ◌++◌, ◌<◌, ◌≤◌, ◌+◌, ◌-◌, ℕ, zero, suc, List, length, take, drop, Option, Some, None, Bool, true, false, cond, inl, inr, sym, refl, ap, ◌∙◌, subst, append_assoc, length-append, length-drop, zero-add, min, arith}
use Rattle.std.specs.Prelude.{◌==◌, ◌&&◌, nat_lt}
use Rattle.std.specs.Option.{option_map}
use Rattle.std.proofs.lemmas.Bool.{lt-ltb, le-ltb, cases_lt}
use Rattle.std.proofs.lemmas.List.{append-nil, take-append-le, drop-append-le, take-append-drop, length-take, take_all}
use Rattle.http_wire.specs.declared.response.Response.{Response}
use Rattle.http_wire.specs.declared.response_checks.JudgedResponse.{JudgedResponse}
use Rattle.http_wire.specs.declared.response_stage.Stage.{Stage}
use Rattle.http_wire.specs.declared.response_stage.Stage.TheVariants.{Head, Body, Stopped}
use Rattle.http_wire.specs.declared.response_stage.Part.TheVariants.{Known, ToEnd, SizeLine, Data, DataEnd, Trailers}
use Rattle.http_wire.specs.declared.response_step.Step.{Step}
use Rattle.http_wire.specs.declared.response_step.Step.TheVariants.{On, Wait, Done, Fault, NoMemory}
use Rattle.http_wire.specs.declared.search.End.{End}
use Rattle.http_wire.specs.declared.search.End.TheVariants.{At, Missing}
use Rattle.http_wire.specs.HeadPlace.{empty_line, head_len}
use Rattle.http_wire.specs.Search.{TellsLine, end_from, GoesOn, FindsEnd}
use Rattle.http_wire.specs.declared.chunk_line.LinePart.{LinePart}
use Rattle.http_wire.specs.ChunkLine.{LineFront, Line, Unsure, NoLine, behind, line_from, chunk_line, size_of, GoesOnLine}
use Rattle.http_wire.specs.ResponseChecks.{judge_response}
use Rattle.http_wire.specs.Responses.{ResponseFront, Incomplete, Complete, Broken, add, sized_body, trailers_len, after_trailers, trailers, chunk_end, chunk_data, behind_line, at_line, chunks, behind_head, at_head, response_front}
use Rattle.http_wire.specs.ResponseFeed.{HeldResponse, stage_front, place_of, ahead, is_over_stage, is_over}
use Rattle.http_wire.specs.ResponseSteps.{IsStage, stage_waits, Steps, WaitsOrStops, FindsTrailers, has_crlf}
use Rattle.http_wire.proofs.HeadLineLemmas.{chosen}
use Rattle.std.proofs.Math.ListN.{drop_of_length-le}
use Rattle.http_wire.proofs.RequestLaws.{take_split}
use Rattle.http_wire.proofs.HeadPlaceLemmas.{head_len_within, head_len_take}
use Rattle.http_wire.proofs.ChunkLineLemmas.{line_text, size_stays}
use Rattle.http_wire.proofs.ResponseLaws.{responses_step, chunks_step, window_head, window_line, broken_more, LaterResponse, chunks_more, trailers_more, trailers_len_within}

-- ---- the search for an end from the front on

end_front : (bytes : List ℕ) → end_from 0 bytes ≡ head_len bytes
end_front bytes = by (head_len bytes)
  where
    by : (o : Option ℕ) → option_map (λ n. 0 + n) o ≡ o
    by None = refl
    by (Some n) = ap Some (zero-add n)

-- what was looked through
searched : (bytes : List ℕ) (from : ℕ) → GoesOn bytes 0 from → head_len bytes ≡ end_from from bytes
searched bytes from g = sym (end_front bytes) ∙ ap (end_from 0) (sym (append-nil bytes)) ∙ g.goes_on [] ∙ ap (end_from from) (append-nil bytes)

goes_far : (bytes : List ℕ) (from to : ℕ) → GoesOn bytes 0 from → GoesOn bytes from to → GoesOn bytes 0 to
goes_far bytes from to g h = record { within = h.within; goes_on = λ more. g.goes_on more ∙ h.goes_on more }

pub goes_front : (bytes : List ℕ) → GoesOn bytes 0 0
goes_front bytes = record { within = omega arith; goes_on = λ more. refl }

goes_more : (bytes more : List ℕ) (from : ℕ) → GoesOn bytes 0 from → GoesOn (bytes ++ more) 0 from
goes_more bytes more from g = record {
  within = let size : length (bytes ++ more) ≡ length bytes + length more = length-append bytes more in omega (arith, g.within);
  goes_on = λ others. subst (λ (s : List ℕ). end_from 0 s ≡ end_from from s) (sym (append_assoc bytes more others)) (g.goes_on (more ++ others));
}

line_goes_more : (bytes more : List ℕ) (from : ℕ) (part : LinePart) → GoesOnLine bytes from part → GoesOnLine (bytes ++ more) from part
line_goes_more bytes more from part g = record {
  within = let size : length (bytes ++ more) ≡ length bytes + length more = length-append bytes more in omega (arith, g.within);
  goes_on = λ others. subst (λ (s : List ℕ). chunk_line s ≡ behind from (line_from (drop from s) part)) (sym (append_assoc bytes more others)) (g.goes_on (more ++ others));
}

-- more bytes came
pub stage_more : (stage : Stage) (rest more : List ℕ) → IsStage rest stage → IsStage (rest ++ more) stage
stage_more (Head from) rest more is =
    let split = take_split 16384 rest more in
    subst (λ (w : List ℕ). GoesOn w 0 from) (sym split.1) (goes_more (take 16384 rest) split.0 from is)
stage_more (Body response at (Known left)) rest more is = tt
stage_more (Body response at ToEnd) rest more is = tt
stage_more (Body response at (SizeLine from part)) rest more is =
    let split = take_split 16384 rest more in
    subst (λ (w : List ℕ). GoesOnLine w from part) (sym split.1) (line_goes_more (take 16384 rest) split.0 from part is)
stage_more (Body response at (Data left line_at)) rest more is = is
stage_more (Body response at (DataEnd line_at)) rest more is = tt
stage_more (Body response at (Trailers from)) rest more is =
    let split = take_split 16384 rest more in
    subst (λ (w : List ℕ). GoesOn w 0 from) (sym split.1) (goes_more (take 16384 rest) split.0 from is)
stage_more (Stopped at) rest more is = tt

-- ---- the end of the trailers

if_empty : (n : ℕ) (o : Option ℕ) → n ≡ 0 → cond (nat_lt 0 n) (Some n) o ≡ o
if_empty n o e = ap (λ (k : ℕ). cond (nat_lt 0 k) (Some k) o) e

pub trailers_search : (first : List ℕ) (from : ℕ) (r : End) → TellsLine first (Some 0) → GoesOn first 0 from → FindsEnd first from r → FindsTrailers first r
trailers_search first from r tells g f = by r f
  where
    none : empty_line first ≡ 0
    none = ap empty_line (sym (append-nil first)) ∙ tells.1 []

    all : trailers_len first ≡ end_from from first
    all = if_empty (empty_line first) (head_len first) none ∙ searched first from g

    by : (r : End) → FindsEnd first from r → FindsTrailers first r
    by (At end) f = all ∙ f
    by (Missing to) f = (all ∙ f.0, goes_far first from to g f.1)

pub trailers_here : (first : List ℕ) (end : ℕ) → TellsLine first (Some end) → 0 < end → trailers_len first ≡ Some end
trailers_here first end tells l =
    let is : empty_line first ≡ end = ap empty_line (sym (append-nil first)) ∙ tells.1 [] in
    ap (λ (k : ℕ). cond (nat_lt 0 k) (Some k) (head_len first)) is ∙ ap (λ (t : Bool). cond t (Some end) (head_len first)) (lt-ltb 0 end l)

-- ---- steps

pub stop_steps : (front : List ℕ → ResponseFront) (old new : HeldResponse) (at : ℕ) (step : Step) → step ≡ Fault at → new ≡ record old { stage = Stopped at } → ((more : List ℕ) → front more ≡ Broken at) → Steps front old new step
stop_steps front old new at step s e h = subst (λ (x : Step). Steps front old new x) (sym s)
    (h, record { to_head = ap (λ (o : HeldResponse). o.to_head) e; count = ap (λ (o : HeldResponse). o.count) e; ahead = λ more. ap (λ (o : HeldResponse). ahead o more) e ∙ sym (h more) })

-- it waits, or stops where the first bytes are there
pub wait_steps : (front : List ℕ → ResponseFront) (old new : HeldResponse) (stage : Stage) (at : ℕ) (step : Step) → WaitsOrStops old new stage at step → is_over_stage stage ≡ false →
    ((more : List ℕ) → stage_front old.to_head stage (place_of old) (old.rest ++ more) ≡ front more) →
    (length old.rest < 16384 → front [] ≡ stage_waits stage (place_of old)) →
    (16384 ≤ length old.rest → (more : List ℕ) → front more ≡ Broken at) → Steps front old new step
wait_steps front old new stage at On w goes same short long = absurd w
wait_steps front old new stage at Wait w goes same short long = subst (λ (o : HeldResponse). Steps front old o Wait) (sym w.1)
    ((same [] ∙ short w.0, goes), record { to_head = refl; count = refl; ahead = same })
wait_steps front old new stage at (Done response) w goes same short long = absurd w
wait_steps front old new stage at (Fault place) w goes same short long = stop_steps front old new at (Fault place) (ap Fault w.1) w.2 (long w.0)
wait_steps front old new stage at NoMemory w goes same short long = absurd w

-- bytes are taken, and another stage begins
pub on_steps : (front : List ℕ → ResponseFront) (old new : HeldResponse) (n : ℕ) (next : Stage) (step : Step) → step ≡ On → new ≡ record old { rest = drop n old.rest; stage = next } → length old.rest ≤ old.count →
    is_over old ≡ false → 0 < n → n ≤ length old.rest → ((more : List ℕ) → stage_front old.to_head next (place_of old + n) (drop n old.rest ++ more) ≡ front more) → Steps front old new step
on_steps front old new n next step s e fits goes some le same =
    let size : length (drop n old.rest) ≡ length old.rest - n = length-drop n old.rest in
    let place : old.count - length (drop n old.rest) ≡ (old.count - length old.rest) + n = omega arith in
    subst (λ (x : Step). Steps front old new x) (sym s) (subst (λ (o : HeldResponse). Steps front old o On) (sym e) (
      goes,
      omega arith,
      record { to_head = refl; count = refl; ahead = λ more. ap (λ (p : ℕ). stage_front old.to_head next p (drop n old.rest ++ more)) place ∙ same more },
    ))

-- a response is whole, and the next begins
pub done_steps : (front : List ℕ → ResponseFront) (old new : HeldResponse) (n : ℕ) (response : Response) (step : Step) → step ≡ Done response → new ≡ record old { rest = drop n old.rest; stage = Head 0 } →
    front [] ≡ Complete response (drop n old.rest) → Steps front old new step
done_steps front old new n response step s e h =
    subst (λ (x : Step). Steps front old new x) (sym s) (subst (λ (o : HeldResponse). Steps front old o (Done response)) (sym e)
    (drop n old.rest, h, record { to_head = refl; count = refl; ahead = λ more. refl }))

-- ---- heads

module _ (to_head : Bool) (at : ℕ) (rest : List ℕ) where
  -- a head of that many bytes, and what follows it
  pub head_front : (n : ℕ) (judged : JudgedResponse) → head_len (take 16384 rest) ≡ Some n → judged ≡ judge_response to_head (take n rest) → (more : List ℕ) →
      response_front to_head at (rest ++ more) ≡ behind_head (λ p b. response_front to_head p b) judged at (at + n) (drop n rest ++ more)
  head_front n judged h j more =
      let w = window_head rest more n h in
      responses_step to_head at (rest ++ more)
      ∙ ap (λ (o : Option ℕ). at_head (λ p b. response_front to_head p b) to_head at o (rest ++ more)) w.0
      ∙ (λ i. behind_head (λ p b. response_front to_head p b) ((ap (judge_response to_head) (take-append-le n rest more w.1) ∙ sym j) i) at (at + n) (drop-append-le n rest more w.1 i))

  head_unfound : head_len (take 16384 rest) ≡ None → response_front to_head at (rest ++ []) ≡ cond (nat_lt (length rest) 16384) (Incomplete at) (Broken at)
  head_unfound h =
      ap (response_front to_head at) (append-nil rest) ∙ responses_step to_head at rest ∙ ap (λ (o : Option ℕ). at_head (λ p b. response_front to_head p b) to_head at o rest) h

  pub head_short : head_len (take 16384 rest) ≡ None → length rest < 16384 → response_front to_head at (rest ++ []) ≡ Incomplete at
  head_short h l = head_unfound h ∙ ap (λ (t : Bool). cond t (Incomplete at) (Broken at)) (lt-ltb (length rest) 16384 l)

  pub head_long : head_len (take 16384 rest) ≡ None → 16384 ≤ length rest → (more : List ℕ) → response_front to_head at (rest ++ more) ≡ Broken at
  head_long h l more = broken_more to_head at rest more at (ap (response_front to_head at) (sym (append-nil rest)) ∙ head_unfound h ∙ ap (λ (t : Bool). cond t (Incomplete at) (Broken at)) (le-ltb (length rest) 16384 l))

-- the head that a search found
pub head_found : (first : List ℕ) (from end : ℕ) → GoesOn first 0 from → end_from from first ≡ Some end → head_len first ≡ Some end
head_found first from end g f = searched first from g ∙ f

pub head_missing : (first : List ℕ) (from to : ℕ) → GoesOn first 0 from → FindsEnd first from (Missing to) → (head_len first ≡ None) × GoesOn first 0 to
head_missing first from to g f = (searched first from g ∙ f.0, goes_far first from to g f.1)

-- ---- trailers

module _ (response : Response) (at : ℕ) (rest : List ℕ) where
  pub trailers_found : (n : ℕ) → trailers_len (take 16384 rest) ≡ Some n → trailers response at (rest ++ []) ≡ Complete response (drop n rest)
  trailers_found n h = ap (trailers response at) (append-nil rest) ∙ ap (λ (o : Option ℕ). after_trailers response at o rest) h

  trailers_unfound : trailers_len (take 16384 rest) ≡ None → trailers response at rest ≡ cond (nat_lt (length rest) 16384) (Incomplete at) (Broken at)
  trailers_unfound h = ap (λ (o : Option ℕ). after_trailers response at o rest) h

  pub trailers_short : trailers_len (take 16384 rest) ≡ None → length rest < 16384 → trailers response at (rest ++ []) ≡ Incomplete at
  trailers_short h l = ap (trailers response at) (append-nil rest) ∙ trailers_unfound h ∙ ap (λ (t : Bool). cond t (Incomplete at) (Broken at)) (lt-ltb (length rest) 16384 l)

  pub trailers_long : trailers_len (take 16384 rest) ≡ None → 16384 ≤ length rest → (more : List ℕ) → trailers response at (rest ++ more) ≡ Broken at
  trailers_long h l more =
      let now : trailers response at rest ≡ Broken at = trailers_unfound h ∙ ap (λ (t : Bool). cond t (Incomplete at) (Broken at)) (le-ltb (length rest) 16384 l) in
      subst (λ (f : ResponseFront). LaterResponse more f (trailers response at (rest ++ more))) now (trailers_more response at rest more)

  pub trailers_within : (n : ℕ) → trailers_len (take 16384 rest) ≡ Some n → n ≤ length rest
  trailers_within n h =
      let a : n ≤ length (take 16384 rest) = (trailers_len_within (take 16384 rest) n h).1 in
      let b : length (take 16384 rest) ≡ min 16384 (length rest) = length-take 16384 rest in
      omega arith

-- ---- chunk lines

module _ (response : Response) (at place : ℕ) (rest : List ℕ) where
  -- a line of that many bytes, and what follows it
  pub line_front : (n : ℕ) → chunk_line (take 16384 rest) ≡ Line n → (more : List ℕ) →
      chunks response at place (rest ++ more) ≡ behind_line (λ r p b. chunks r at p b) response at place (place + n) (size_of rest) (drop n rest ++ more)
  line_front n h more =
      let w = window_line rest more n h in
      chunks_step response at place (rest ++ more)
      ∙ ap (λ (f : LineFront). at_line (λ r p b. chunks r at p b) response at place f (rest ++ more)) w.0
      ∙ (λ i. behind_line (λ r p b. chunks r at p b) response at place (place + n) (w.1 i) (drop-append-le n rest more w.2 i))

  line_is : (line : LineFront) → chunk_line (take 16384 rest) ≡ line → chunks response at place rest ≡ at_line (λ r p b. chunks r at p b) response at place line rest
  line_is line h = chunks_step response at place rest ∙ ap (λ (f : LineFront). at_line (λ r p b. chunks r at p b) response at place f rest) h

  broken_stays : chunks response at place rest ≡ Broken place → (more : List ℕ) → chunks response at place (rest ++ more) ≡ Broken place
  broken_stays now more = subst (λ (f : ResponseFront). LaterResponse more f (chunks response at place (rest ++ more))) now (chunks_more more response at place rest)

  pub line_short : chunk_line (take 16384 rest) ≡ Unsure → length rest < 16384 → chunks response at place (rest ++ []) ≡ Incomplete at
  line_short h l = ap (chunks response at place) (append-nil rest) ∙ line_is Unsure h ∙ ap (λ (t : Bool). cond t (Incomplete at) (Broken place)) (lt-ltb (length rest) 16384 l)

  pub line_long : chunk_line (take 16384 rest) ≡ Unsure → 16384 ≤ length rest → (more : List ℕ) → chunks response at place (rest ++ more) ≡ Broken place
  line_long h l = broken_stays (line_is Unsure h ∙ ap (λ (t : Bool). cond t (Incomplete at) (Broken place)) (le-ltb (length rest) 16384 l))

  pub line_refused : chunk_line (take 16384 rest) ≡ NoLine → (more : List ℕ) → chunks response at place (rest ++ more) ≡ Broken place
  line_refused h = broken_stays (line_is NoLine h)

-- ---- bytes of a body

short_body : (n left : ℕ) → n ≡ min left n → (n ≡ left → ⊥) → n < left
short_body n left m ne = omega arith

-- what came is in the body, and less is missing
module _ (response : Response) (rest : List ℕ) (left : ℕ) (less : length rest < left) where
  rest_counts : (more : List ℕ) → nat_lt (length (rest ++ more)) left ≡ nat_lt (length more) (left - length rest)
  rest_counts more = elim (cases_lt (length more) (left - length rest)) [
    | inl l ↦ lt-ltb (length (rest ++ more)) left (let e : length (rest ++ more) ≡ length rest + length more = length-append rest more in omega arith) ∙ sym (lt-ltb (length more) (left - length rest) l)
    | inr l ↦ le-ltb (length (rest ++ more)) left (let e : length (rest ++ more) ≡ length rest + length more = length-append rest more in omega arith) ∙ sym (le-ltb (length more) (left - length rest) l)
  ]

  rest_taken : (more : List ℕ) → take left (rest ++ more) ≡ rest ++ take (left - length rest) more
  rest_taken more = take_past rest more left (omega arith)
    where
      take_past : (rest more : List ℕ) (left : ℕ) → length rest ≤ left → take left (rest ++ more) ≡ rest ++ take (left - length rest) more
      take_past [] more left l = ap (λ (n : ℕ). take n more) (omega arith)
      take_past (b ∷ rest) more zero l = absurd (omega arith)
      take_past (b ∷ rest) more (suc left) l = ap (λ (t : List ℕ). b ∷ t) (take_past rest more left (omega arith) ∙ ap (λ (n : ℕ). rest ++ take n more) (omega arith))

  rest_left : (more : List ℕ) → drop left (rest ++ more) ≡ drop (left - length rest) more
  rest_left more = drop_past rest more left (omega arith)
    where
      drop_past : (rest more : List ℕ) (left : ℕ) → length rest ≤ left → drop left (rest ++ more) ≡ drop (left - length rest) more
      drop_past [] more left l = ap (λ (n : ℕ). drop n more) (omega arith)
      drop_past (b ∷ rest) more zero l = absurd (omega arith)
      drop_past (b ∷ rest) more (suc left) l = drop_past rest more left (omega arith) ∙ ap (λ (n : ℕ). drop n more) (omega arith)

  added : (more : List ℕ) → add response (take left (rest ++ more)) ≡ add (add response rest) (take (left - length rest) more)
  added more = ap (add response) (rest_taken more) ∙ ap (λ (b : List ℕ). record response { body = b }) (sym (append_assoc response.body rest (take (left - length rest) more)))

  pub sized_goes : (at : ℕ) (more : List ℕ) → sized_body (add response rest) at (left - length rest) more ≡ sized_body response at left (rest ++ more)
  sized_goes at more = λ i. cond (sym (rest_counts more) i) (Incomplete at) (Complete (sym (added more) i) (sym (rest_left more) i))

  pub data_goes : (next : Response → ℕ → List ℕ → ResponseFront) (at line_at place : ℕ) (more : List ℕ) →
      chunk_data next (add response rest) at line_at (place + length rest) (left - length rest) more ≡ chunk_data next response at line_at place left (rest ++ more)
  data_goes next at line_at place more =
      let sum : place + length rest + (left - length rest) ≡ place + left = omega arith in
      λ i. cond (sym (rest_counts more) i) (Incomplete at) (chunk_end (next (sym (added more) i)) at line_at (sum i) (sym (rest_left more) i))

-- ---- what the first bytes tell

-- a head that a search found in the first bytes
module _ (rest first : List ℕ) (is : first ≡ take 16384 rest) (from : ℕ) (g : GoesOn (take 16384 rest) 0 from) where
  here : GoesOn first 0 from
  here = subst (λ (w : List ℕ). GoesOn w 0 from) (sym is) g

  pub first_head : (end : ℕ) → end_from from first ≡ Some end → head_len (take 16384 rest) ≡ Some end
  first_head end f = ap head_len (sym is) ∙ head_found first from end here f

  pub first_within : (end : ℕ) → end_from from first ≡ Some end → end ≤ length first
  first_within end f = (head_len_within first end (head_found first from end here f)).1

  pub first_text : (end : ℕ) → end_from from first ≡ Some end → (head_len (take end first) ≡ Some (length (take end first))) × (length (take end first) ≤ 16384) × (take end first ≡ take end rest)
  first_text end f =
      let le : end ≤ length first = first_within end f in
      let size : length (take end first) ≡ min end (length first) = length-take end first in
      let all : length first ≡ min 16384 (length rest) = ap length is ∙ length-take 16384 rest in
      let same : end ≡ length (take end first) = omega arith in
      let window : length first ≡ length (take 16384 rest) = ap length is in
      let text : take end first ≡ take end rest = ap (take end) is ∙ sym (take-append-le end (take 16384 rest) (drop 16384 rest) (omega arith)) ∙ ap (take end) (take-append-drop 16384 rest) in
      (head_len_take first end (head_found first from end here f) ∙ ap Some same, omega arith, text)

  pub first_missing : (to : ℕ) → FindsEnd first from (Missing to) → head_len (take 16384 rest) ≡ None
  first_missing to f = ap head_len (sym is) ∙ (head_missing first from to here f).0

-- a chunk line in the first bytes
module _ (rest first : List ℕ) (is : first ≡ take 16384 rest) (count : ℕ) (h : chunk_line first ≡ Line count) where
  pub first_line : chunk_line (take 16384 rest) ≡ Line count
  first_line = ap chunk_line (sym is) ∙ h

  pub first_line_text : (text : List ℕ) → text ≡ take count first → (chunk_line text ≡ Line (length text)) × (size_of text ≡ size_of rest)
  first_line_text text t =
      let line = line_text first count h in
      let all : first ++ drop 16384 rest ≡ rest = ap (λ (w : List ℕ). w ++ drop 16384 rest) is ∙ take-append-drop 16384 rest in (
        subst (λ (x : List ℕ). chunk_line x ≡ Line (length x)) (sym t) line.0,
        ap size_of t ∙ line.1 ∙ sym (size_stays first count h (drop 16384 rest)) ∙ ap size_of all,
      )

-- ---- behind a chunk

module _ (next : ℕ → List ℕ → ResponseFront) (at line_at place : ℕ) where
  pub crlf_found : (rest : List ℕ) → has_crlf rest ≡ Some true → (more : List ℕ) → next (place + 2) (drop 2 rest ++ more) ≡ chunk_end next at line_at place (rest ++ more)
  crlf_found [] h more = cc
  crlf_found (b ∷ []) h more = elim (chosen (b == 13) None (Some false) (Some true) h) [ inl t ↦ cc (t.1) | inr t ↦ cc (t.1) ]
  crlf_found (b ∷ c ∷ rest) h more =
      let is : (b == 13 && c == 10) ≡ true = cc in
      sym (ap (λ (t : Bool). cond t (next (place + 2) (rest ++ more)) (Broken line_at)) is)

  pub crlf_missing : (rest : List ℕ) → has_crlf rest ≡ Some false → (more : List ℕ) → chunk_end next at line_at place (rest ++ more) ≡ Broken line_at
  crlf_missing [] h more = cc
  crlf_missing (b ∷ []) h more = elim (chosen (b == 13) None (Some false) (Some false) h) [ inl t ↦ cc (t.1) | inr t ↦ one t.0 more ]
    where
      one : (b == 13) ≡ false → (more : List ℕ) → chunk_end next at line_at place (b ∷ more) ≡ Broken line_at
      one e [] = ap (λ (t : Bool). cond t (Incomplete at) (Broken line_at)) e
      one e (c ∷ more) = ap (λ (t : Bool). cond (t && c == 10) (next (place + 2) more) (Broken line_at)) e
  crlf_missing (b ∷ c ∷ rest) h more =
      let is : (b == 13 && c == 10) ≡ false = cc in
      ap (λ (t : Bool). cond t (next (place + 2) (rest ++ more)) (Broken line_at)) is

  pub crlf_open : (rest : List ℕ) → has_crlf rest ≡ None → chunk_end next at line_at place (rest ++ []) ≡ Incomplete at
  crlf_open [] h = refl
  crlf_open (b ∷ []) h = elim (chosen (b == 13) None (Some false) None h) [ inl t ↦ ap (λ (x : Bool). cond x (Incomplete at) (Broken line_at)) t.0 | inr t ↦ cc (t.1) ]
  crlf_open (b ∷ c ∷ rest) h = cc

pub crlf_two : (rest : List ℕ) → has_crlf rest ≡ Some true → 2 ≤ length rest
crlf_two [] h = cc
crlf_two (b ∷ []) h = elim (chosen (b == 13) None (Some false) (Some true) h) [ inl t ↦ cc (t.1) | inr t ↦ cc (t.1) ]
crlf_two (b ∷ c ∷ rest) h = omega arith

-- ---- more bytes came

module _ (to_head : Bool) (count : ℕ) (rest : List ℕ) (stage : Stage) (piece : List ℕ) (fits : length rest ≤ count) where
  pub push_ahead : (after : List ℕ) → after ≡ rest ++ piece → (more : List ℕ) →
      ahead (record { to_head = to_head; count = count + length piece; rest = after; stage = stage }) more ≡ ahead (record { to_head = to_head; count = count; rest = rest; stage = stage }) (piece ++ more)
  push_ahead after is more =
      let size : length after ≡ length rest + length piece = ap length is ∙ length-append rest piece in
      let place : count + length piece - length after ≡ count - length rest = omega arith in
      λ i. stage_front to_head stage (place i) ((ap (λ (b : List ℕ). b ++ more) is ∙ append_assoc rest piece more) i)

-- ---- a body of which bytes are missing

-- the bytes that came are in the body, and it waits
pub body_waits : (front : List ℕ → ResponseFront) (old mid new : HeldResponse) (n : ℕ) (next : Stage) (step : Step) → step ≡ Wait → mid ≡ record old { rest = drop n old.rest; stage = Head 0 } → new ≡ record mid { stage = next } →
    length old.rest ≤ old.count → n ≡ length old.rest → is_over_stage next ≡ false → ((more : List ℕ) → stage_front old.to_head next (place_of old + length old.rest) more ≡ front more) →
    stage_front old.to_head next (place_of old + length old.rest) [] ≡ stage_waits next (place_of old + length old.rest) → Steps front old new step
body_waits front old mid new n next step s m e fits all goes same waits =
    let none : drop n old.rest ≡ [] = drop_of_length-le old.rest (omega arith) in
    let place : old.count - 0 ≡ old.count - length old.rest + length old.rest = omega arith in
    let new_is : new ≡ record old { rest = []; stage = next } = e ∙ ap (λ (h : HeldResponse). record h { stage = next }) m ∙ ap (λ (r : List ℕ). record old { rest = r; stage = next }) none in
    subst (λ (x : Step). Steps front old new x) (sym s) (subst (λ (o : HeldResponse). Steps front old o Wait) (sym new_is) (
      (ap (λ (p : ℕ). stage_front old.to_head next p []) place ∙ waits ∙ ap (stage_waits next) (sym place), goes),
      record { to_head = refl; count = refl; ahead = λ more. ap (λ (p : ℕ). stage_front old.to_head next p more) place ∙ same more },
    ))

-- how many bytes were moved
pub moved_all : (n left size : ℕ) → n ≡ min left size → (n ≡ left → ⊥) → (n ≡ size) × (size < left)
moved_all n left size is ne = (omega arith, omega arith)

-- all bytes of a body came
pub sized_whole : (response : Response) (at left n : ℕ) (rest : List ℕ) → n ≡ left → n ≡ min left (length rest) → sized_body response at left (rest ++ []) ≡ Complete (add response (take n rest)) (drop n rest)
sized_whole response at left n rest is m =
    let le : left ≤ length rest = omega arith in
    ap (sized_body response at left) (append-nil rest)
    ∙ ap (λ (t : Bool). cond t (Incomplete at) (Complete (add response (take left rest)) (drop left rest))) (le-ltb (length rest) left le)
    ∙ ap (λ (k : ℕ). Complete (add response (take k rest)) (drop k rest)) (sym is)

-- the bytes that came are in the body
module _ (response : Response) (at left n : ℕ) (rest body : List ℕ) (all : n ≡ length rest) (less : length rest < left) (is : body ≡ response.body ++ take n rest) where
  body_is : ◌≡◌ {A = Response} (record response { body = body }) (add response rest)
  body_is = ap (λ (b : List ℕ). record response { body = b }) (is ∙ ap (λ (b : List ℕ). response.body ++ b) (take_all n rest (omega arith)))

  some_left : nat_lt 0 (left - n) ≡ true
  some_left = lt-ltb 0 (left - n) (omega arith)

  pub known_goes : (more : List ℕ) → sized_body (record response { body = body }) at (left - n) more ≡ sized_body response at left (rest ++ more)
  known_goes more = (λ i. sized_body (body_is i) at (left - all i) more) ∙ sized_goes response rest left less at more

  pub known_waits : sized_body (record response { body = body }) at (left - n) [] ≡ Incomplete at
  known_waits = ap (λ (t : Bool). cond t (Incomplete at) (Complete (add (record response { body = body }) (take (left - n) [])) (drop (left - n) []))) some_left

  pub chunk_goes : (next : Response → ℕ → List ℕ → ResponseFront) (line_at place : ℕ) (more : List ℕ) →
      chunk_data next (record response { body = body }) at line_at (place + length rest) (left - n) more ≡ chunk_data next response at line_at place left (rest ++ more)
  chunk_goes next line_at place more = (λ i. chunk_data next (body_is i) at line_at (place + length rest) (left - all i) more) ∙ data_goes response rest left less next at line_at place more

  pub chunk_waits : (next : Response → ℕ → List ℕ → ResponseFront) (line_at place : ℕ) → chunk_data next (record response { body = body }) at line_at place (left - n) [] ≡ Incomplete at
  chunk_waits next line_at place =
      ap (λ (t : Bool). cond t (Incomplete at) (chunk_end (next (add (record response { body = body }) (take (left - n) []))) at line_at (place + (left - n)) (drop (left - n) []))) some_left
