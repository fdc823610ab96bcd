-- What a feed knows of its bytes.
use Rattle.std.proofs.Common.{◌≡◌, [], ◌++◌, ◌<◌, ◌≤◌, ◌+◌, ◌-◌, ℕ, List, length, take, drop, Option, Some, None, Bool, true, false, cond, sym, refl, ap, ◌∙◌, subst, append_assoc, length-append, length-drop, zero-add, min, arith}
use Rattle.std.specs.Prelude.{nat_lt, slice_range, ◌&&◌, not}
use Rattle.std.proofs.lemmas.Bool.{lt-ltb, le-ltb}
use Rattle.std.proofs.lemmas.List.{take-append-drop, length-take, drop-drop}
use Rattle.http_wire.specs.declared.request_head.SoundHead.{SoundHead}
use Rattle.http_wire.specs.declared.request_head.Judged.{Judged}
use Rattle.http_wire.specs.declared.request_head.Judged.TheVariants.{Sound, Faulty}
use Rattle.http_wire.specs.declared.search.Place.{Place}
use Rattle.http_wire.specs.declared.search.Place.TheVariants.{Blank}
use Rattle.http_wire.specs.declared.phase.Phase.{Phase}
use Rattle.http_wire.specs.declared.phase.Phase.TheVariants.{Searching, Body, Stopped}
use Rattle.http_wire.specs.HeadPlace.{head_place, place_after, blank_len}
use Rattle.http_wire.specs.RequestChecks.{judge}
use Rattle.http_wire.specs.Requests.{Front, Unfinished, Whole, Wrong, front, front_at, front_behind, with_body, is_due}
use Rattle.http_wire.specs.declared.request.Request.{Request}
use Rattle.http_wire.specs.declared.request.Next.TheVariants.{Message, Continue, NeedMore}
use Rattle.http_wire.specs.RequestFeed.{Held, Gives}
use Rattle.http_wire.specs.Search.{Tracks, place_from, StandsAt}
use Rattle.http_wire.specs.RequestPhase.{IsPhase, IsSettled}
use Rattle.http_wire.proofs.HeadPlaceLemmas.{place_is, head_place_more, no_blank_place}
use Rattle.http_wire.proofs.RequestLaws.{window, take_split, in_window, slice_more, wrong_more}

pub stands_at : (bytes : List ℕ) (start end : ℕ) → head_place bytes ≡ Some (start, end) → StandsAt bytes start end
stands_at bytes start end h =
    let p = place_is bytes (start, end) h in
    record { place = h; ordered = omega (arith, p.ordered); in_range = p.in_range; no_blank = no_blank_place bytes (start, end) h }

-- nothing came
pub tracks_none : Tracks [] (Blank 0)
unfolding head_place
tracks_none = record { within = omega arith; goes_on = λ more. ap (λ (k : ℕ). place_after k more) (sym (zero-add (blank_len more))) }

-- more came
tracks_more : (bytes more : List ℕ) (place : Place) → Tracks bytes place → Tracks (bytes ++ more) place
tracks_more bytes more place t = record {
  within = let size : length (bytes ++ more) ≡ length bytes + length more = length-append bytes more in omega (arith, t.within);
  goes_on = λ others. subst (λ (s : List ℕ). head_place s ≡ place_from place s) (sym (append_assoc bytes more others)) (t.goes_on (more ++ others));
}

pub phase_more : (phase : Phase) (bytes more : List ℕ) → IsPhase bytes phase → IsPhase (bytes ++ more) phase
phase_more (Searching place) bytes more p =
    let split = take_split 16384 bytes more in
    subst (λ (w : List ℕ). Tracks w place) (sym split.1) (tracks_more (window bytes) split.0 place p)
phase_more (Body head start end) bytes more p =
    let split = take_split 16384 bytes more in
    let is = place_is (window bytes) (start, end) p.0 in
    let within : end ≤ length bytes = in_window bytes (start, end) is in
    let ordered : start ≤ end = omega (arith, is.ordered) in
    (ap head_place split.1 ∙ head_place_more (window bytes) split.0 (start, end) p.0, ap judge (slice_more bytes more start end ordered within) ∙ p.1)
phase_more (Stopped status) bytes more p = wrong_more bytes more status p

-- ---- what stands at the front

pub slice_window : (bytes : List ℕ) (start end : ℕ) → start ≤ end → end ≤ length (window bytes) → slice_range (window bytes) start end ≡ slice_range bytes start end
slice_window bytes start end o l = sym (slice_more (window bytes) (drop 16384 bytes) start end o l) ∙ ap (λ (s : List ℕ). slice_range s start end) (take-append-drop 16384 bytes)

pub front_placed : (bytes : List ℕ) (start end : ℕ) (judged : Judged) → head_place (window bytes) ≡ Some (start, end) → judge (slice_range bytes start end) ≡ judged → front bytes ≡ front_behind judged (drop end bytes)
unfolding front
front_placed bytes start end judged h j = ap (λ (o : Option (ℕ × ℕ)). front_at o bytes) h ∙ ap (λ (x : Judged). front_behind x (drop end bytes)) j

pub front_short : (bytes : List ℕ) → head_place (window bytes) ≡ None → length bytes < 16384 → front bytes ≡ Unfinished false
unfolding front
front_short bytes h l = ap (λ (o : Option (ℕ × ℕ)). front_at o bytes) h ∙ ap (λ (t : Bool). cond t (Unfinished false) (Wrong 431)) (lt-ltb (length bytes) 16384 l)

pub front_long : (bytes : List ℕ) → head_place (window bytes) ≡ None → 16384 ≤ length bytes → front bytes ≡ Wrong 431
unfolding front
front_long bytes h l = ap (λ (o : Option (ℕ × ℕ)). front_at o bytes) h ∙ ap (λ (t : Bool). cond t (Unfinished false) (Wrong 431)) (le-ltb (length bytes) 16384 l)

-- ---- behind a head without fault

unfoldable cond_behind : Bool → SoundHead → List ℕ → Front
cond_behind t head rest = cond t (Unfinished head.expects) (Whole head.expects (with_body head.request (take head.body_len rest)) (drop head.body_len rest))

due_if : (t : Bool) (head : SoundHead) (rest : List ℕ) → is_due (cond_behind t head rest) ≡ head.expects
unfolding cond_behind
due_if true head rest = refl
due_if false head rest = refl

module _ (bytes : List ℕ) (head : SoundHead) (start end : ℕ) (body : IsSettled bytes (Body head start end)) where
  front_is : front bytes ≡ cond_behind (nat_lt (length (drop end bytes)) head.body_len) head (drop end bytes)
  unfolding cond_behind
  front_is = front_placed bytes start end (Sound head) body.0 body.1

  pub body_due : is_due (front bytes) ≡ head.expects
  body_due = ap is_due front_is ∙ due_if (nat_lt (length (drop end bytes)) head.body_len) head (drop end bytes)

  pub body_short : length (drop end bytes) < head.body_len → front bytes ≡ Unfinished head.expects
  unfolding cond_behind
  body_short l = front_is ∙ ap (λ (t : Bool). cond_behind t head (drop end bytes)) (lt-ltb (length (drop end bytes)) head.body_len l)

  pub body_whole : head.body_len ≤ length (drop end bytes) → front bytes ≡ Whole head.expects (with_body head.request (take head.body_len (drop end bytes))) (drop head.body_len (drop end bytes))
  unfolding cond_behind
  body_whole l = front_is ∙ ap (λ (t : Bool). cond_behind t head (drop end bytes)) (le-ltb (length (drop end bytes)) head.body_len l)

  pub body_within : end ≤ length bytes
  body_within = in_window bytes (start, end) (place_is (window bytes) (start, end) body.0)

  -- what is taken with a whole body, and what follows it
  pub body_taken : (text rest : List ℕ) (count : ℕ) → text ≡ take head.body_len (drop end bytes) → count ≡ end + length text → rest ≡ drop count bytes → head.body_len ≤ length (drop end bytes) →
      (front bytes ≡ Whole head.expects (with_body head.request text) rest) × (count ≡ length bytes - length rest) × (length rest + count ≡ length bytes)
  body_taken text rest count is sum after l =
      let size : length text ≡ min head.body_len (length (drop end bytes)) = ap length is ∙ length-take head.body_len (drop end bytes) in
      let room : length (drop end bytes) ≡ length bytes - end = length-drop end bytes in
      let left : length rest ≡ length bytes - count = ap length after ∙ length-drop count bytes in
      let within : end ≤ length bytes = body_within in
      let all : end + head.body_len ≡ count = omega arith in
      let behind : drop head.body_len (drop end bytes) ≡ rest = drop-drop head.body_len end bytes ∙ ap (λ (k : ℕ). drop k bytes) all ∙ sym after in
      (body_whole l ∙ (λ i. Whole head.expects (with_body head.request (sym is i)) (behind i)), omega arith, omega arith)

pub tracks_start : (bytes : List ℕ) → Tracks bytes (Blank 0)
unfolding head_place
tracks_start bytes = record { within = omega arith; goes_on = λ more. ap (λ (k : ℕ). place_after k (bytes ++ more)) (sym (zero-add (blank_len (bytes ++ more)))) }

-- ---- what a feed gives

owed : (e t : Bool) → (e && not t) ≡ false → e ≡ true → t ≡ true
owed true true h k = refl
owed true false h k = cc
owed false t h k = cc

-- a feed that holds these bytes, and didn't stop
module _ (bytes : List ℕ) (at : ℕ) (told was : Bool) (old : Held) (view : ◌≡◌ {A = Held} (record { rest = bytes; at = at; told = told; stopped = was }) old) (goes : old.stopped ≡ false) where
  pub body_here : (head : SoundHead) (start end : ℕ) → IsPhase old.rest (Body head start end) → IsPhase bytes (Body head start end)
  body_here head start end body = subst (λ (rest : List ℕ). IsPhase rest (Body head start end)) (sym (ap (λ (h : Held). h.rest) view)) body

  free : was ≡ false
  free = ap (λ (h : Held). h.stopped) view ∙ goes

  pub gives_nothing : ◌≡◌ {A = Held} (record { rest = bytes; at = at; told = told; stopped = false }) old
  gives_nothing = (λ i. record { rest = bytes; at = at; told = told; stopped = sym free i }) ∙ view

  pub gives_continue : is_due (front bytes) ≡ true → told ≡ false → Gives old (record { rest = bytes; at = at; told = true; stopped = false }) Continue
  gives_continue due not_yet = subst (λ (o : Held). Gives o (record { rest = bytes; at = at; told = true; stopped = false }) Continue) view
      (due, not_yet, λ i. record { rest = bytes; at = at; told = true; stopped = sym free i })

  pub gives_need : (expects : Bool) → front bytes ≡ Unfinished expects → (expects && not told) ≡ false → Gives old (record { rest = bytes; at = at; told = told; stopped = false }) NeedMore
  gives_need expects is none = subst (λ (o : Held). Gives o (record { rest = bytes; at = at; told = told; stopped = false }) NeedMore) view
      (expects, is, owed expects told none, λ i. record { rest = bytes; at = at; told = told; stopped = sym free i })

  pub gives_message : (expects : Bool) (request : Request) (rest : List ℕ) (count : ℕ) → front bytes ≡ Whole expects request rest → (expects && not told) ≡ false → count ≡ length bytes - length rest →
      Gives old (record { rest = rest; at = at + count; told = false; stopped = false }) (Message request)
  gives_message expects request rest count is none e = subst (λ (o : Held). Gives o (record { rest = rest; at = at + count; told = false; stopped = false }) (Message request)) view
      (expects, rest, is, owed expects told none, λ i. record { rest = rest; at = at + e i; told = false; stopped = false })

-- ---- after a look at the first bytes w

module _ (bytes w : List ℕ) (e : w ≡ take 16384 bytes) where
  judged_at : (start end : ℕ) (judged given : Judged) → StandsAt w start end → judged ≡ judge (slice_range w start end) → judged ≡ given →
      (head_place (take 16384 bytes) ≡ Some (start, end)) × (judge (slice_range bytes start end) ≡ given)
  judged_at start end judged given s j is =
      let t : StandsAt (take 16384 bytes) start end = subst (λ (x : List ℕ). StandsAt x start end) e s in
      (t.place, ap judge (sym (slice_window bytes start end t.ordered t.in_range)) ∙ sym (j ∙ ap (λ (x : List ℕ). judge (slice_range x start end)) e) ∙ is)

  pub settled_sound : (start end : ℕ) (head : SoundHead) (judged : Judged) → StandsAt w start end → judged ≡ judge (slice_range w start end) → judged ≡ Sound head → IsSettled bytes (Body head start end)
  settled_sound start end head judged s j is = judged_at start end judged (Sound head) s j is

  pub settled_faulty : (start end status : ℕ) (judged : Judged) → StandsAt w start end → judged ≡ judge (slice_range w start end) → judged ≡ Faulty status → front bytes ≡ Wrong status
  settled_faulty start end status judged s j is =
      let at = judged_at start end judged (Faulty status) s j is in front_placed bytes start end (Faulty status) at.0 at.1

  pub settled_short : (place : Place) → (head_place w ≡ None) × Tracks w place → length bytes < 16384 → IsSettled bytes (Searching place)
  settled_short place m l =
      (subst (λ (x : List ℕ). Tracks x place) e m.1, front_short bytes (ap head_place (sym e) ∙ m.0) l)

  pub settled_long : (place : Place) → (head_place w ≡ None) × Tracks w place → 16384 ≤ length bytes → front bytes ≡ Wrong 431
  settled_long place m l = front_long bytes (ap head_place (sym e) ∙ m.0) l

take_le : (n : ℕ) (l : List ℕ) → length (take n l) ≤ n
take_le n l = let e : length (take n l) ≡ min n (length l) = length-take n l in omega arith

take_le_all : (n : ℕ) (l : List ℕ) → length (take n l) ≤ length l
take_le_all n l = let e : length (take n l) ≡ min n (length l) = length-take n l in omega arith

pub slice_short : (bytes w : List ℕ) → w ≡ take 16384 bytes → (start end : ℕ) → length (slice_range w start end) ≤ 16384
slice_short bytes w e start end =
    let a : length (take 16384 bytes) ≤ 16384 = take_le 16384 bytes in
    let b : length w ≡ length (take 16384 bytes) = ap length e in
    let c : length (drop start w) ≡ length w - start = length-drop start w in
    let d : length (take (end - start) (drop start w)) ≤ length (drop start w) = take_le_all (end - start) (drop start w) in
    omega arith
