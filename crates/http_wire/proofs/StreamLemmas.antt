-- What a feed gives over a whole stream.
use Rattle.std.proofs.Common.{◌≡◌, ◌∷◌, [], ◌++◌, ◌<◌, ◌≤◌, ◌+◌, ◌-◌, ◌*◌, ◌^◌, ℕ, List, length, take, drop, get_or, Bool, true, false, cond, sym, refl, ap, ◌∙◌, subst, append_assoc, length-append, arith}
use Rattle.std.specs.List.{concat}
use Rattle.std.proofs.lemmas.List.{take_more, append-nil}
use Rattle.std.proofs.lemmas.List.Folds.{concat-append}
use Rattle.std.proofs.lemmas.List.{take-append-drop}
use Rattle.http_wire.specs.declared.request.Request.{Request}
use Rattle.http_wire.specs.declared.request.Next.TheVariants.{Message}
use Rattle.http_wire.specs.RequestFeed.{Held, Gives, pushed}
use Rattle.http_wire.specs.HeadPlace.{head_place}
use Rattle.http_wire.specs.Requests.{Front, Unfinished, Wrong, IsWhole, front, Cuts}
use Rattle.http_wire.specs.declared.response.NextResponse.{NextResponse}
use Rattle.http_wire.specs.declared.response.NextResponse.TheVariants as next
use Rattle.http_wire.specs.Responses.{response_front}
use Rattle.http_wire.specs.ResponseFeed.{HeldResponse, Holds, ahead, Stays, GivesResponse, EndsResponse, at_end}
use Rattle.http_wire.proofs.ResponseLaws.{complete_more, broken_more}
use Rattle.http_wire.specs.Streams.{EndsIn, IsAllOf, Stands, Takes, Took}
use Rattle.http_wire.proofs.RequestLaws.{Cuts_push, Cuts_more, whole_takes, wrong_more}

Cuts_trans : (xs ys : List Request) (a b c : List ℕ) → Cuts a xs b → Cuts b ys c → Cuts a (xs ++ ys) c
Cuts_trans [] ys a b c e h = subst (λ (l : List ℕ). Cuts l ys c) (sym e) h
Cuts_trans (x ∷ xs) ys a b c e h = (e.0, e.1, e.2, Cuts_trans xs ys e.1 b c e.3 h)

message_size : (mid new : Held) (request : Request) → Gives mid new (Message request) → (length new.rest < length mid.rest) × (new.at + length new.rest ≡ mid.at + length mid.rest) × (new.told ≡ false)
message_size mid new request g =
    let less : length g.1 < length mid.rest = whole_takes mid.rest g.0 request g.1 g.2 in
    let rest : length new.rest ≡ length g.1 = ap (λ (h : Held). length h.rest) g.4 in
    let at : new.at ≡ mid.at + (length mid.rest - length g.1) = ap (λ (h : Held). h.at) g.4 in
    (omega arith, omega arith, ap (λ (h : Held). h.told) g.4)

pub took_message : (old mid new : Held) (before after later : List Request) (request : Request) → Took old mid before after → Gives mid new (Message request) → later ≡ after ++ request ∷ [] → Took old new before later
took_message old mid new before after later request t g is = record {
  more = t.more ++ request ∷ [];
  items = is ∙ ap (λ (l : List Request). l ++ request ∷ []) t.items ∙ append_assoc before t.more (request ∷ []);
  cuts = subst (λ (l : List ℕ). Cuts old.rest (t.more ++ request ∷ []) l) (sym (ap (λ (h : Held). h.rest) g.4)) (Cuts_push t.more old.rest mid.rest g.1 g.0 request t.cuts g.2);
  count = (message_size mid new request g).1 ∙ t.count;
  goes = ap (λ (h : Held). h.stopped) g.4;
}

told_le : (told : Bool) → cond told 0 1 ≤ 1
told_le true = omega arith
told_le false = omega arith

pub message_smaller : (mid new : Held) (request : Request) → Gives mid new (Message request) → 2 * length new.rest + cond new.told 0 1 < 2 * length mid.rest + cond mid.told 0 1
message_smaller mid new request g =
    let size = message_size mid new request g in
    let less : length new.rest < length mid.rest = size.0 in
    let one : cond new.told 0 1 ≤ 1 = told_le new.told in
    omega arith

-- ---- a stream in pieces

pub front_none : front [] ≡ Unfinished false
unfolding front head_place
front_none = refl

none_whole : (f : Front) (due : Bool) → f ≡ Unfinished due → IsWhole f → ⊥
none_whole f due e h = let P : Front → Type 0 = IsWhole in subst P e h

none_wrong : (f : Front) (status : ℕ) → f ≡ Wrong status → IsWhole f → ⊥
none_wrong f status e h = let P : Front → Type 0 = IsWhole in subst P e h

-- what holds between pieces
pub record Between (bytes : List ℕ) (requests : List Request) (held : Held) : Type 0 where
  pub cuts : Cuts bytes requests held.rest
  pub count : held.at + length held.rest ≡ length bytes
  pub goes : held.stopped ≡ false
  pub none : IsWhole (front held.rest) → ⊥

pub between_none : (held : Held) (requests : List Request) → held ≡ record { rest = []; at = 0; told = false; stopped = false } → requests ≡ [] → Between [] requests held
between_none held requests e f =
    let start : Held = record { rest = []; at = 0; told = false; stopped = false } in
    let now : Between [] [] start = record { cuts = refl; count = omega arith; goes = refl; none = none_whole (front []) false front_none } in
    subst (λ (h : Held). Between [] requests h) (sym e) (subst (λ (r : List Request). Between [] r start) (sym f) now)

push_is : (held : Held) (piece : List ℕ) → held.stopped ≡ false → (pushed held piece).rest ≡ held.rest ++ piece
push_is held piece e = ap (λ (t : Bool). (cond t held (record held { rest = held.rest ++ piece })).rest) e

push_at : (held : Held) (piece : List ℕ) → (pushed held piece).at ≡ held.at
push_at held piece = by held.stopped
  where
    by : (t : Bool) → (cond t held (record held { rest = held.rest ++ piece })).at ≡ held.at
    by true = refl
    by false = refl

module _ (pieces : List (List ℕ)) (i : ℕ) (piece : List ℕ) (here : i < length pieces) (item : piece ≡ get_or pieces i piece) where
  pub concat_others : concat (take (i + 1) pieces) ++ concat (drop (i + 1) pieces) ≡ concat pieces
  concat_others = sym (concat-append (take (i + 1) pieces) (drop (i + 1) pieces)) ∙ ap concat (take-append-drop (i + 1) pieces)

  pub concat_more : concat (take (i + 1) pieces) ≡ concat (take i pieces) ++ piece
  concat_more = ap concat (take_more pieces i piece here) ∙ concat-append (take i pieces) (get_or pieces i piece ∷ [])
      ∙ ap (λ (l : List ℕ). concat (take i pieces) ++ l) (append-nil (get_or pieces i piece) ∙ sym item)

  pub took_piece : (old mid new : Held) (before after : List Request) (on : Bool) → Between (concat (take i pieces)) before old → mid ≡ pushed old piece → Takes mid new before after on →
      Cuts (concat (take (i + 1) pieces)) after new.rest × (new.at + length new.rest ≡ length (concat (take (i + 1) pieces)))
  took_piece old mid new before after on b e t =
      let rest : mid.rest ≡ old.rest ++ piece = ap (λ (h : Held). h.rest) e ∙ push_is old piece b.goes in
      let at : mid.at ≡ old.at = ap (λ (h : Held). h.at) e ∙ push_at old piece in
      let more : Cuts (concat (take (i + 1) pieces)) before mid.rest =
      subst (λ (l : List ℕ). Cuts l before mid.rest) (sym concat_more) (subst (λ (l : List ℕ). Cuts (concat (take i pieces) ++ piece) before l) (sym rest) (Cuts_more before (concat (take i pieces)) old.rest piece b.cuts)) in
      let all : Cuts (concat (take (i + 1) pieces)) (before ++ t.more) new.rest = Cuts_trans before t.more (concat (take (i + 1) pieces)) mid.rest new.rest more t.cuts in
      let one : length mid.rest ≡ length old.rest + length piece = ap length rest ∙ length-append old.rest piece in
      let two : length (concat (take (i + 1) pieces)) ≡ length (concat (take i pieces)) + length piece = ap length concat_more ∙ length-append (concat (take i pieces)) piece in
      (subst (λ (r : List Request). Cuts (concat (take (i + 1) pieces)) r new.rest) (sym t.items) all, omega (arith, b.count, t.count))

  pub between_more : (old mid new : Held) (before after : List Request) (on : Bool) → Between (concat (take i pieces)) before old → mid ≡ pushed old piece → Takes mid new before after on → on ≡ true →
      Between (concat (take (i + 1) pieces)) after new
  between_more old mid new before after on b e t go =
      let took = took_piece old mid new before after on b e t in
      let s : Stands new true = subst (λ (x : Bool). Stands new x) go t.stands in
      record { cuts = took.0; count = took.1; goes = s.1; none = none_whole (front new.rest) s.0.0 s.0.1 }

  pub all_wrong : (old mid new : Held) (before after : List Request) (on : Bool) → Between (concat (take i pieces)) before old → mid ≡ pushed old piece → Takes mid new before after on → on ≡ false →
      IsAllOf (concat pieces) after
  all_wrong old mid new before after on b e t stop =
      let took = took_piece old mid new before after on b e t in
      let s : Stands new false = subst (λ (x : Bool). Stands new x) stop t.stands in
      let others = concat (drop (i + 1) pieces) in
      let all : concat (take (i + 1) pieces) ++ others ≡ concat pieces = sym (concat-append (take (i + 1) pieces) (drop (i + 1) pieces)) ∙ ap concat (take-append-drop (i + 1) pieces) in
      record {
        rest = new.rest ++ others;
        cuts = subst (λ (l : List ℕ). Cuts l after (new.rest ++ others)) all (Cuts_more after (concat (take (i + 1) pieces)) new.rest others took.0);
        none = none_wrong (front (new.rest ++ others)) s.0 (wrong_more new.rest others s.0 s.1);
      }

  pub push_fits : (old : Held) (before : List Request) → Between (concat (take i pieces)) before old → length (concat pieces) < 2 ^ 63 → old.at + length old.rest + length piece < 2 ^ 63
  push_fits old before b l =
      let all : concat (take (i + 1) pieces) ++ concat (drop (i + 1) pieces) ≡ concat pieces = sym (concat-append (take (i + 1) pieces) (drop (i + 1) pieces)) ∙ ap concat (take-append-drop (i + 1) pieces) in
      let sum : length (concat (take (i + 1) pieces)) + length (concat (drop (i + 1) pieces)) ≡ length (concat pieces) = sym (length-append (concat (take (i + 1) pieces)) (concat (drop (i + 1) pieces))) ∙ ap length all in
      let two : length (concat (take (i + 1) pieces)) ≡ length (concat (take i pieces)) + length piece = ap length concat_more ∙ length-append (concat (take i pieces)) piece in
      omega (arith, b.count)

-- ---- one response

-- more bytes came
pub holds_push : (old new : HeldResponse) (at : ℕ) (bytes piece : List ℕ) → Holds old at bytes → new.to_head ≡ old.to_head → ((more : List ℕ) → ahead new more ≡ ahead old (piece ++ more)) → Holds new at (bytes ++ piece)
holds_push old new at bytes piece h same pushed = λ more.
    pushed more ∙ h (piece ++ more) ∙ (λ i. response_front (sym same i) at (sym (append_assoc bytes piece more) i))

-- nothing came
pub holds_stay : (old new : HeldResponse) (at : ℕ) (bytes : List ℕ) → Holds old at bytes → Stays old new → Holds new at bytes
holds_stay old new at bytes h stays = λ more. stays.ahead more ∙ h more ∙ ap (λ (t : Bool). response_front t at (bytes ++ more)) (sym stays.to_head)

holds_now : (held : HeldResponse) (to_head : Bool) (at : ℕ) (bytes : List ℕ) → Holds held at bytes → held.to_head ≡ to_head → ahead held [] ≡ response_front to_head at bytes
holds_now held to_head at bytes h same = h [] ∙ (λ i. response_front (same i) at (append-nil bytes i))

-- what stands at the front stays there when the stream goes on
pub gives_ends : (old new : HeldResponse) (to_head : Bool) (bytes others : List ℕ) (answer : NextResponse) → Holds old 0 bytes → old.to_head ≡ to_head → GivesResponse old new answer → (answer ≡ next.NeedMore → ⊥) →
    EndsIn (response_front to_head 0 (bytes ++ others)) answer
gives_ends old new to_head bytes others (next.Message response) h same g some =
    let now = sym (holds_now old to_head 0 bytes h same) ∙ g.1 in
    (g.0 ++ others, ap at_end (complete_more to_head 0 bytes others response g.0 now))
gives_ends old new to_head bytes others next.NeedMore h same g some = absurd (some refl)
gives_ends old new to_head bytes others (next.Bad at) h same g some = ap at_end (broken_more to_head 0 bytes others at (sym (holds_now old to_head 0 bytes h same) ∙ g.0))
gives_ends old new to_head bytes others next.OutOfMemory h same g some = tt

pub finish_ends : (old new : HeldResponse) (to_head : Bool) (bytes : List ℕ) (answer : NextResponse) → Holds old 0 bytes → old.to_head ≡ to_head → EndsResponse old new answer → EndsIn (response_front to_head 0 bytes) answer
finish_ends old new to_head bytes (next.Message response) h same e = (e.0, ap at_end (sym (holds_now old to_head 0 bytes h same)) ∙ e.1)
finish_ends old new to_head bytes next.NeedMore h same e = absurd e
finish_ends old new to_head bytes (next.Bad at) h same e = ap at_end (sym (holds_now old to_head 0 bytes h same)) ∙ e.0
finish_ends old new to_head bytes next.OutOfMemory h same e = tt

-- the count of bytes that came
pub count_le : (over : Bool) (count more all new : ℕ) → new ≡ cond over count (count + more) → count ≤ all → new ≤ all + more
count_le true count more all new is l = omega arith
count_le false count more all new is l = omega arith
