-- Reading a reply.
use Rattle.std.proofs.Common.{◌≡◌, ℕ, false, List, [], ◌++◌, length, take, Option, Some, None, Result, Ok, Err, refl, sym, ap, ◌∙◌, subst}
use Rattle.std.proofs.lemmas.List.{append-nil}
use Rattle.std.proofs.Math.Seq.{take-length}
use Rattle.std.specs.Io.KnownBytes.{Appends, Consumes, IsAtEnd}
use Rattle.http_wire.specs.ResponseFeed.{GivesResponse, EndsResponse, HeldResponse, Holds, Stays, at_end}
use Rattle.http_wire.specs.Responses.{ResponseFront, response_front}
use Rattle.http_wire.specs.Streams.{EndsIn}
use Rattle.http_wire.specs.declared.response.NextResponse.{NextResponse}
use Rattle.http_wire.specs.declared.response.NextResponse.TheVariants as next
use Rattle.http_wire.proofs.StreamLemmas.{finish_ends, gives_ends, holds_push, holds_stay}
use Rattle.http_wire.specs.declared.response.Response.{Response}
use Rattle.authget.specs.Exchanges.{Talks}
use Rattle.authget.specs.Replies.{IsReply, Pushes, ReadsReply, told, whole_of}
use Rattle.authget.specs.Requests.{reply_in, response_in}
use Rattle.authget.specs.declared.stop.Stop.{Stop}

-- what a feed's answer at the end says is the reply
told_is : (front : ResponseFront) (left : Option (List ℕ)) (got : List ℕ) (answer : NextResponse) → response_front false 0 (whole_of left got) ≡ front → (answer ≡ next.NeedMore → ⊥) → EndsIn front answer → IsReply left got (told answer)
told_is front left got (next.Message response) is some e = sym (ap (λ (f : ResponseFront). response_in (at_end f)) is ∙ ap response_in e.1)
told_is front left got next.NeedMore is some e = absurd (some refl)
told_is front left got (next.Bad at) is some e = sym (ap (λ (f : ResponseFront). response_in (at_end f)) is ∙ ap response_in e)
told_is front left got next.OutOfMemory is some e = tt

-- while bytes may still come
pub told_early : (left left' : Option (List ℕ)) (got : List ℕ) (old new : HeldResponse) (answer : NextResponse) → Consumes left left' got → Holds old 0 got → old.to_head ≡ false → GivesResponse old new answer →
    (answer ≡ next.NeedMore → ⊥) → IsReply left got (told answer)
told_early None left' got old new answer read holds same gives some =
    told_is (response_front false 0 got) None got answer refl some
    (subst (λ (l : List ℕ). EndsIn (response_front false 0 l) answer) (append-nil got) (gives_ends old new false got [] answer holds same gives some))
told_early (Some bytes) None got old new answer read holds same gives some = absurd read
told_early (Some bytes) (Some rest) got old new answer read holds same gives some =
    told_is (response_front false 0 (got ++ rest)) (Some bytes) got answer (ap (response_front false 0) read) some (gives_ends old new false got rest answer holds same gives some)

never_more : (old new : HeldResponse) (answer : NextResponse) → EndsResponse old new answer → answer ≡ next.NeedMore → ⊥
never_more old new (next.Message response) e is = absurd (cc)
never_more old new next.NeedMore e is = e
never_more old new (next.Bad at) e is = absurd (cc)
never_more old new next.OutOfMemory e is = absurd (cc)

-- at the end of the connection's bytes
pub told_late : (left left' : Option (List ℕ)) (got : List ℕ) (old new : HeldResponse) (answer : NextResponse) → Consumes left left' got → IsAtEnd left' → Holds old 0 got → old.to_head ≡ false → EndsResponse old new answer →
    IsReply left got (told answer)
told_late None left' got old new answer read end holds same ends =
    told_is (response_front false 0 got) None got answer refl (never_more old new answer ends) (finish_ends old new false got answer holds same ends)
told_late (Some bytes) None got old new answer read end holds same ends = absurd read
told_late (Some bytes) (Some rest) got old new answer read end holds same ends =
    let all : bytes ≡ got = read ∙ ap (λ (l : List ℕ). got ++ l) end ∙ append-nil got in
    told_is (response_front false 0 got) (Some bytes) got answer (ap (response_front false 0) all) (never_more old new answer ends) (finish_ends old new false got answer holds same ends)

-- all of the text was sent, and then the reply was read
pub talks_whole : (left left' after before mid now : Option (List ℕ)) (text : List ℕ) (result : Result (Option Response) Stop) → left' ≡ left → Appends before mid text → now ≡ mid → ReadsReply left' after result → Talks left before now text result
talks_whole left left' after before mid now text (Ok reply) same wrote kept reads =
    (reads.0, reads.2 ∙ ap (λ (l : Option (List ℕ)). reply_in (whole_of l reads.0)) same, subst (λ (o : Option (List ℕ)). Appends before o text) (sym kept) wrote)
talks_whole left left' after before mid now text (Err stop) same wrote kept reads =
    (length text, subst (λ (o : Option (List ℕ)). Appends before o (take (length text) text)) (sym kept) (subst (Appends before mid) (sym (take-length text)) wrote))

-- a piece more was read
pub holds_piece : (old mid new : HeldResponse) (got piece : List ℕ) (given : ℕ) → Holds old 0 got → Stays old mid → Pushes mid new piece given → Holds new 0 (got ++ piece)
holds_piece old mid new got piece given holds stays pushes = holds_push mid new 0 got piece (holds_stay old mid 0 got holds stays) pushes.to_head pushes.ahead
