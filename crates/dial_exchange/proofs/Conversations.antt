-- What reading a response and talking over a connection do.
use Rattle.std.proofs.Common.{◌≡◌, ◌++◌, ◌+◌, ◌<◌, ◌≤◌, ◌^◌, [], ℕ, List, Bool, true, false, take, drop, cond, Option, Some, None, Result, Ok, Err, refl, sym, ap, ◌∙◌, subst, arith}
use Rattle.std.specs.Prelude.{IfOk, IfSome, length, min}
use Rattle.std.proofs.lemmas.List.{append-nil, length-take, take-append-drop}
use Rattle.std.specs.Io.KnownBytes.{Appends, Consumes, IsAtEnd}
use Rattle.auth_grammar.specs.declared.octets.OutOfMemory.{OutOfMemory}
use Rattle.auth_io.proofs.Passing.{Appends_none, Consumes_none, Consumes_trans}
use Rattle.auth_io.specs.Causes.{Rose}
use Rattle.auth_io.specs.Handing.{has_fault}
use Rattle.http_wire.proofs.StreamLemmas.{count_le, holds_push, holds_stay}
use Rattle.http_wire.specs.ResponseFeed.{EndsResponse, GivesResponse, HeldResponse, Holds, Stays, ahead, at_end}
use Rattle.http_wire.specs.Responses.{ResponseFront, Incomplete, Open, Complete, Broken, response_front}
use Rattle.http_wire.specs.declared.response.NextResponse.TheVariants as next
use Rattle.http_wire.specs.declared.response.Response.{Response}
use Rattle.dial_exchange.specs.Exchanges.{FailsBy, HasEnded, IsFrontOf, IsSettled, got, reception_of}
use Rattle.dial_exchange.specs.Talking.{HasRead, Receives, Says, TalkState, Talks}
use Rattle.dial_exchange.specs.declared.events.Exchange.{Exchange}
use Rattle.dial_exchange.specs.declared.events.ExchangeEnd.{ExchangeEnd}
use Rattle.dial_exchange.specs.declared.events.ExchangeEnd.TheVariants.{Answered, InputEnded, LinkFailed, NoMemory}
use Rattle.dial_exchange.specs.declared.events.Outgoing.{Outgoing}
use Rattle.dial_exchange.specs.declared.events.Reception.{Reception}
use Rattle.dial_exchange.specs.declared.events.Reception.TheVariants.{Bad, Failed}

-- ---- counts

no_fault : (a b : ℕ) → a ≡ 0 → b ≡ 0 → has_fault a b ≡ false
no_fault a b p q = (λ i. has_fault (p i) (q i))

rose_some : (a b : ℕ) → a ≡ 0 → Rose a b → 0 < b
rose_some a b p q = omega (arith, p, q)

read_fault : (a b : ℕ) → 0 < a → has_fault a b ≡ true
read_fault a b p = grind (arith, p)

write_fault : (a b : ℕ) → 0 < b → has_fault a b ≡ true
write_fault a b p = grind (arith, p)

-- ---- reading

holds_now : (held : HeldResponse) (to_head : Bool) (at : ℕ) (bytes : List ℕ) → Holds held at bytes → held.to_head ≡ to_head → ahead held [] ≡ response_front to_head at bytes
holds_now held to_head at bytes h same = h [] ∙ (λ i. response_front (same i) at (append-nil bytes i))

-- This was read so far, the feed stands for it, and nothing else was done.
pub record IsReading (to_head : Bool) (u v : TalkState) (feed : HeldResponse) (count given : ℕ) : Type 0 where
  pub got : List ℕ
  pub gave : Consumes u.left v.left got
  pub holds : Holds feed 0 got
  pub same : feed.to_head ≡ to_head
  pub within : count ≤ given
  pub wrote : v.written ≡ u.written
  pub reads : v.read_faults ≡ u.read_faults
  pub writes : v.write_faults ≡ u.write_faults

pub starts_reading : (to_head : Bool) (u : TalkState) (feed : HeldResponse) (given : ℕ) → feed.to_head ≡ to_head → feed.count ≡ 0 → Holds feed 0 [] → IsReading to_head u u feed feed.count given
starts_reading to_head u feed given same count holds = record {
  got = [];
  gave = Consumes_none u.left;
  holds = holds;
  same = same;
  within = omega (arith, count);
  wrote = refl;
  reads = refl;
  writes = refl;
}

abbrev receives_as : (to_head : Bool) (u v : TalkState) → (got : List ℕ) (ending : ExchangeEnd) → Consumes u.left v.left got → v.written ≡ u.written → v.read_faults ≡ u.read_faults → v.write_faults ≡ u.write_faults → HasRead to_head got v.left ending → (has_fault v.read_faults v.write_faults ≡ false → FailsBy ending (has_fault v.read_faults v.write_faults)) →
    (result : Result Reception OutOfMemory) → Says to_head got ending result → Receives to_head u v result
receives_as to_head u v got ending gave wrote reads writes read well result says = record {
  given = got;
  ending = ending;
  gave = gave;
  wrote = wrote;
  writes = writes;
  read = read;
  fails = λ p q. well (no_fault v.read_faults v.write_faults (reads ∙ p) (writes ∙ q));
  says = says;
}

-- a piece was read, and pushed
pub record HasPushed (to_head : Bool) (u v : TalkState) (feed : HeldResponse) : Type 0 where
  pub got : List ℕ
  pub gave : Consumes u.left v.left got
  pub holds : Holds feed 0 got
  pub same : feed.to_head ≡ to_head
  pub wrote : v.written ≡ u.written
  pub reads : v.read_faults ≡ u.read_faults
  pub writes : v.write_faults ≡ u.write_faults

pub pushes : (to_head : Bool) (u v w : TalkState) (old new : HeldResponse) (count given : ℕ) (piece : List ℕ) → IsReading to_head u v old count given → Consumes v.left w.left piece → w.written ≡ v.written → w.read_faults ≡ v.read_faults → w.write_faults ≡ v.write_faults →
    new.to_head ≡ old.to_head → ((more : List ℕ) → ahead new more ≡ ahead old (piece ++ more)) → HasPushed to_head u w new
pushes to_head u v w old new count given piece r gave wrote reads writes same pushed = record {
  got = r.got ++ piece;
  gave = Consumes_trans u.left v.left w.left r.got piece r.gave gave;
  holds = holds_push old new 0 r.got piece r.holds same pushed;
  same = same ∙ r.same;
  wrote = wrote ∙ r.wrote;
  reads = reads ∙ r.reads;
  writes = writes ∙ r.writes;
}

-- a piece was read, and there is no memory for it
pub reads_no_more : (to_head : Bool) (u v w : TalkState) (feed : HeldResponse) (count given : ℕ) (piece : List ℕ) (error : OutOfMemory) → IsReading to_head u v feed count given → Consumes v.left w.left piece → w.written ≡ v.written → w.read_faults ≡ v.read_faults → w.write_faults ≡ v.write_faults → Receives to_head u w (Err error)
reads_no_more to_head u v w feed count given piece error r gave wrote reads writes =
    receives_as to_head u w (r.got ++ piece) NoMemory (Consumes_trans u.left v.left w.left r.got piece r.gave gave) (wrote ∙ r.wrote) (reads ∙ r.reads) (writes ∙ r.writes) tt (λ e. tt) (Err error) refl

-- nothing stands there yet
pub reads_on : (to_head : Bool) (u v : TalkState) (old new : HeldResponse) (count given : ℕ) → HasPushed to_head u v old → Stays old new → count ≤ given → IsReading to_head u v new count given
reads_on to_head u v old new count given p stays within = record {
  got = p.got;
  gave = p.gave;
  holds = holds_stay old new 0 p.got p.holds stays;
  same = stays.to_head ∙ p.same;
  within = within;
  wrote = p.wrote;
  reads = p.reads;
  writes = p.writes;
}

-- a response, or what is none, stands there
pub hears : (to_head : Bool) (u v : TalkState) (feed : HeldResponse) (front : ResponseFront) (reception : Reception) → HasPushed to_head u v feed → ahead feed [] ≡ front → IsSettled front → reception ≡ reception_of (at_end front) → Receives to_head u v (Ok reception)
hears to_head u v feed front reception p is settled came =
    let now : response_front to_head 0 p.got ≡ front = sym (holds_now feed to_head 0 p.got p.holds p.same) ∙ is in
    receives_as to_head u v p.got Answered p.gave p.wrote p.reads p.writes (subst IsSettled (sym now) settled) (λ e. e) (Ok reception)
    (refl, came ∙ ap (λ (f : ResponseFront). reception_of (at_end f)) (sym now))

pub hears_response : (to_head : Bool) (u v : TalkState) (old new : HeldResponse) (response : Response) → HasPushed to_head u v old → GivesResponse old new (next.Message response) → Receives to_head u v (Ok (got response))
hears_response to_head u v old new response p g = hears to_head u v old (Complete response g.0) (got response) p g.1 tt refl

pub hears_bad : (to_head : Bool) (u v : TalkState) (old new : HeldResponse) (at : ℕ) → HasPushed to_head u v old → GivesResponse old new (next.Bad at) → Receives to_head u v (Ok Bad)
hears_bad to_head u v old new at p g = hears to_head u v old (Broken at) Bad p g.0 tt refl

-- there is no memory for what was read
pub hears_no_more : (to_head : Bool) (u v : TalkState) (got : List ℕ) (error : OutOfMemory) → Consumes u.left v.left got → v.written ≡ u.written → v.read_faults ≡ u.read_faults → v.write_faults ≡ u.write_faults → Receives to_head u v (Err error)
hears_no_more to_head u v got error gave wrote reads writes = receives_as to_head u v got NoMemory gave wrote reads writes tt (λ e. tt) (Err error) refl

-- the input has ended
pub hears_end : (to_head : Bool) (u v w : TalkState) (feed : HeldResponse) (count given : ℕ) (result : Result Reception OutOfMemory) → IsReading to_head u v feed count given → Consumes v.left w.left [] → IsAtEnd w.left → w.written ≡ v.written → w.read_faults ≡ v.read_faults → w.write_faults ≡ v.write_faults →
    IfOk result (λ reception. reception ≡ reception_of (at_end (ahead feed []))) → Receives to_head u w result
hears_end to_head u v w feed count given (Ok reception) r gave ended wrote reads writes is =
    let all : Consumes u.left w.left r.got = subst (λ (l : List ℕ). Consumes u.left w.left l) (append-nil r.got) (Consumes_trans u.left v.left w.left r.got [] r.gave gave) in
    receives_as to_head u w r.got InputEnded all (wrote ∙ r.wrote) (reads ∙ r.reads) (writes ∙ r.writes) ended (λ e. e) (Ok reception)
    (refl, is ∙ ap (λ (f : ResponseFront). reception_of (at_end f)) (holds_now feed to_head 0 r.got r.holds r.same))
hears_end to_head u v w feed count given (Err error) r gave ended wrote reads writes is =
    let all : Consumes u.left w.left r.got = subst (λ (l : List ℕ). Consumes u.left w.left l) (append-nil r.got) (Consumes_trans u.left v.left w.left r.got [] r.gave gave) in
    receives_as to_head u w r.got NoMemory all (wrote ∙ r.wrote) (reads ∙ r.reads) (writes ∙ r.writes) tt (λ e. tt) (Err error) refl

-- a read failed
pub hears_fault : (to_head : Bool) (u v w : TalkState) (feed : HeldResponse) (count given : ℕ) → IsReading to_head u v feed count given → w.left ≡ v.left → w.written ≡ v.written → Rose v.read_faults w.read_faults → w.write_faults ≡ v.write_faults → Receives to_head u w (Ok Failed)
hears_fault to_head u v w feed count given r left wrote rose writes = record {
  given = r.got;
  ending = LinkFailed;
  gave = subst (λ (o : Option (List ℕ)). Consumes u.left o r.got) (sym left) r.gave;
  wrote = wrote ∙ r.wrote;
  writes = writes ∙ r.writes;
  read = tt;
  fails = λ p q. read_fault w.read_faults w.write_faults (rose_some v.read_faults w.read_faults (r.reads ∙ p) rose);
  says = (refl, refl);
}

-- ---- one read, as its count has it

-- none of the bytes
pub none_taken : (a b : Option (List ℕ)) (n : ℕ) (buf : List ℕ) → Consumes a b (take n buf) → n ≡ 0 → Consumes a b []
none_taken a b n buf p e = subst (λ (k : ℕ). Consumes a b (take k buf)) e p

-- the count of what was pushed, against what was given
pub within_more : (over : Bool) (count given given' new n : ℕ) (buf : List ℕ) → new ≡ cond over count (count + length (take n buf)) → count ≤ given → given' ≡ given + n → new ≤ given'
within_more over count given given' new n buf is l more =
    let size : length (take n buf) ≡ min n (length buf) = length-take n buf in
    let all = count_le over count (length (take n buf)) given new is l in
    omega (arith, size, all, more)

-- ---- talking

whole_left : (a b : Option (List ℕ)) (given : List ℕ) → Consumes a b given → IsAtEnd b → IfSome a (λ (left : List ℕ). left ≡ given)
whole_left None b given p q = tt
whole_left (Some l) None given p q = absurd p
whole_left (Some l) (Some r) given p q = p ∙ ap (λ (x : List ℕ). given ++ x) q ∙ append-nil given

ends : (outgoing : Outgoing) (x : Exchange) (left' : Option (List ℕ)) (ending : ExchangeEnd) → x.sent ≡ outgoing.text → Consumes x.left left' x.given → HasRead outgoing.to_head x.given left' ending → HasEnded outgoing x ending
ends outgoing x left' Answered sent gave read = (sent, read)
ends outgoing x left' InputEnded sent gave read = (sent, whole_left x.left left' x.given gave read)
ends outgoing x left' LinkFailed sent gave read = ([], sym sent ∙ sym (append-nil x.sent))
ends outgoing x left' NoMemory sent gave read = ([], sym sent ∙ sym (append-nil x.sent))

-- all was sent
pub talks_on : (outgoing : Outgoing) (u v w : TalkState) (result : Result Reception OutOfMemory) → Appends u.written v.written outgoing.text → v.left ≡ u.left → v.read_faults ≡ u.read_faults → v.write_faults ≡ u.write_faults → Receives outgoing.to_head v w result → Talks outgoing u w result
talks_on outgoing u v w result took left reads writes r =
    let gave : Consumes u.left w.left r.given = subst (λ (o : Option (List ℕ)). Consumes o w.left r.given) left r.gave in
    let x : Exchange = record { left = u.left; given = r.given; sent = outgoing.text; failed = has_fault w.read_faults w.write_faults; ending = r.ending } in
    record {
      exchange = x;
      left = refl;
      gave = gave;
      took = subst (λ (o : Option (List ℕ)). Appends u.written o outgoing.text) (sym r.wrote) took;
      ended = ends outgoing x w.left r.ending refl gave r.read;
      told = refl;
      fails = λ p q. r.fails (reads ∙ p) (writes ∙ q);
      says = r.says;
    }

-- the front of it was sent
pub talks_cut : (outgoing : Outgoing) (u v : TalkState) (n : ℕ) (ending : ExchangeEnd) (result : Result Reception OutOfMemory) → Appends u.written v.written (take n outgoing.text) → v.left ≡ u.left →
    (u.read_faults ≡ 0 → u.write_faults ≡ 0 → FailsBy ending (has_fault v.read_faults v.write_faults)) → HasEnded outgoing (record { left = u.left; given = []; sent = take n outgoing.text; failed = has_fault v.read_faults v.write_faults; ending = ending }) ending → Says outgoing.to_head [] ending result → Talks outgoing u v result
talks_cut outgoing u v n ending result took left failed ended says = record {
  exchange = record { left = u.left; given = []; sent = take n outgoing.text; failed = has_fault v.read_faults v.write_faults; ending = ending };
  left = refl;
  gave = subst (λ (o : Option (List ℕ)). Consumes u.left o []) (sym left) (Consumes_none u.left);
  took = took;
  ended = ended;
  told = refl;
  fails = failed;
  says = says;
}

front_of : (n : ℕ) (text : List ℕ) → IsFrontOf (take n text) text
front_of n text = (drop n text, sym (take-append-drop n text))

pub talks_failed : (outgoing : Outgoing) (u v : TalkState) (n : ℕ) → Appends u.written v.written (take n outgoing.text) → v.left ≡ u.left → Rose u.write_faults v.write_faults → Talks outgoing u v (Ok Failed)
talks_failed outgoing u v n took left rose =
    talks_cut outgoing u v n LinkFailed (Ok Failed) took left (λ p q. write_fault v.read_faults v.write_faults (rose_some u.write_faults v.write_faults q rose)) (front_of n outgoing.text) (refl, refl)

pub talks_no_memory : (outgoing : Outgoing) (u v : TalkState) (n : ℕ) (error : OutOfMemory) → Appends u.written v.written (take n outgoing.text) → v.left ≡ u.left → Talks outgoing u v (Err error)
talks_no_memory outgoing u v n error took left =
    talks_cut outgoing u v n NoMemory (Err error) took left (λ p q. tt) (front_of n outgoing.text) refl
