-- What one step over a message says.
use Rattle.std.proofs.Common.{◌≡◌, ◌∷◌, [], ◌++◌, ◌<◌, ◌≤◌, ◌+◌, ◌-◌, ℕ, zero, suc, List, length, map, take, drop, Bool, cond, true, false, ltb, ◌&&◌, Option, Some, None, Ok, Err, sym, refl, ap, ◌∙◌, subst, append_assoc, length-append, arith}
use Rattle.std.proofs.lemmas.List.{append-nil, take-append-drop, take-append-le}
use Rattle.std.proofs.lemmas.Bool.Decides.{nat_tests}
use Rattle.std.proofs.lemmas.Bool.{false≢true}
use Rattle.std.specs.List.{AllByRecursion}
use Rattle.http_wire.specs.declared.request.Request.{Request}
use Rattle.http_wire.specs.Requests.{Wrong, front, begun_at}
use Rattle.http_wire.specs.RequestFeed.{Held}
use Rattle.http_wire.proofs.RequestLaws.{whole_more, wrong_more, whole_takes}
use Rattle.connection_loop.specs.Machine.{Machine, Incoming, Said, turn, asks_in, output_in, state_in, Responds}
use Rattle.connection_loop.specs.Session.{Stop, AtEnd, Inside, AtBad, AtClose, Supply, no_supply, Session, Past, writes, after, closed_or, end_of_input, refusal, admits, session}
use Rattle.connection_loop.specs.Account.{Account, supply_of, add}
use Rattle.connection_loop.specs.Results.{Completes, Begins, IsOpen}
use Rattle.connection_loop.specs.Steps.{due, IsSendError, SendsText, IsWaiting, ReadsWaiting, FindsRequest, Finds, request_account, Fronts, Lacked, Serves, Place, session_from, EndsAt, StallsAt, Follows, GoesOn, Steps, IsPromptAt, session_at}
use Rattle.connection_loop.proofs.Passing.{link_account, served_account}
use Rattle.connection_loop.proofs.Turns.{none_left}
use Rattle.connection_loop.proofs.Sessions.{session-waits, session-bad, asks_at, session-said, session-lacks, session-begins, idle, whole_due, begins_due}
use Rattle.connection_loop.specs.declared.responder.Response.{Response}
use Rattle.connection_loop.specs.declared.responder.Lack.{Lack}
use Rattle.connection_loop.specs.declared.responder.Lack.TheVariants.{Random, Worn as TableWorn}
use Rattle.connection_loop.specs.declared.served.End.TheVariants.{Ended, CloseAsked, BadMessage}
use Rattle.connection_loop.specs.declared.serving.Step.TheVariants.{More, Over}
use Rattle.connection_loop.specs.declared.served.ServeError.{ServeError}
use Rattle.connection_loop.specs.declared.served.ServeError.TheVariants.{Truncated, ReadFault, WriteFault, RandomFault, Worn, OutOfMemory}

-- ---- one request

turn_all : {S Q E : Type 0} (m : Machine S Q E) (state : S) (incoming : Incoming) (events : List E) → turn m (events ++ []) state incoming [] ≡ turn m events state incoming []
turn_all {E = E} m state incoming events = ap (λ (l : List E). turn m l state incoming []) (append-nil events)

-- the responder found no memory
pub request_unsaid : {S Q E : Type 0} (m : Machine S Q E) (before : S) (incoming : Incoming) (moment : ℕ) (events : List E) → asks_in (turn m events before incoming []) ≡ map m.ask_of events → Fronts m before incoming (request_account [] moment events)
request_unsaid m before incoming moment events e = record { asks = e; front_of = (output_in (turn m events before incoming []), refl) }

written_front : {S Q E : Type 0} (m : Machine S Q E) (lacked : Lack → Q → Type 0) (before now : S) (incoming : Incoming) (moment n : ℕ) (response : Response) (events : List E) →
    Responds m lacked before now incoming events (Ok response) → Fronts m before incoming (request_account (take n response.text) moment events) × (state_in (turn m events before incoming []) ≡ now)
written_front m lacked before now incoming moment n response events responds =
    let is = sym (turn_all m before incoming events) ∙ responds [] in
    (record { asks = ap asks_in is; front_of = (drop n response.text, ap output_in is ∙ sym (take-append-drop n response.text)) }, ap state_in is)

-- the response was not written whole
pub request_unwritten : {S Q E : Type 0} (m : Machine S Q E) (lacked : Lack → Q → Type 0) (before now : S) (incoming : Incoming) (moment n : ℕ) (response : Response) (events : List E) (e : ServeError) → IsSendError e →
    Responds m lacked before now incoming events (Ok response) → Serves m lacked before now incoming (request_account (take n response.text) moment events) (Err e)
request_unwritten m lacked before now incoming moment n response events (Truncated at) kind responds = absurd kind
request_unwritten m lacked before now incoming moment n response events ReadFault kind responds = absurd kind
request_unwritten m lacked before now incoming moment n response events WriteFault kind responds = written_front m lacked before now incoming moment n response events responds
request_unwritten m lacked before now incoming moment n response events RandomFault kind responds = absurd kind
request_unwritten m lacked before now incoming moment n response events (Worn calls) kind responds = absurd kind
request_unwritten m lacked before now incoming moment n response events OutOfMemory kind responds = (written_front m lacked before now incoming moment n response events responds).0

-- ---- a request that was answered

pub add_nothing : {E : Type 0} (a : Account E) → add (supply_of a) no_supply ≡ supply_of a
add_nothing a =
    let m = append-nil a.moments in
    let r = append-nil a.events in
    λ i. record { moments = m i; events = r i }

-- what was done for one request, as it counts
abbrev pub past_with : {Q : Type 0} → List ℕ → List Q → ℕ → ℕ → Past Q
past_with output asks admitted answered = record { output = output; asks = asks; requests = 1; admitted = admitted; answered = answered }

-- the bytes of the message are the same whatever follows
same_bytes : (all kept rest : List ℕ) → length kept < length all → length (all ++ rest) - length (kept ++ rest) ≡ length all - length kept
same_bytes all kept rest fewer =
    let a : length (all ++ rest) ≡ length all + length rest = length-append all rest in
    let b : length (kept ++ rest) ≡ length kept + length rest = length-append kept rest in
    omega (arith, a, b)

-- a request that was answered, and what follows it
request_answered : {S Q E : Type 0} (m : Machine S Q E) (p : Place S) (now : S) (got put : List ℕ) (reads : List (ℕ × ℕ)) (request : Request) (kept : Held) (response : Response) (moment : ℕ) (u : List E) →
    FindsRequest (p.ahead ++ got) put p.answered request kept → (room : ℕ) →
    ((more : List E) → turn m (u ++ more) p.state (asks_at request room moment) [] ≡ Said response now (map m.ask_of u) more) → (rest : List ℕ) (more : Supply E) →
    session m (suc room) p.state ((p.ahead ++ got) ++ rest) (add (supply_of (served_account got put reads response.text moment u)) more)
    ≡ after (past_with (put ++ response.text) (map m.ask_of u) (admits response) (length (p.ahead ++ got) - length kept.rest)) (closed_or request.closes room now more (session m room now (kept.rest ++ rest) more))
request_answered {Q = Q} m p now got put reads request kept response moment u found room serves rest more =
    let all = p.ahead ++ got in
    let later = closed_or request.closes room now more (session m room now (kept.rest ++ rest) more) in
    session-said m room p.state now (all ++ rest) moment more.moments (u ++ more.events) more.events found.waits request (kept.rest ++ rest) response (map m.ask_of u)
    (whole_more all rest found.waits request kept.rest found.whole) (serves more.events)
    ∙ ap (λ (l : List ℕ). after (past_with (l ++ response.text) (map m.ask_of u) (admits response) (length (all ++ rest) - length (kept.rest ++ rest))) later)
    (whole_due all rest found.waits request kept.rest found.whole ∙ found.wrote)
    ∙ ap (λ (n : ℕ). after (past_with (put ++ response.text) (map m.ask_of u) (admits response) n) later)
    (same_bytes all kept.rest rest (whole_takes all found.waits request kept.rest found.whole))

not_closed : {S Q E : Type 0} (t : Bool) (room : ℕ) (now : S) (left : Supply E) (s : Session S Q E) → (t ≡ true → room ≡ 0) → closed_or t room now left s ≡ s
not_closed false room now left s h = refl
not_closed true zero now left s h = refl
not_closed true (suc room) now left s h = absurd (let e : suc room ≡ 0 = h refl in omega arith)

-- it goes on
step_on : {S Q E : Type 0} (m : Machine S Q E) (p : Place S) (now : S) (got put : List ℕ) (reads : List (ℕ × ℕ)) (request : Request) (kept : Held) (response : Response) (moment room : ℕ) (u : List E) → p.room ≡ suc room →
    FindsRequest (p.ahead ++ got) put p.answered request kept →
    ((more : List E) → turn m (u ++ more) p.state (asks_at request room moment) [] ≡ Said response now (map m.ask_of u) more) →
    (request.closes ≡ true → p.room ≡ 1) → GoesOn m p now (served_account got put reads response.text moment u) kept (admits response)
step_on {S = S} {Q = Q} {E = E} m p now got put reads request kept response moment room u r found serves last =
    let all = p.ahead ++ got in
    let past = past_with (put ++ response.text) (map m.ask_of u) (admits response) (length all - length kept.rest) in
    let fewer = whole_takes all found.waits request kept.rest found.whole in
    record {
      bytes = length all - length kept.rest;
      goes = λ room' at rest more.
          let same : room' ≡ room = omega (arith, r, at) in
          ap (λ (n : ℕ). session m (suc n) p.state (all ++ rest) (add (supply_of (served_account got put reads response.text moment u)) more)) same
          ∙ request_answered m p now got put reads request kept response moment u found room serves rest more
          ∙ ap (after past) (not_closed request.closes room now more (session m room now (kept.rest ++ rest) more) (λ c. let one : p.room ≡ 1 = last c in omega arith))
          ∙ ap (λ (n : ℕ). after past (session m n now (kept.rest ++ rest) more)) (sym same);
      counted = omega (arith, fewer);
      place_is = found.place;
      between = found.between;
    }

-- it closes
step_close : {S Q E : Type 0} (m : Machine S Q E) (lacked : Lack → Q → Type 0) (p : Place S) (now : S) (got put : List ℕ) (reads : List (ℕ × ℕ)) (request : Request) (kept : Held) (response : Response) (moment room : ℕ) (u : List E) → p.room ≡ suc (suc room) →
    FindsRequest (p.ahead ++ got) put p.answered request kept →
    ((more : List E) → turn m (u ++ more) p.state (asks_at request (suc room) moment) [] ≡ Said response now (map m.ask_of u) more) → request.closes ≡ true →
    Follows m lacked p now (served_account got put reads response.text moment u) (Ok (record { requests = p.requests + 1; admitted = p.admitted + admits response; end = CloseAsked }))
step_close {S = S} {Q = Q} {E = E} m lacked p now got put reads request kept response moment room u r found serves c rest may =
    let a = served_account got put reads response.text moment u in
    let all = p.ahead ++ got in
    let past = past_with (put ++ response.text) (map m.ask_of u) (admits response) (length all - length kept.rest) in
    let is : session_from m p a rest ≡ after past (writes [] AtClose now no_supply)
    = ap (λ (n : ℕ). session m n p.state (all ++ rest) (supply_of a)) r
    ∙ ap (λ (s : Supply E). session m (suc (suc room)) p.state (all ++ rest) s) (sym (add_nothing a))
    ∙ request_answered m p now got put reads request kept response moment u found (suc room) serves rest no_supply
    ∙ ap (λ (t : Bool). after past (closed_or t (suc room) now no_supply (session m (suc room) now (kept.rest ++ rest) no_supply))) c in
    let one : (session_from m p a rest).requests ≡ 1 + 0 = ap (λ (s : Session S Q E). s.requests) is in
    let some : (session_from m p a rest).admitted ≡ admits response + 0 = ap (λ (s : Session S Q E). s.admitted) is in
    let size : (session_from m p a rest).answered ≡ (length all - length kept.rest) + 0 = ap (λ (s : Session S Q E). s.answered) is in
    record {
      completes = record {
        output = ap (λ (s : Session S Q E). s.output) is ∙ append-nil (put ++ response.text);
        asks = ap (λ (s : Session S Q E). s.asks) is ∙ append-nil (map m.ask_of u);
        stops = ap (λ (s : Session S Q E). s.stop) is;
        state = ap (λ (s : Session S Q E). s.state) is;
        none_left = ap (λ (s : Session S Q E). s.left) is;
      };
      requests = omega (arith, one);
      admitted = omega (arith, some);
      within = omega (arith, size);
    }

-- the room where a request that closes doesn't end the session
last_room : (n k : ℕ) (t : Bool) → k < n → (t && ltb (k + 1) n) ≡ false → t ≡ true → n - k ≡ 1
last_room n k false l e c = absurd (false≢true c)
last_room n k true l e c = let more : n ≤ k + 1 = grind (arith, nat_tests) in omega arith

more_room : (n k : ℕ) (t : Bool) → (t && ltb (k + 1) n) ≡ true → (t ≡ true) × (n - (k + 1) ≡ suc (n - (k + 2)))
more_room n k false e = absurd (false≢true e)
more_room n k true e = (refl, let more : k + 1 < n = grind (arith, nat_tests) in omega arith)

pub room_is : (n k : ℕ) → k < n → n - k ≡ suc (n - (k + 1))
room_is n k l = omega arith

-- a request that was answered closes the connection, or it goes on
pub step_served : {S Q E : Type 0} (m : Machine S Q E) (lacked : Lack → Q → Type 0) (p : Place S) (now : S) (got put : List ℕ) (reads : List (ℕ × ℕ)) (request : Request) (kept : Held) (output : List ℕ) (moment requests admitted one : ℕ) (u : List E) (t : Bool) →
    p.room ≡ 4096 - requests → p.requests ≡ requests → p.admitted ≡ admitted → requests < 4096 →
    FindsRequest (p.ahead ++ got) put p.answered request kept → Serves m lacked p.state now (asks_at request (4096 - (requests + 1)) moment) (request_account output moment u) (Ok one) →
    (request.closes && ltb (requests + 1) 4096) ≡ t → Steps m lacked p now (served_account got put reads output moment u) kept (Ok (cond t (Over (record { requests = requests + 1; admitted = admitted + one; end = CloseAsked })) (More one)))
step_served {S = S} {Q = Q} {E = E} m lacked p now got put reads request kept output moment requests admitted one u true r n d few found serves t =
    let more = more_room 4096 requests request.closes t in
    let response = serves.0 in
    let goes = subst (λ (k : ℕ). (more : List E) → turn m (u ++ more) p.state (asks_at request k moment) [] ≡ Said response now (map m.ask_of u) more) more.1 serves.1 in
    let closed = step_close m lacked p now got put reads request kept response moment (4096 - (requests + 2)) u (let k = more.1 in omega (arith, r, k, few)) found goes more.0 in
    let wrote = subst (λ (l : List ℕ). Follows m lacked p now (served_account got put reads l moment u) (Ok (record { requests = p.requests + 1; admitted = p.admitted + admits response; end = CloseAsked }))) (sym serves.2) closed in
    let counted = subst (λ (k : ℕ). Follows m lacked p now (served_account got put reads output moment u) (Ok (record { requests = p.requests + 1; admitted = p.admitted + k; end = CloseAsked }))) (sym serves.3) wrote in
    subst (λ (k : ℕ). Follows m lacked p now (served_account got put reads output moment u) (Ok (record { requests = requests + 1; admitted = k + one; end = CloseAsked }))) d
    (subst (λ (k : ℕ). Follows m lacked p now (served_account got put reads output moment u) (Ok (record { requests = k + 1; admitted = p.admitted + one; end = CloseAsked }))) n counted)
step_served m lacked p now got put reads request kept output moment requests admitted one u false r n d few found serves t =
    let response = serves.0 in
    let goes = step_on m p now got put reads request kept response moment (4096 - (requests + 1)) u (r ∙ room_is 4096 requests few) found serves.1 (λ c. r ∙ last_room 4096 requests request.closes few t c) in
    let wrote = subst (λ (l : List ℕ). GoesOn m p now (served_account got put reads l moment u) kept (admits response)) (sym serves.2) goes in
    subst (λ (k : ℕ). GoesOn m p now (served_account got put reads output moment u) kept k) (sym serves.3) wrote

-- ---- a request that was not answered whole

-- where nothing follows, the session from a place on is that over what was read
nothing_follows : {S Q E : Type 0} (m : Machine S Q E) (p : Place S) (a : Account E) (room : ℕ) → p.room ≡ suc room → session_from m p a [] ≡ session m (suc room) p.state (p.ahead ++ a.input) (supply_of a)
nothing_follows m p a room r = ap (λ (n : ℕ). session m n p.state ((p.ahead ++ a.input) ++ []) (supply_of a)) r ∙ ap (λ (l : List ℕ). session m (suc room) p.state l (supply_of a)) (append-nil (p.ahead ++ a.input))

stalls_from : {S Q E : Type 0} (m : Machine S Q E) (lacked : Lack → Q → Type 0) (p : Place S) (now : S) (got put : List ℕ) (reads : List (ℕ × ℕ)) (request : Request) (kept : Held) (output : List ℕ) (moment room : ℕ) (u : List E) (lack : Lack) → p.room ≡ suc room →
    FindsRequest (p.ahead ++ got) put p.answered request kept → Lacked m lacked p.state now (asks_at request room moment) (request_account output moment u) lack →
    StallsAt m lacked p now (served_account got put reads output moment u) lack
stalls_from {S = S} {Q = Q} {E = E} m lacked p now got put reads request kept output moment room u lack r found t =
    let is = nothing_follows m p (served_account got put reads output moment u) room r
    ∙ session-lacks m room p.state now (p.ahead ++ got) moment [] u found.waits request kept.rest t.0 (map m.ask_of u) found.whole t.1 in (
      t.0,
      t.2,
      record {
        output = ap (λ (s : Session S Q E). s.output) is ∙ found.wrote ∙ sym (append-nil put) ∙ ap (λ (l : List ℕ). put ++ l) (sym t.3);
        asks = ap (λ (s : Session S Q E). s.asks) is;
        stops = ap (λ (s : Session S Q E). s.stop) is;
        state = ap (λ (s : Session S Q E). s.state) is;
        none_left = ap (λ (s : Session S Q E). s.left) is;
      },
    )

begins_from : {S Q E : Type 0} (m : Machine S Q E) (p : Place S) (got put : List ℕ) (reads : List (ℕ × ℕ)) (request : Request) (kept : Held) (output : List ℕ) (moment room : ℕ) (u : List E) → p.room ≡ suc room →
    FindsRequest (p.ahead ++ got) put p.answered request kept → Fronts m p.state (asks_at request room moment) (request_account output moment u) →
    Begins (session_from m p (served_account got put reads output moment u) []) m (served_account got put reads output moment u)
    × ((session_from m p (served_account got put reads output moment u) []).state ≡ state_in (turn m u p.state (asks_at request room moment) []))
begins_from {S = S} {Q = Q} {E = E} m p got put reads request kept output moment room u r found t =
    let is = nothing_follows m p (served_account got put reads output moment u) room r in
    let begins = session-begins m room p.state (p.ahead ++ got) moment u found.waits request kept.rest (turn m u p.state (asks_at request room moment) []) found.whole refl in (
      record {
        output = (
          t.front_of.0 ++ begins.output.0,
          ap (λ (s : Session S Q E). s.output) is ∙ begins.output.1
              ∙ ap (λ (l : List ℕ). due (p.ahead ++ got) ++ (l ++ begins.output.0)) t.front_of.1
              ∙ ap (λ (l : List ℕ). due (p.ahead ++ got) ++ l) (append_assoc output t.front_of.0 begins.output.0)
              ∙ ap (λ (l : List ℕ). l ++ (output ++ (t.front_of.0 ++ begins.output.0))) found.wrote
              ∙ sym (append_assoc put output (t.front_of.0 ++ begins.output.0)),
        );
        asks = ap (λ (s : Session S Q E). s.asks) is ∙ begins.asks ∙ t.asks;
        none_left = ap (λ (s : Session S Q E). s.left) is ∙ begins.left ∙ ap (λ (l : List E). record { moments = []; events = l }) (none_left m u p.state (asks_at request room moment) t.asks);
      },
      ap (λ (s : Session S Q E). s.state) is ∙ begins.same_state,
    )

pub step_err : {S Q E : Type 0} (m : Machine S Q E) (lacked : Lack → Q → Type 0) (p : Place S) (now : S) (got put : List ℕ) (reads : List (ℕ × ℕ)) (request : Request) (kept : Held) (output : List ℕ) (moment room : ℕ) (u : List E) (e : ServeError) → p.room ≡ suc room →
    FindsRequest (p.ahead ++ got) put p.answered request kept → Serves m lacked p.state now (asks_at request room moment) (request_account output moment u) (Err e) →
    Follows m lacked p now (served_account got put reads output moment u) (Err e)
step_err m lacked p now got put reads request kept output moment room u (Truncated at) r found serves = absurd serves
step_err m lacked p now got put reads request kept output moment room u ReadFault r found serves = absurd serves
step_err m lacked p now got put reads request kept output moment room u WriteFault r found serves =
    let begins = begins_from m p got put reads request kept output moment room u r found serves.0 in (begins.0, begins.1 ∙ serves.1)
step_err m lacked p now got put reads request kept output moment room u RandomFault r found serves = stalls_from m lacked p now got put reads request kept output moment room u Random r found serves
step_err m lacked p now got put reads request kept output moment room u (Worn calls) r found serves = stalls_from m lacked p now got put reads request kept output moment room u (TableWorn calls) r found serves
step_err m lacked p now got put reads request kept output moment room u OutOfMemory r found serves = (begins_from m p got put reads request kept output moment room u r found serves).0

-- ---- a bad message

-- what follows a bad message changes nothing
bad_is : {S Q E : Type 0} (m : Machine S Q E) (p : Place S) (got put : List ℕ) (reads : List (ℕ × ℕ)) (output : List ℕ) (moment room status : ℕ) → p.room ≡ suc room → front (p.ahead ++ got) ≡ Wrong status → (rest : List ℕ) →
    session_from m p (served_account {E = E} got put reads output moment []) rest ≡ writes (refusal status moment) AtBad p.state no_supply
bad_is m p got put reads output moment room status r bad rest =
    ap (λ (n : ℕ). session m n p.state ((p.ahead ++ got) ++ rest) (record { moments = moment ∷ []; events = [] })) r
    ∙ session-bad m room p.state ((p.ahead ++ got) ++ rest) moment [] [] status (wrong_more (p.ahead ++ got) rest status bad)

pub step_bad : {S Q E : Type 0} (m : Machine S Q E) (lacked : Lack → Q → Type 0) (p : Place S) (got put : List ℕ) (reads : List (ℕ × ℕ)) (output : List ℕ) (moment room status : ℕ) → p.room ≡ suc room →
    front (p.ahead ++ got) ≡ Wrong status → put ≡ [] → output ≡ refusal status moment →
    Follows m lacked p p.state (served_account {E = E} got put reads output moment []) (Ok (record { requests = p.requests; admitted = p.admitted; end = BadMessage }))
step_bad {S = S} {Q = Q} {E = E} m lacked p got put reads output moment room status r bad none sent rest may =
    let a : Account E = served_account got put reads output moment [] in
    let is : session_from m p a rest ≡ writes (refusal status moment) AtBad p.state no_supply = bad_is m p got put reads output moment room status r bad rest in
    let none_asked : (session_from m p a rest).requests ≡ 0 = ap (λ (s : Session S Q E). s.requests) is in
    let none_admitted : (session_from m p a rest).admitted ≡ 0 = ap (λ (s : Session S Q E). s.admitted) is in
    let none_answered : (session_from m p a rest).answered ≡ 0 = ap (λ (s : Session S Q E). s.answered) is in
    record {
      completes = record {
        output = ap (λ (s : Session S Q E). s.output) is ∙ sym sent ∙ ap (λ (l : List ℕ). l ++ output) (sym none);
        asks = ap (λ (s : Session S Q E). s.asks) is;
        stops = ap (λ (s : Session S Q E). s.stop) is;
        state = ap (λ (s : Session S Q E). s.state) is;
        none_left = ap (λ (s : Session S Q E). s.left) is;
      };
      requests = omega (arith, none_asked);
      admitted = omega (arith, none_admitted);
      within = omega (arith, none_answered);
    }

bad_begins : {S Q E : Type 0} (m : Machine S Q E) (p : Place S) (got put : List ℕ) (reads : List (ℕ × ℕ)) (output : List ℕ) (moment room status : ℕ) → p.room ≡ suc room →
    front (p.ahead ++ got) ≡ Wrong status → put ≡ [] → (rest : List ℕ) × (refusal status moment ≡ output ++ rest) →
    let a : Account E = served_account got put reads output moment [] in Begins (session_from m p a []) m a × ((session_from m p a []).state ≡ p.state)
bad_begins {S = S} {Q = Q} {E = E} m p got put reads output moment room status r bad none sent =
    let a : Account E = served_account got put reads output moment [] in
    let is : session_from m p a [] ≡ writes (refusal status moment) AtBad p.state no_supply = bad_is m p got put reads output moment room status r bad [] in (
      record {
        output = (sent.0, ap (λ (s : Session S Q E). s.output) is ∙ sent.1 ∙ ap (λ (l : List ℕ). (l ++ output) ++ sent.0) (sym none));
        asks = ap (λ (s : Session S Q E). s.asks) is;
        none_left = ap (λ (s : Session S Q E). s.left) is;
      },
      ap (λ (s : Session S Q E). s.state) is,
    )

pub step_bad_err : {S Q E : Type 0} (m : Machine S Q E) (lacked : Lack → Q → Type 0) (p : Place S) (got put : List ℕ) (reads : List (ℕ × ℕ)) (output : List ℕ) (moment room status : ℕ) (e : ServeError) → p.room ≡ suc room →
    front (p.ahead ++ got) ≡ Wrong status → put ≡ [] → SendsText (refusal status moment) output (Err e) → Follows m lacked p p.state (served_account {E = E} got put reads output moment []) (Err e)
step_bad_err m lacked p got put reads output moment room status (Truncated at) r bad none sent = absurd sent.0
step_bad_err m lacked p got put reads output moment room status ReadFault r bad none sent = absurd sent.0
step_bad_err m lacked p got put reads output moment room status WriteFault r bad none sent = bad_begins m p got put reads output moment room status r bad none sent.1
step_bad_err m lacked p got put reads output moment room status RandomFault r bad none sent = absurd sent.0
step_bad_err m lacked p got put reads output moment room status (Worn calls) r bad none sent = absurd sent.0
step_bad_err m lacked p got put reads output moment room status OutOfMemory r bad none sent = (bad_begins m p got put reads output moment room status r bad none sent.1).0

-- ---- no whole message

waits_is : {S Q E : Type 0} (m : Machine S Q E) (p : Place S) (a : Account E) (room : ℕ) (put : List ℕ) → p.room ≡ suc room → IsWaiting (p.ahead ++ a.input) put →
    session_from m p a [] ≡ writes put (end_of_input (p.ahead ++ a.input)) p.state (supply_of a)
waits_is m p a room put r waiting =
    nothing_follows m p a room r ∙ session-waits m room p.state (p.ahead ++ a.input) (supply_of a) waiting.waits waiting.unfinished
    ∙ ap (λ (l : List ℕ). writes l (end_of_input (p.ahead ++ a.input)) p.state (supply_of a)) waiting.wrote

waits_completes : {S Q E : Type 0} (m : Machine S Q E) (p : Place S) (got put : List ℕ) (reads : List (ℕ × ℕ)) (room : ℕ) (stop : Stop Q) → p.room ≡ suc room → IsWaiting (p.ahead ++ got) put → end_of_input (p.ahead ++ got) ≡ stop →
    Completes (session_from m p (link_account {E = E} got put reads) []) m (link_account got put reads) stop p.state
waits_completes {S = S} {Q = Q} {E = E} m p got put reads room stop r waiting ends =
    let is = waits_is m p (link_account got put reads) room put r waiting in
    record {
      output = ap (λ (s : Session S Q E). s.output) is;
      asks = ap (λ (s : Session S Q E). s.asks) is;
      stops = ap (λ (s : Session S Q E). s.stop) is ∙ ends;
      state = ap (λ (s : Session S Q E). s.state) is;
      none_left = ap (λ (s : Session S Q E). s.left) is;
    }

end_if : (Q : Type 0) (begun : Bool) → IsOpen (cond {A = Stop Q} begun Inside AtEnd)
end_if Q true = tt
end_if Q false = tt

end_is_open : (Q : Type 0) (input : List ℕ) → IsOpen (end_of_input {Q = Q} input)
end_is_open Q input = end_if Q (begun_at input)

pub step_fault : {S Q E : Type 0} (m : Machine S Q E) (lacked : Lack → Q → Type 0) (p : Place S) (got put : List ℕ) (reads : List (ℕ × ℕ)) (room : ℕ) → p.room ≡ suc room → IsWaiting (p.ahead ++ got) put →
    Follows m lacked p p.state (link_account {E = E} got put reads) (Err ReadFault)
step_fault {Q = Q} m lacked p got put reads room r waiting = (end_of_input (p.ahead ++ got), end_is_open Q (p.ahead ++ got), waits_completes m p got put reads room (end_of_input (p.ahead ++ got)) r waiting refl)

pub step_ended : {S Q E : Type 0} (m : Machine S Q E) (lacked : Lack → Q → Type 0) (p : Place S) (got put : List ℕ) (reads : List (ℕ × ℕ)) (room : ℕ) → p.room ≡ suc room → IsWaiting (p.ahead ++ got) put → begun_at (p.ahead ++ got) ≡ false →
    Follows m lacked p p.state (link_account {E = E} got put reads) (Ok (record { requests = p.requests; admitted = p.admitted; end = Ended }))
step_ended {S = S} {Q = Q} {E = E} m lacked p got put reads room r waiting none rest may =
    let a : Account E = link_account got put reads in
    let ends = ap (λ (t : Bool). cond {A = Stop Q} t Inside AtEnd) none in
    let completes = waits_completes m p got put reads room AtEnd r waiting ends in
    let is = waits_is m p a room put r waiting in
    let none_asked : (session_from m p a []).requests ≡ 0 = ap (λ (s : Session S Q E). s.requests) is in
    let none_admitted : (session_from m p a []).admitted ≡ 0 = ap (λ (s : Session S Q E). s.admitted) is in
    let none_answered : (session_from m p a []).answered ≡ 0 = ap (λ (s : Session S Q E). s.answered) is in
    let here : EndsAt m p p.state a (record { requests = p.requests; admitted = p.admitted; end = Ended }) [] = record {
      completes = completes;
      requests = omega (arith, none_asked);
      admitted = omega (arith, none_admitted);
      within = omega (arith, none_answered);
    } in
    subst (λ (l : List ℕ). EndsAt m p p.state a (record { requests = p.requests; admitted = p.admitted; end = Ended }) l) (sym may) here

pub step_truncated : {S Q E : Type 0} (m : Machine S Q E) (lacked : Lack → Q → Type 0) (p : Place S) (got put : List ℕ) (reads : List (ℕ × ℕ)) (room : ℕ) → p.room ≡ suc room → IsWaiting (p.ahead ++ got) put → begun_at (p.ahead ++ got) ≡ true →
    Follows m lacked p p.state (link_account {E = E} got put reads) (Err (Truncated p.answered))
step_truncated {S = S} {Q = Q} {E = E} m lacked p got put reads room r waiting some =
    let a : Account E = link_account got put reads in
    let ends = ap (λ (t : Bool). cond {A = Stop Q} t Inside AtEnd) some in
    let none_answered : (session_from m p a []).answered ≡ 0 = ap (λ (s : Session S Q E). s.answered) (waits_is m p a room put r waiting) in
    (waits_completes m p got put reads room Inside r waiting ends, omega (arith, none_answered))

-- what was due was not written whole
pub step_begins : {S Q E : Type 0} (m : Machine S Q E) (p : Place S) (got put : List ℕ) (reads : List (ℕ × ℕ)) (room : ℕ) → p.room ≡ suc room → (rest : List ℕ) × (due (p.ahead ++ got) ≡ put ++ rest) →
    let a : Account E = link_account got put reads in Begins (session_from m p a []) m a × ((session_from m p a []).state ≡ p.state)
step_begins {S = S} {Q = Q} {E = E} m p got put reads room r front_is =
    let begins = begins_due m room p.state (p.ahead ++ got) [] in
    let is = nothing_follows m p (link_account got put reads) room r in
    let still = idle m p.room p.state ((p.ahead ++ got) ++ []) [] in (
      record {
        output = (front_is.0 ++ begins.0, ap (λ (s : Session S Q E). s.output) is ∙ begins.1 ∙ ap (λ (l : List ℕ). l ++ begins.0) front_is.1 ∙ append_assoc put front_is.0 begins.0);
        asks = still.no_asks;
        none_left = still.all_left;
      },
      still.same_state,
    )

-- the errors of reading on
pub step_read_err : {S Q E : Type 0} (m : Machine S Q E) (lacked : Lack → Q → Type 0) (p : Place S) (got put : List ℕ) (reads : List (ℕ × ℕ)) (room at : ℕ) (kept : Held) (left : Option (List ℕ)) (e : ServeError) → p.room ≡ suc room →
    Finds (p.ahead ++ got) at put kept left (Err e) → Follows m lacked p p.state (link_account {E = E} got put reads) (Err e)
step_read_err m lacked p got put reads room at kept left (Truncated place) r finds = absurd finds
step_read_err m lacked p got put reads room at kept left ReadFault r finds = step_fault m lacked p got put reads room r finds
step_read_err m lacked p got put reads room at kept left WriteFault r finds = step_begins m p got put reads room r finds
step_read_err m lacked p got put reads room at kept left RandomFault r finds = absurd finds
step_read_err m lacked p got put reads room at kept left (Worn calls) r finds = absurd finds
step_read_err m lacked p got put reads room at kept left OutOfMemory r finds = (step_begins m p got put reads room r finds).0

-- ---- reads in the middle of a message are prompt

prompt_one : {S Q E : Type 0} (m : Machine S Q E) (p : Place S) (a : Account E) (got put : List ℕ) (room : ℕ) (r : ℕ × ℕ) (more_output : List ℕ) → p.room ≡ suc room → a.input ≡ got → a.output ≡ put ++ more_output → ReadsWaiting p.ahead got put r → IsPromptAt m p a r
prompt_one {S = S} {Q = Q} {E = E} m p a got put room r more_output size input output part = record {
  in_input = let e : length a.input ≡ length got = ap (λ (l : List ℕ). length l) input in omega (arith, part.in_got);
  in_output = let e : length a.output ≡ length put + length more_output = ap (λ (l : List ℕ). length l) output ∙ length-append put more_output in omega (arith, part.in_put);
  wrote = λ more. ap (λ (s : Session S Q E). s.output) (is more) ∙ part.waiting.wrote ∙ sym (ap (λ (l : List ℕ). take r.1 l) output ∙ take-append-le r.1 put more_output part.in_put);
  open_still = λ more. subst IsOpen (sym (ap (λ (s : Session S Q E). s.stop) (is more))) (end_is_open Q (p.ahead ++ take r.0 got));
}
  where
    is : (more : Supply E) → session_at m p a r more ≡ writes (due (p.ahead ++ take r.0 got)) (end_of_input (p.ahead ++ take r.0 got)) p.state (add (supply_of a) more)
    is more = ap (λ (l : List ℕ). session m p.room p.state (p.ahead ++ take r.0 l) (add (supply_of a) more)) input
        ∙ ap (λ (n : ℕ). session m n p.state (p.ahead ++ take r.0 got) (add (supply_of a) more)) size
        ∙ session-waits m room p.state (p.ahead ++ take r.0 got) (add (supply_of a) more) part.waiting.waits part.waiting.unfinished

pub prompt_all : {S Q E : Type 0} (m : Machine S Q E) (p : Place S) (a : Account E) (got put : List ℕ) (room : ℕ) (reads : List (ℕ × ℕ)) (more_output : List ℕ) → p.room ≡ suc room → a.input ≡ got → a.output ≡ put ++ more_output →
    AllByRecursion (ReadsWaiting p.ahead got put) reads → AllByRecursion (IsPromptAt m p a) reads
prompt_all m p a got put room [] more_output size input output all = tt
prompt_all m p a got put room (r ∷ reads) more_output size input output all =
    (prompt_one m p a got put room r more_output size input output all.0, prompt_all m p a got put room reads more_output size input output all.1)

-- what the place of the rest tells
pub none_begun : (begun : Bool) (at : ℕ) → cond begun (Some at) None ≡ None → begun ≡ false
none_begun true at e = cc
none_begun false at e = refl

pub some_begun : (begun : Bool) (at place : ℕ) → cond begun (Some at) None ≡ Some place → (begun ≡ true) × (place ≡ at)
some_begun true at place e = (refl, cc)
some_begun false at place e = cc
