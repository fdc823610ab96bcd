-- The requests of a connection that were answered, and who was admitted.
use Rattle.std.proofs.Common.{◌≡◌, inl, inr, ℕ, zero, suc, ◌+◌, Bool, true, false, List, [], ◌∷◌, ◌++◌, append-nil, length, map, sum_by, Option, Some, None, Result, Ok, Err, IfOk, refl, sym, ap, ◌∙◌, subst, arith}
use Rattle.std.specs.Io.KnownBytes.{Consumes}
use Rattle.std.specs.List.{All, flat_map}
use Rattle.std.proofs.lemmas.List.Elements.{All-head, All-tail}
use Rattle.std.proofs.lemmas.List.Sums.{sum_by-cons}
use Rattle.admission.proofs.Exact.{exactly}
use Rattle.admission.proofs.NoOther.{no_other}
use Rattle.admission.proofs.ScramRequests.{again, by_try}
use Rattle.admission.specs.Places.{AreInPlace}
use Rattle.admission.specs.Steps.{Step}
use Rattle.auth_decide.specs.Credentials.{Reads, credentials_lines}
use Rattle.auth_decide.specs.declared.credentials.RequestCredentials.{RequestCredentials}
use Rattle.connection_loop.proofs.Sessions.{asks_at, session-lacks, session-said}
use Rattle.connection_loop.specs.Account.{Account, supply_of}
use Rattle.connection_loop.specs.Machine.{Asks, Incoming, Lacks, Machine, Said, Says, Turn, turn}
use Rattle.connection_loop.specs.Results.{Tells, read_session, whole_input, whole_session}
use Rattle.connection_loop.specs.Session.{Session, Supply, admits, closed_or, due_text, refusal, session}
use Rattle.connection_loop.specs.declared.responder.Response.{Response}
use Rattle.connection_loop.specs.declared.served.Served.{Served}
use Rattle.connection_loop.specs.declared.served.ServeError.{ServeError}
use Rattle.connection_loop.specs.declared.served.ServeError.TheVariants.{Truncated, ReadFault, WriteFault, RandomFault, Worn, OutOfMemory}
use Rattle.http_wire.specs.Requests.{Front, Unfinished, Whole, Wrong, front, is_due}
use Rattle.http_wire.specs.declared.request.Request.{Request}
use Rattle.nonce_shard.proofs.CallPlaces.{calls_stand}
use Rattle.nonce_shard.specs.Laws.{Stand}
use Rattle.nonce_shard.specs.Seat.{Entry, Seat}
use Rattle.request_deciding.specs.Findings.{IsSound, calls_in, found_in}
use Rattle.request_deciding.specs.Laws.{found_in-append}
use Rattle.request_deciding.specs.Outside.{LackedBy, TablePassed, TableState}
use Rattle.request_deciding.specs.Serving.{Course, question_of}
use Rattle.request_deciding.specs.declared.events.Event.{Event}
use Rattle.request_deciding.specs.declared.events.Event.TheVariants.{Found, Behind}
use Rattle.request_deciding.specs.declared.events.Finding.{Finding}
use Rattle.request_deciding.specs.declared.events.Finding.TheVariants.{CredentialsRead, Drew, Called}
use Rattle.request_deciding.specs.declared.events.Inquiry.TheVariants.{ReadCredentials, Draw, CallTable}
use Rattle.request_deciding.specs.declared.events.Operation.{Operation}
use Rattle.request_deciding.specs.declared.events.Operation.TheVariants.{Inquire, Behind as WantBehind}
use Rattle.request_deciding.specs.declared.server.Server.{Server}
use Rattle.served_requests.proofs.Requests.{Decider, Moved, asked_each, decided_by, told_by}
use Rattle.connection_loop.proofs.Walks.{Walk, turn_uses}
use Rattle.served_requests.specs.Admissions.{AdmitsRightly, AnswersNone, AreServed, Deciding, IsAnsweredBy, IsReadOf, IsRightlyAnswered, ServedRequest, ServesRequests, events_of, steps_of}
use Rattle.served_requests.specs.Conduct.{Conduct, Follows, move_on}

-- a machine, and how it goes about its requests
pub record Kept (Q E : Type 0) : Type 0 where
  pub machine : Machine Server (Operation Q) (Event E)
  pub conduct : Conduct Q E
  pub follows : Follows machine conduct

abbrev Heard : Type 0 → Type 0 → Type 0
Heard Q E = Session Server (Operation Q) (Event E)

all_behind : {E : Type 0} (P : Finding → Type 0) (xs ys : List (Event E)) → All P (found_in (xs ++ ys)) → All P (found_in ys)
all_behind P xs ys all = rest (found_in xs) (found_in ys) (subst (λ (l : List Finding). All P l) (found_in-append xs ys) all)
  where
    rest : (l m : List Finding) → All P (l ++ m) → All P m
    rest [] m some = some
    rest (x ∷ l) m some = rest l m (All-tail P x (l ++ m) some)

-- ---- one request

-- it begins with its credentials, which are read as what its lines say
record BeginsRead {Q E : Type 0} (s : Server) (t : Incoming) (x : Decider Q E s t) (used : List (Event E)) (response : Response) (now : Server) : Type 0 where
  credentials : RequestCredentials
  behind : List (Event E)
  is : used ≡ Found (CredentialsRead (credentials_lines x.role t.request) credentials) ∷ behind
  walk : Walk x.machine s t (Found (CredentialsRead (credentials_lines x.role t.request) credentials) ∷ []) behind response now

abbrev reads_of : {Q E : Type 0} (s : Server) (t : Incoming) → Decider Q E s t → Moved Q
reads_of s t x = Asks (Inquire (ReadCredentials (credentials_lines x.role t.request))) s

begins_read : {Q E : Type 0} (s : Server) (t : Incoming) (x : Decider Q E s t) (used : List (Event E)) (response : Response) (now : Server) → Walk x.machine s t [] used response now → BeginsRead s t x used response now
begins_read {Q} {E} s t x [] response now walk =
    absurd (let no : ◌≡◌ {A = Moved Q} (reads_of s t x) (Says response now) = sym (x.goes.moves []) ∙ walk in cc)
begins_read {Q} {E} s t x (Found (CredentialsRead lines credentials) ∷ behind) response now walk =
    let both : ◌≡◌ {A = Moved Q} (reads_of s t x) (Asks (Inquire (ReadCredentials lines)) walk.0) = sym (x.goes.moves []) ∙ told_by s t x (Found (CredentialsRead lines credentials)) walk.0 _ walk.1 in
    let same : lines ≡ credentials_lines x.role t.request = cc in
    record {
      credentials = credentials;
      behind = behind;
      is = ap (λ (l : List (List ℕ)). let event : Event E = Found (CredentialsRead l credentials) in event ∷ behind) same;
      walk = subst (λ (l : List (List ℕ)). Walk x.machine s t (Found (CredentialsRead l credentials) ∷ []) behind response now) same walk.2;
    }
begins_read {Q} {E} s t x (Found (Drew words) ∷ behind) response now walk =
    absurd (let no : ◌≡◌ {A = Moved Q} (reads_of s t x) (Asks (Inquire Draw) walk.0) = sym (x.goes.moves []) ∙ told_by s t x (Found (Drew words)) walk.0 _ walk.1 in cc)
begins_read {Q} {E} s t x (Found (Called shard call r) ∷ behind) response now walk =
    absurd (let no : ◌≡◌ {A = Moved Q} (reads_of s t x) (Asks (Inquire (CallTable shard call)) walk.0) = sym (x.goes.moves []) ∙ told_by s t x (Found (Called shard call r)) walk.0 _ walk.1 in cc)
begins_read {Q} {E} s t x (Behind last ∷ behind) response now walk =
    absurd (let no : ◌≡◌ {A = Moved Q} (reads_of s t x) (Asks (WantBehind (x.want_of last)) walk.0) = sym (x.goes.moves []) ∙ told_by s t x (Behind last) walk.0 _ walk.1 in cc)

-- A request that was answered with these events: it was answered rightly, and its calls stand in place.
record IsAnswered {Q E : Type 0} (k : Kept Q E) (seat : Seat) (seen : ℕ → List Entry) (new : Seat) (s : Server) (incoming : Incoming) (used : List (Event E)) (response : Response) (now : Server) (more : List (Event E)) : Type 0 where
  request : ServedRequest E
  incoming_is : request.incoming ≡ incoming
  response_is : request.response ≡ response
  is : used ≡ events_of k.conduct.role seat.sizes request
  rightly : IsRightlyAnswered k.conduct seat.sizes s request
  same_server : now ≡ s
  then : ℕ → List Entry
  places : List (List Entry)
  stand : Stand seat then new (calls_in (found_in more)) places
  in_place : (further : List Step) → AreInPlace seat then new further → AreInPlace seat seen new (steps_of request ++ further)

-- by a decision, and a course behind it
answered_by_course : {Q E : Type 0} (k : Kept Q E) (seat : Seat) (seen : ℕ → List Entry) (new : Seat) (s : Server) (incoming : Incoming) (used : List (Event E)) (response : Response) (now : Server) (more : List (Event E)) (places : List (List Entry)) (course : Course Q E) → k.conduct.course incoming ≡ Some course
    → Walk k.machine s incoming [] used response now → All IsSound (found_in (used ++ more)) → Stand seat seen new (calls_in (found_in (used ++ more))) places → IsAnswered k seat seen new s incoming used response now more
answered_by_course {Q} {E} k seat seen new s incoming used response now more places course has walk sound stand =
    let c = k.conduct in
    let x : Decider Q E s incoming = record {
      machine = k.machine;
      role = c.role;
      want_of = c.want_of;
      course = course;
      goes = record {
        moves = λ events. k.follows.moves s incoming events ∙ ap (λ (o : Option (Course Q E)). move_on c.role (c.at_once incoming) o s incoming events) has;
        tells = k.follows.tells;
      };
      keeps = λ verdict done. k.follows.keeps course s incoming verdict done has;
    } in
    let lines = credentials_lines c.role incoming.request in
    let b = begins_read s incoming x used response now walk in
    let finding : Finding = CredentialsRead lines b.credentials in
    let event : Event E = Found finding in
    let q = question_of c.role s incoming b.credentials in
    let at : Stand seat seen new (calls_in (found_in (b.behind ++ more))) places = subst (λ (l : List (Event E)). Stand seat seen new (calls_in (found_in (l ++ more))) places) b.is stand in
    let reads : Reads lines b.credentials = All-head IsSound finding (found_in (b.behind ++ more)) (subst (λ (l : List (Event E)). All IsSound (found_in (l ++ more))) b.is sound) in
    let d = decided_by seat seen new s incoming x lines b.credentials [] b.behind response now more places at b.walk in
    let all = asked_each seat.sizes q [] d.steps d.asks in
    let decided : Deciding E = record { credentials = b.credentials; steps = d.steps; verdict = d.verdict; behind = d.behind } in
    record {
      request = record { incoming = incoming; decided = Some decided; response = response };
      incoming_is = refl;
      response_is = refl;
      is = b.is ∙ ap (λ (l : List (Event E)). event ∷ l) d.is;
      rightly = subst (λ (o : Option (Course Q E)). IsAnsweredBy c seat.sizes s incoming (Some decided) o response) (sym has) (record {
        behind = d.wanted;
        answered = d.says;
        exactly = λ space candidate well. exactly seat.sizes q space candidate well reads d.steps all d.verdict d.ends;
        by_try = by_try seat.sizes q reads d.steps all d.verdict d.ends;
        again = again seat.sizes q reads d.steps all d.verdict d.ends;
        no_other = λ user a. no_other seat.sizes q reads d.steps all d.verdict d.ends user a;
      });
      same_server = d.same_server;
      then = d.then;
      places = d.places;
      stand = d.stand;
      in_place = d.in_place;
    }

-- at once
answered_at_once : {Q E : Type 0} (k : Kept Q E) (seat : Seat) (seen : ℕ → List Entry) (new : Seat) (s : Server) (incoming : Incoming) (used : List (Event E)) (response : Response) (now : Server) (more : List (Event E)) (places : List (List Entry)) → k.conduct.course incoming ≡ None
    → Walk k.machine s incoming [] used response now → Stand seat seen new (calls_in (found_in (used ++ more))) places → IsAnswered k seat seen new s incoming used response now more
answered_at_once {Q} {E} k seat seen new s incoming [] response now more places has walk stand =
    let c = k.conduct in
    let says : ◌≡◌ {A = Moved Q} (Says (c.at_once incoming) s) (Says response now) =
    sym (k.follows.moves s incoming [] ∙ ap (λ (o : Option (Course Q E)). move_on c.role (c.at_once incoming) o s incoming []) has) ∙ walk in
    let one : response ≡ c.at_once incoming = cc in
    record {
      request = record { incoming = incoming; decided = None; response = response };
      incoming_is = refl;
      response_is = refl;
      is = refl;
      rightly = subst (λ (o : Option (Course Q E)). IsAnsweredBy c seat.sizes s incoming None o response) (sym has) one;
      same_server = cc;
      then = seen;
      places = places;
      stand = stand;
      in_place = λ further in_place. in_place;
    }
answered_at_once {Q} {E} k seat seen new s incoming (event ∷ used) response now more places has walk stand =
    let c = k.conduct in
    absurd (let no : ◌≡◌ {A = Moved Q} (Says (c.at_once incoming) s) (Asks (k.machine.ask_of event) walk.0) =
    sym (k.follows.moves s incoming [] ∙ ap (λ (o : Option (Course Q E)). move_on c.role (c.at_once incoming) o s incoming []) has) ∙ walk.1 in cc)

answered : {Q E : Type 0} (k : Kept Q E) (seat : Seat) (seen : ℕ → List Entry) (new : Seat) (s : Server) (incoming : Incoming) (used : List (Event E)) (response : Response) (now : Server) (more : List (Event E)) (places : List (List Entry))
    → Walk k.machine s incoming [] used response now → All IsSound (found_in (used ++ more)) → Stand seat seen new (calls_in (found_in (used ++ more))) places → IsAnswered k seat seen new s incoming used response now more
answered {Q} {E} k seat seen new s incoming used response now more places walk sound stand = by (k.conduct.course incoming) refl
  where
    by : (course : Option (Course Q E)) → k.conduct.course incoming ≡ course → IsAnswered k seat seen new s incoming used response now more
    by None has = answered_at_once k seat seen new s incoming used response now more places has walk stand
    by (Some course) has = answered_by_course k seat seen new s incoming used response now more places course has walk sound stand

-- ---- a session

-- what a session has answered, from some request on
record Answers {Q E : Type 0} (k : Kept Q E) (seat : Seat) (seen : ℕ → List Entry) (new : Seat) (s : Server) (input moments : List ℕ) (events : List (Event E)) (t : Heard Q E) : Type 0 where
  served : List (ServedRequest E)
  are : AreServed k.conduct seat.sizes s served (record { input = input; output = t.output; moments = moments; events = events })
  in_place : AreInPlace seat seen new (flat_map steps_of served)
  requests : t.requests ≡ length served
  admitted : t.admitted ≡ sum_by (λ r. admits r.response) served

-- none, where what is written answers none
answers_none : {Q E : Type 0} (k : Kept Q E) (seat : Seat) (seen : ℕ → List Entry) (new : Seat) (s : Server) (input moments : List ℕ) (events : List (Event E)) (t : Heard Q E) → AnswersNone t.output → t.requests ≡ 0 → t.admitted ≡ 0
    → Answers k seat seen new s input moments events t
answers_none {Q} {E} k seat seen new s input moments events t none requests admitted = record { served = []; are = none; in_place = tt; requests = requests; admitted = admitted }

due_answers_none : (waits : Bool) → AnswersNone (due_text waits)
due_answers_none true = inr (inl refl)
due_answers_none false = inl refl

abbrev supply : {E : Type 0} → List ℕ → List (Event E) → Supply (Event E)
supply moments events = record { moments = moments; events = events }

abbrev of_server : {Q E : Type 0} → Kept Q E → ℕ → Server → List ℕ → List ℕ → List (Event E) → Heard Q E
of_server k room s input moments events = session k.machine room s input (supply moments events)

-- what the session from some request on answers, with so many requests still to come
abbrev AnswersFrom : {Q E : Type 0} → Kept Q E → Seat → Seat → ℕ → Type 0
AnswersFrom {Q} {E} k seat new room = (s : Server) (input moments : List ℕ) (events : List (Event E)) (seen : ℕ → List Entry) (places : List (List Entry)) → All IsSound (found_in events)
    → Stand seat seen new (calls_in (found_in events)) places → (of_server k room s input moments events).asks ≡ map k.machine.ask_of events → Answers k seat seen new s input moments events (of_server k room s input moments events)

-- after a request that closes nothing is answered
closed_answers : {Q E : Type 0} (k : Kept Q E) (seat : Seat) (seen : ℕ → List Entry) (new : Seat) (s : Server) (closes : Bool) (room : ℕ) (input moments : List ℕ) (events : List (Event E)) (t : Heard Q E)
    → (t.asks ≡ map k.machine.ask_of events → Answers k seat seen new s input moments events t)
    → (closed_or closes room s (supply moments events) t).asks ≡ map k.machine.ask_of events → Answers k seat seen new s input moments events (closed_or closes room s (supply moments events) t)
closed_answers {Q} {E} k seat seen new s false room input moments events t later asks = later asks
closed_answers {Q} {E} k seat seen new s true zero input moments events t later asks = later asks
closed_answers {Q} {E} k seat seen new s true (suc room) input moments events t later asks = answers_none k seat seen new s input moments events (closed_or true (suc room) s (supply moments events) t) (inl refl) refl refl

-- one request more
one_more : {Q E : Type 0} (k : Kept Q E) (seat : Seat) (seen : ℕ → List Entry) (new : Seat) (s : Server) (input rest moments : List ℕ) (moment : ℕ) (used events : List (Event E)) (waits : Bool) (incoming : Incoming) (response : Response) (now : Server) (t u : Heard Q E)
    → front input ≡ Whole waits incoming.request rest → incoming.moment ≡ moment → (a : IsAnswered k seat seen new s incoming used response now events)
    → t.output ≡ (due_text waits ++ response.text) ++ u.output → t.requests ≡ 1 + u.requests → t.admitted ≡ admits response + u.admitted
    → Answers k seat a.then new s rest moments events u → Answers k seat seen new s input (moment ∷ moments) (used ++ events) t
one_more {Q} {E} k seat seen new s input rest moments moment used events waits incoming response now t u whole moment_is a output requests admitted later =
    let r = a.request in
    record {
      served = r ∷ later.served;
      are = (
        record { input = rest; output = u.output; moments = moments; events = events },
        record {
          waits = waits;
          whole = whole ∙ ap (λ (i : Incoming). Whole waits i.request rest) (sym a.incoming_is);
          wrote = output ∙ ap (λ (x : Response). (due_text waits ++ x.text) ++ u.output) (sym a.response_is);
          moment = ap (λ (n : ℕ). n ∷ moments) (sym moment_is ∙ ap (λ (i : Incoming). i.moment) (sym a.incoming_is));
          events = ap (λ (l : List (Event E)). l ++ events) a.is;
          rightly = a.rightly;
        },
        later.are,
      );
      in_place = a.in_place (flat_map steps_of later.served) later.in_place;
      requests = (let below = later.requests in omega (arith, requests, below));
      admitted = admitted ∙ ap (λ (x : Response). admits x + u.admitted) (sym a.response_is) ∙ ap (λ (n : ℕ). admits r.response + n) later.admitted
          ∙ sym (sum_by-cons (λ (x : ServedRequest E). admits x.response) r later.served);
    }

-- the next message is a request that was answered, or can't be
at_turn : {Q E : Type 0} (k : Kept Q E) (seat new : Seat) (room : ℕ) → AnswersFrom k seat new room → (s : Server) (input : List ℕ) (moment : ℕ) (moments : List ℕ) (events : List (Event E)) (seen : ℕ → List Entry) (places : List (List Entry)) (waits : Bool) (request : Request) (rest : List ℕ)
    → All IsSound (found_in events) → Stand seat seen new (calls_in (found_in events)) places → front input ≡ Whole waits request rest → (t : Turn Server (Operation Q) (Event E)) → turn k.machine events s (asks_at request room moment) [] ≡ t
    → (of_server k (suc room) s input (moment ∷ moments) events).asks ≡ map k.machine.ask_of events
    → Answers k seat seen new s input (moment ∷ moments) events (of_server k (suc room) s input (moment ∷ moments) events)
at_turn {Q} {E} k seat new room later s input moment moments events seen places waits request rest sound stand whole (Lacks lacked now asks) is same =
    let e = session-lacks k.machine room s now input moment moments events waits request rest lacked asks whole is in
    let put = ap (λ (f : Front). due_text (is_due f)) whole in
    answers_none k seat seen new s input (moment ∷ moments) events (of_server k (suc room) s input (moment ∷ moments) events)
    (subst (λ (o : List ℕ). AnswersNone o) (sym (ap (λ (x : Heard Q E). x.output) e ∙ put)) (due_answers_none waits))
    (ap (λ (x : Heard Q E). x.requests) e) (ap (λ (x : Heard Q E). x.admitted) e)
at_turn {Q} {E} k seat new room later s input moment moments events seen places waits request rest sound stand whole (Said response now asks left) is same =
    let incoming = asks_at request room moment in
    let next : Server → Heard Q E = λ server. closed_or request.closes room server (supply moments left) (of_server k room server rest moments left) in
    let e = session-said k.machine room s now input moment moments events left waits request rest response asks whole is in
    let put = ap (λ (f : Front). due_text (is_due f)) whole in
    let u = turn_uses k.machine s incoming [] events response now asks left ((next now).asks) is (sym (ap (λ (x : Heard Q E). x.asks) e) ∙ same) in
    let all : All IsSound (found_in (u.used ++ left)) = subst (λ (l : List (Event E)). All IsSound (found_in l)) u.is sound in
    let at : Stand seat seen new (calls_in (found_in (u.used ++ left))) places = subst (λ (l : List (Event E)). Stand seat seen new (calls_in (found_in l)) places) u.is stand in
    let a = answered k seat seen new s incoming u.used response now left places u.walk all at in
    let rest_asks : (next s).asks ≡ map k.machine.ask_of left = ap (λ (x : Server). (next x).asks) (sym a.same_server) ∙ u.rest in
    let below = closed_answers k seat a.then new s request.closes room rest moments left (of_server k room s rest moments left)
    (later s rest moments left a.then a.places (all_behind IsSound u.used left all) a.stand) rest_asks in
    let then = subst (λ (x : Server). Answers k seat a.then new s rest moments left (next x)) (sym a.same_server) below in
    subst (λ (l : List (Event E)). Answers k seat seen new s input (moment ∷ moments) l (of_server k (suc room) s input (moment ∷ moments) events)) (sym u.is)
    (one_more k seat seen new s input rest moments moment u.used left waits incoming response now (of_server k (suc room) s input (moment ∷ moments) events) (next now) whole refl a
    (ap (λ (x : Heard Q E). x.output) e ∙ ap (λ (l : List ℕ). (l ++ response.text) ++ (next now).output) put)
    (ap (λ (x : Heard Q E). x.requests) e) (ap (λ (x : Heard Q E). x.admitted) e) then)

at_front : {Q E : Type 0} (k : Kept Q E) (seat new : Seat) (room : ℕ) → AnswersFrom k seat new room → (s : Server) (input moments : List ℕ) (events : List (Event E)) (seen : ℕ → List Entry) (places : List (List Entry)) (f : Front) → front input ≡ f
    → All IsSound (found_in events) → Stand seat seen new (calls_in (found_in events)) places → (of_server k (suc room) s input moments events).asks ≡ map k.machine.ask_of events
    → Answers k seat seen new s input moments events (of_server k (suc room) s input moments events)
unfolding session
at_front {Q} {E} k seat new room later s input moments events seen places (Unfinished waits) is sound stand same =
    answers_none k seat seen new s input moments events (of_server k (suc room) s input moments events)
    (let none = due_answers_none waits in rw (is, session) none) (rw (is, session) refl) (rw (is, session) refl)
at_front {Q} {E} k seat new room later s input [] events seen places (Wrong status) is sound stand same =
    answers_none k seat seen new s input [] events (of_server k (suc room) s input [] events)
    (let none : AnswersNone [] = inl refl in rw (is, session) none) (rw (is, session) refl) (rw (is, session) refl)
at_front {Q} {E} k seat new room later s input (moment ∷ moments) events seen places (Wrong status) is sound stand same =
    answers_none k seat seen new s input (moment ∷ moments) events (of_server k (suc room) s input (moment ∷ moments) events)
    (let bad : AnswersNone (refusal status moment) = inr (inr (status, moment, refl)) in rw (is, session) bad) (rw (is, session) refl) (rw (is, session) refl)
at_front {Q} {E} k seat new room later s input [] events seen places (Whole waits request rest) is sound stand same =
    answers_none k seat seen new s input [] events (of_server k (suc room) s input [] events)
    (let none = due_answers_none waits in rw (is, session) none) (rw (is, session) refl) (rw (is, session) refl)
at_front {Q} {E} k seat new room later s input (moment ∷ moments) events seen places (Whole waits request rest) is sound stand same =
    at_turn k seat new room later s input moment moments events seen places waits request rest sound stand is (turn k.machine events s (asks_at request room moment) []) refl same

answers_from : {Q E : Type 0} (k : Kept Q E) (seat new : Seat) (room : ℕ) → AnswersFrom k seat new room
unfolding session
answers_from {Q} {E} k seat new zero s input moments events seen places sound stand same = answers_none k seat seen new s input moments events (of_server k zero s input moments events) (inl refl) refl refl
answers_from {Q} {E} k seat new (suc room) s input moments events seen places sound stand same =
    at_front k seat new room (answers_from k seat new room) s input moments events seen places (front input) refl sound stand same

-- ---- the connection

-- the session that an answer speaks of: its input, its asks and its output
record Speaks {Q E : Type 0} (k : Kept Q E) (s : Server) (left' : Option (List ℕ)) (a : Account (Event E)) (result : Result Served ServeError) : Type 0 where
  input : List ℕ
  read : IsReadOf a.input left' input
  asks : (session k.machine 4096 s input (supply_of a)).asks ≡ map k.machine.ask_of a.events
  written : (rest : List ℕ) × ((session k.machine 4096 s input (supply_of a)).output ≡ a.output ++ rest)
  requests : IfOk result (λ x. x.requests ≡ (session k.machine 4096 s input (supply_of a)).requests)
  admitted : IfOk result (λ x. x.admitted ≡ (session k.machine 4096 s input (supply_of a)).admitted)

whole_is_read : {E : Type 0} (left left' : Option (List ℕ)) (a : Account (Event E)) → Consumes left left' a.input → IsReadOf a.input left' (whole_input left a)
whole_is_read None left' a c = inl refl
whole_is_read (Some input) None a c = absurd c
whole_is_read (Some input) (Some more) a c = inr (more, refl, c)

no_rest : (output put : List ℕ) → output ≡ put → (rest : List ℕ) × (output ≡ put ++ rest)
no_rest output put e = ([], e ∙ sym (append-nil put))

speaks : {Q E : Type 0} (k : Kept Q E) (u v : TableState) (s now : Server) (left left' : Option (List ℕ)) (a : Account (Event E)) (result : Result Served ServeError) → Consumes left left' a.input
    → Tells k.machine (LackedBy u v) s now left left' a result → Speaks k s left' a result
speaks k u v s now left left' a (Ok served) c tells = record {
  input = whole_input left a;
  read = whole_is_read left left' a c;
  asks = tells.completes.asks;
  written = no_rest (whole_session k.machine s left a).output a.output tells.completes.output;
  requests = tells.requests;
  admitted = tells.admitted;
}
speaks k u v s now left left' a (Err (Truncated at)) c tells = record {
  input = whole_input left a;
  read = whole_is_read left left' a c;
  asks = tells.completes.asks;
  written = no_rest (whole_session k.machine s left a).output a.output tells.completes.output;
  requests = tt;
  admitted = tt;
}
speaks k u v s now left left' a (Err ReadFault) c tells = record {
  input = a.input;
  read = inl refl;
  asks = tells.2.asks;
  written = no_rest (read_session k.machine s a).output a.output tells.2.output;
  requests = tt;
  admitted = tt;
}
speaks k u v s now left left' a (Err WriteFault) c tells = record { input = a.input; read = inl refl; asks = tells.0.asks; written = tells.0.output; requests = tt; admitted = tt }
speaks k u v s now left left' a (Err RandomFault) c tells = record {
  input = a.input;
  read = inl refl;
  asks = tells.2.asks;
  written = no_rest (read_session k.machine s a).output a.output tells.2.output;
  requests = tt;
  admitted = tt;
}
speaks k u v s now left left' a (Err (Worn calls)) c tells = record {
  input = a.input;
  read = inl refl;
  asks = tells.2.asks;
  written = no_rest (read_session k.machine s a).output a.output tells.2.output;
  requests = tt;
  admitted = tt;
}
speaks k u v s now left left' a (Err OutOfMemory) c tells = record { input = a.input; read = inl refl; asks = tells.asks; written = tells.output; requests = tt; admitted = tt }

if_same : (result : Result Served ServeError) (f : Served → ℕ) (m n : ℕ) → m ≡ n → IfOk result (λ x. f x ≡ m) → IfOk result (λ x. f x ≡ n)
if_same (Ok served) f m n e is = is ∙ e
if_same (Err error) f m n e is = tt

-- Each request of a session was answered rightly.
pub serves_requests : {Q E : Type 0} (k : Kept Q E) (before now : TableState) (left left' : Option (List ℕ)) (s s' : Server) (a : Account (Event E)) (result : Result Served ServeError) → Consumes left left' a.input → TablePassed before now (found_in a.events)
    → Tells k.machine (LackedBy before now) s s' left left' a result → ServesRequests k.conduct before.seat now.seat left' s a result
serves_requests k before now left left' s s' a result c passed tells =
    let seat = before.seat in
    let new = now.seat in
    let spoken = speaks k before now s s' left left' a result c tells in
    let stand = calls_stand seat new (calls_in (found_in a.events)) passed.within passed.calls in
    let t = answers_from k seat new 4096 s spoken.input a.moments a.events seat.seen stand.0 passed.sound stand.1 spoken.asks in
    record {
      served = t.served;
      input = spoken.input;
      read = spoken.read;
      output = (session k.machine 4096 s spoken.input (supply_of a)).output;
      written = spoken.written;
      are = t.are;
      in_place = t.in_place;
      requests = if_same result (λ x. x.requests) (session k.machine 4096 s spoken.input (supply_of a)).requests (length t.served) t.requests spoken.requests;
      admitted = if_same result (λ x. x.admitted) (session k.machine 4096 s spoken.input (supply_of a)).admitted (sum_by (λ r. admits r.response) t.served) t.admitted spoken.admitted;
    }

pub admits_rightly : {Q E : Type 0} → AdmitsRightly Q E
admits_rightly m c follows before now left left' s s' a result consumed passed tells =
    serves_requests (record { machine = m; conduct = c; follows = follows }) before now left left' s s' a result consumed passed tells
