-- What was done for a request that was decided, as steps of its decision and what followed its verdict.
use Rattle.std.proofs.Common.{◌≡◌, ℕ, List, [], ◌∷◌, ◌++◌, append_assoc, map, refl, sym, ap, ◌∙◌, subst}
use Rattle.std.proofs.lemmas.List.{append-nil, map-append}
use Rattle.admission.specs.Places.{AreInPlace}
use Rattle.admission.specs.Steps.{Step, Drew as DrewStep, Called as CalledStep, answer_of, answers_of, ask_of}
use Rattle.auth_decide.specs.Asks.{asked}
use Rattle.auth_decide.specs.Stages.{Answer, Question}
use Rattle.auth_decide.specs.declared.credentials.RequestCredentials.{RequestCredentials}
use Rattle.auth_decide.specs.declared.verdict.Ask.{Ask}
use Rattle.auth_decide.specs.declared.verdict.Ask.TheVariants as ask
use Rattle.auth_decide.specs.declared.verdict.Verdict.{Verdict}
use Rattle.auth_grammar.specs.declared.items.Role.{Role}
use Rattle.connection_loop.specs.Machine.{Asks, Incoming, Machine, Move, Says}
use Rattle.connection_loop.specs.declared.responder.Response.{Response}
use Rattle.nonce_shard.specs.Laws.{Stand, StandsBehind, with_list}
use Rattle.nonce_shard.specs.Seat.{Entry, Seat, calls_of}
use Rattle.nonce_shard.specs.declared.calls.Call.{Call}
use Rattle.nonce_shard.specs.declared.calls.Reply.{Reply}
use Rattle.nonce_shard.specs.declared.sizes.Sizes.{Sizes}
use Rattle.request_deciding.proofs.Machines.{GoesBy, behind_events, found_events, next_after}
use Rattle.request_deciding.specs.Deciding.{AreWanted}
use Rattle.request_deciding.specs.Findings.{answers_in, calls_in, found_in, operation_of}
use Rattle.request_deciding.specs.Serving.{Concludes, Course, lifted, move_by, next_by_ask, next_in, question_of}
use Rattle.request_deciding.specs.declared.events.Event.{Event}
use Rattle.request_deciding.specs.declared.events.Event.TheVariants.{Found, Behind}
use Rattle.request_deciding.specs.declared.events.Finding.{Finding}
use Rattle.request_deciding.specs.declared.events.Finding.TheVariants.{CredentialsRead, Drew, Called}
use Rattle.request_deciding.specs.declared.events.Inquiry.TheVariants.{ReadCredentials, Draw, CallTable}
use Rattle.request_deciding.specs.declared.events.Operation.{Operation}
use Rattle.request_deciding.specs.declared.events.Operation.TheVariants.{Inquire, Behind as WantBehind}
use Rattle.request_deciding.specs.declared.server.Server.{Server}
use Rattle.connection_loop.proofs.Walks.{Walk}
use Rattle.served_requests.specs.Admissions.{finding_of}
use Rattle.served_requests.specs.Conduct.{server_in}

abbrev pub Moved : Type 0 → Type 0
Moved Q = Move (Operation Q) Server

-- a machine that decides a request first, and then goes this course
pub record Decider (Q E : Type 0) (s : Server) (t : Incoming) : Type 0 where
  pub machine : Machine Server (Operation Q) (Event E)
  pub role : Role
  pub want_of : E → Q
  pub course : Course Q E
  pub goes : GoesBy machine role course want_of s t
  pub keeps : (verdict : Verdict) (done : List E) → server_in (course s t verdict done) ≡ s

-- the move that follows these events
abbrev pub next_of : {Q E : Type 0} (s : Server) (t : Incoming) → Decider Q E s t → List (Event E) → Moved Q
next_of s t x events = x.machine.asked s t events

-- what a decision asks
abbrev pub asked_by : {Q E : Type 0} (s : Server) (t : Incoming) → Decider Q E s t → RequestCredentials → Sizes → List Step → Ask
asked_by s t x credentials sizes done = asked (question_of x.role s t credentials) (answers_of sizes done)

-- ---- answers

answers_in-steps : (sizes : Sizes) (steps : List Step) → answers_in (map (finding_of sizes) steps) ≡ answers_of sizes steps
answers_in-steps sizes [] = refl
answers_in-steps sizes (DrewStep words ∷ steps) = ap (λ (l : List Answer). answer_of sizes (DrewStep words) ∷ l) (answers_in-steps sizes steps)
answers_in-steps sizes (CalledStep shard before call ∷ steps) = ap (λ (l : List Answer). answer_of sizes (CalledStep shard before call) ∷ l) (answers_in-steps sizes steps)

-- ---- moves

-- what was found, once the credentials were read and these steps made
abbrev pub findings : List (List ℕ) → RequestCredentials → Sizes → List Step → List Finding
findings lines credentials sizes done = CredentialsRead lines credentials ∷ map (finding_of sizes) done

abbrev pub done_for : (E : Type 0) → List (List ℕ) → RequestCredentials → Sizes → List Step → List (Event E)
done_for E lines credentials sizes done = found_events {E = E} (findings lines credentials sizes done)

next_at : {Q E : Type 0} (s : Server) (t : Incoming) (x : Decider Q E s t) (sizes : Sizes) (lines : List (List ℕ)) (credentials : RequestCredentials) (done : List Step) (next : Ask)
    → asked_by s t x credentials sizes done ≡ next → next_in x.role s t (findings lines credentials sizes done) ≡ next_by_ask next
next_at s t x sizes lines credentials done next is =
    let q = question_of x.role s t credentials in
    ap (λ (l : List Answer). next_by_ask (asked q l)) (answers_in-steps sizes done) ∙ ap next_by_ask is

moves_now : {Q E : Type 0} (s : Server) (t : Incoming) (x : Decider Q E s t) (sizes : Sizes) (lines : List (List ℕ)) (credentials : RequestCredentials) (done : List Step) (next : Ask)
    → asked_by s t x credentials sizes done ≡ next → next_of s t x (done_for E lines credentials sizes done) ≡ move_by x.course s t (next_by_ask next) []
moves_now {Q} {E} s t x sizes lines credentials done next is =
    ap (λ (l : List (Event E)). next_of s t x l) (sym (append-nil (done_for E lines credentials sizes done)))
    ∙ next_after x.machine x.role x.course x.want_of s t x.goes (findings lines credentials sizes done) [] (next_by_ask next) (next_at s t x sizes lines credentials done next is)

-- ---- behind the verdict

said_behind : {Q : Type 0} (move : Move Q Server) (response : Response) (now : Server) → ◌≡◌ {A = Moved Q} (lifted move) (Says response now) → move ≡ Says response now
said_behind {Q} (Says other s) response now is =
    let same : ◌≡◌ {A = Moved Q} (Says other s) (Says response now) = is in
    let one : other ≡ response = cc in
    let at : s ≡ now = cc in
    ap (λ (r : Response). let move : Move Q Server = Says r s in move) one ∙ ap (λ (x : Server). let move : Move Q Server = Says response x in move) at
said_behind {Q} (Asks wanted s) response now is = absurd (let no : ◌≡◌ {A = Moved Q} (Asks (WantBehind wanted) s) (Says response now) = is in cc)

-- what is done behind the verdict is what was wanted there
record IsBehind {Q E : Type 0} (want_of : E → Q) (move : Move Q Server) (event : Event E) (now : Server) : Type 0 where
  last : E
  is : event ≡ Behind last
  asks : move ≡ Asks (want_of last) now

asked_behind : {Q E : Type 0} (want_of : E → Q) (move : Move Q Server) (event : Event E) (now : Server) → ◌≡◌ {A = Moved Q} (lifted move) (Asks (operation_of want_of event) now) → IsBehind want_of move event now
asked_behind {Q} want_of (Says other s) event now is = absurd (let no : ◌≡◌ {A = Moved Q} (Says other s) (Asks (operation_of want_of event) now) = is in cc)
asked_behind {Q} want_of (Asks wanted s) (Behind last) now is =
    let same : ◌≡◌ {A = Moved Q} (Asks (WantBehind wanted) s) (Asks (WantBehind (want_of last)) now) = is in
    let one : wanted ≡ want_of last = cc in
    let at : s ≡ now = cc in
    record {
      last = last;
      is = refl;
      asks = ap (λ (o : Q). let move : Move Q Server = Asks o s in move) one ∙ ap (λ (x : Server). let move : Move Q Server = Asks (want_of last) x in move) at;
    }
asked_behind {Q} want_of (Asks wanted s) (Found (CredentialsRead lines credentials)) now is = absurd (let no : ◌≡◌ {A = Moved Q} (Asks (WantBehind wanted) s) (Asks (Inquire (ReadCredentials lines)) now) = is in cc)
asked_behind {Q} want_of (Asks wanted s) (Found (Drew words)) now is = absurd (let no : ◌≡◌ {A = Moved Q} (Asks (WantBehind wanted) s) (Asks (Inquire Draw) now) = is in cc)
asked_behind {Q} want_of (Asks wanted s) (Found (Called shard call r)) now is = absurd (let no : ◌≡◌ {A = Moved Q} (Asks (WantBehind wanted) s) (Asks (Inquire (CallTable shard call)) now) = is in cc)

-- what follows a verdict
record IsFollowed {Q E : Type 0} (s : Server) (t : Incoming) (x : Decider Q E s t) (verdict : Verdict) (done : List E) (used : List (Event E)) (response : Response) (now : Server) : Type 0 where
  behind : List E
  is : used ≡ behind_events behind
  wanted : AreWanted x.course x.want_of s t verdict done behind
  says : x.course s t verdict (done ++ behind) ≡ Says response s
  same_server : now ≡ s

followed : {Q E : Type 0} (s : Server) (t : Incoming) (x : Decider Q E s t) (found : List Finding) (verdict : Verdict) → next_in x.role s t found ≡ Concludes verdict → (done : List E) (used : List (Event E)) (response : Response) (now : Server)
    → Walk x.machine s t (found_events found ++ behind_events done) used response now → IsFollowed s t x verdict done used response now
followed {Q} {E} s t x found verdict is done [] response now walk =
    let goes = next_after x.machine x.role x.course x.want_of s t x.goes found done (Concludes verdict) is in
    let says = said_behind (x.course s t verdict done) response now (sym goes ∙ walk) in
    let same : now ≡ s = sym (ap (λ (m : Move Q Server). server_in m) says) ∙ x.keeps verdict done in
    record {
      behind = [];
      is = refl;
      wanted = tt;
      says = ap (λ (l : List E). x.course s t verdict l) (append-nil done) ∙ says ∙ ap (λ (n : Server). let move : Move Q Server = Says response n in move) same;
      same_server = same;
    }
followed {Q} {E} s t x found verdict is done (event ∷ used) response now walk =
    let goes = next_after x.machine x.role x.course x.want_of s t x.goes found done (Concludes verdict) is in
    let told = ap (λ (o : Operation Q). let move : Moved Q = Asks o walk.0 in move) (x.goes.tells event) in
    let b = asked_behind x.want_of (x.course s t verdict done) event walk.0 (sym goes ∙ walk.1 ∙ told) in
    let same : walk.0 ≡ s = sym (ap (λ (m : Move Q Server). server_in m) b.asks) ∙ x.keeps verdict done in
    let on : (found_events found ++ behind_events done) ++ event ∷ [] ≡ found_events found ++ behind_events (done ++ b.last ∷ []) =
    ap (λ (e : Event E). (found_events found ++ behind_events done) ++ e ∷ []) b.is
    ∙ append_assoc (found_events found) (behind_events done) (Behind b.last ∷ [])
    ∙ ap (λ (l : List (Event E)). found_events found ++ l) (sym (map-append {B = Event E} Behind done (b.last ∷ []))) in
    let f = followed s t x found verdict is (done ++ b.last ∷ []) used response now (subst (λ (l : List (Event E)). Walk x.machine s t l used response now) on walk.2) in
    record {
      behind = b.last ∷ f.behind;
      is = ap (λ (e : Event E). e ∷ used) b.is ∙ ap (λ (l : List (Event E)). Behind b.last ∷ l) f.is;
      wanted = (b.asks ∙ ap (λ (n : Server). let move : Move Q Server = Asks (x.want_of b.last) n in move) same, f.wanted);
      says = ap (λ (l : List E). x.course s t verdict l) (sym (append_assoc done (b.last ∷ []) f.behind)) ∙ f.says;
      same_server = f.same_server;
    }

-- no finding is among it
found_behind : {E : Type 0} (behind : List E) (more : List (Event E)) → found_in (behind_events behind ++ more) ≡ found_in more
found_behind [] more = refl
found_behind (event ∷ behind) more = found_behind behind more

-- ---- a decision and what follows it

-- each step is asked after those before it
abbrev pub AskedFrom : Sizes → Question → List Step → List Step → Type 0
AskedFrom sizes q done [] = Unit {0}
AskedFrom sizes q done (step ∷ steps) = (asked q (answers_of sizes done) ≡ ask_of step) × AskedFrom sizes q (done ++ step ∷ []) steps

pub asked_each : (sizes : Sizes) (q : Question) (done steps : List Step) → AskedFrom sizes q done steps → (before : List Step) (step : Step) (after : List Step) → steps ≡ before ++ step ∷ after
    → asked q (answers_of sizes (done ++ before)) ≡ ask_of step
asked_each sizes q done [] from [] step after is = absurd (let no : [] ≡ step ∷ after = is in cc)
asked_each sizes q done [] from (b ∷ before) step after is = absurd (let no : [] ≡ b ∷ (before ++ step ∷ after) = is in cc)
asked_each sizes q done (x ∷ steps) from [] step after is =
    let same : x ∷ steps ≡ step ∷ after = is in
    let first : x ≡ step = cc in
    ap (λ (l : List Step). asked q (answers_of sizes l)) (append-nil done) ∙ from.0 ∙ ap ask_of first
asked_each sizes q done (x ∷ steps) from (b ∷ before) step after is =
    let same : x ∷ steps ≡ b ∷ (before ++ step ∷ after) = is in
    let first : x ≡ b = cc in
    let rest : steps ≡ before ++ step ∷ after = cc in
    ap (λ (y : Step). asked q (answers_of sizes (done ++ y ∷ before))) (sym first)
    ∙ ap (λ (l : List Step). asked q (answers_of sizes l)) (sym (append_assoc done (x ∷ []) before))
    ∙ asked_each sizes q (done ++ x ∷ []) steps from.1 before step after rest

-- what was used for a request, from these steps on: more steps, and what followed
pub record IsDecidedBy {Q E : Type 0} (seat : Seat) (seen : ℕ → List Entry) (new : Seat) (s : Server) (t : Incoming) (x : Decider Q E s t) (credentials : RequestCredentials) (done : List Step) (used : List (Event E)) (response : Response) (now : Server) (more : List (Event E)) : Type 0 where
  pub steps : List Step
  pub verdict : Verdict
  pub behind : List E
  pub is : used ≡ found_events (map (finding_of seat.sizes) steps) ++ behind_events behind
  pub asks : AskedFrom seat.sizes (question_of x.role s t credentials) done steps
  pub ends : asked_by s t x credentials seat.sizes (done ++ steps) ≡ ask.Verdict verdict
  pub wanted : AreWanted x.course x.want_of s t verdict [] behind
  pub says : x.course s t verdict behind ≡ Says response s
  pub same_server : now ≡ s
  pub then : ℕ → List Entry
  pub places : List (List Entry)
  pub stand : Stand seat then new (calls_in (found_in more)) places
  pub in_place : (further : List Step) → AreInPlace seat then new further → AreInPlace seat seen new (steps ++ further)

-- nothing more is asked
at_verdict : {Q E : Type 0} (seat : Seat) (seen : ℕ → List Entry) (new : Seat) (s : Server) (t : Incoming) (x : Decider Q E s t) (lines : List (List ℕ)) (credentials : RequestCredentials) (done : List Step) (used : List (Event E)) (response : Response) (now : Server) (more : List (Event E)) (places : List (List Entry)) (verdict : Verdict)
    → asked_by s t x credentials seat.sizes done ≡ ask.Verdict verdict → Walk x.machine s t (done_for E lines credentials seat.sizes done) used response now → Stand seat seen new (calls_in (found_in (used ++ more))) places
    → IsDecidedBy seat seen new s t x credentials done used response now more
at_verdict {Q} {E} seat seen new s t x lines credentials done used response now more places verdict is walk stand =
    let start = done_for E lines credentials seat.sizes done in
    let f = followed s t x (findings lines credentials seat.sizes done) verdict (next_at s t x seat.sizes lines credentials done (ask.Verdict verdict) is) [] used response now
    (subst (λ (l : List (Event E)). Walk x.machine s t l used response now) (sym (append-nil start)) walk) in
    record {
      steps = [];
      verdict = verdict;
      behind = f.behind;
      is = f.is;
      asks = tt;
      ends = ap (λ (l : List Step). asked_by s t x credentials seat.sizes l) (append-nil done) ∙ is;
      wanted = f.wanted;
      says = f.says;
      same_server = f.same_server;
      then = seen;
      places = places;
      stand = subst (λ (l : List Finding). Stand seat seen new (calls_in l) places) (ap (λ (l : List (Event E)). found_in (l ++ more)) f.is ∙ found_behind f.behind more) stand;
      in_place = λ further in_place. in_place;
    }

-- ---- one more step

-- what an event of an inquiry is
drew_of : {Q E : Type 0} (want_of : E → Q) (event : Event E) (now s : Server) → ◌≡◌ {A = Moved Q} (Asks (Inquire Draw) s) (Asks (operation_of want_of event) now) → (words : List ℕ) × (event ≡ Found (Drew words))
drew_of want_of (Found (Drew words)) now s e = (words, refl)
drew_of {Q} want_of (Found (CredentialsRead lines credentials)) now s e = absurd (let no : ◌≡◌ {A = Moved Q} (Asks (Inquire Draw) s) (Asks (Inquire (ReadCredentials lines)) now) = e in cc)
drew_of {Q} want_of (Found (Called shard call r)) now s e = absurd (let no : ◌≡◌ {A = Moved Q} (Asks (Inquire Draw) s) (Asks (Inquire (CallTable shard call)) now) = e in cc)
drew_of {Q} want_of (Behind last) now s e = absurd (let no : ◌≡◌ {A = Moved Q} (Asks (Inquire Draw) s) (Asks (WantBehind (want_of last)) now) = e in cc)

called_of : {Q E : Type 0} (want_of : E → Q) (event : Event E) (shard : ℕ) (call : Call) (now s : Server) → ◌≡◌ {A = Moved Q} (Asks (Inquire (CallTable shard call)) s) (Asks (operation_of want_of event) now) → (r : Reply) × (event ≡ Found (Called shard call r))
called_of {Q} {E} want_of (Found (Called shard' call' r)) shard call now s e =
    let same : ◌≡◌ {A = Moved Q} (Asks (Inquire (CallTable shard call)) s) (Asks (Inquire (CallTable shard' call')) now) = e in
    let one : shard' ≡ shard = cc in
    let other : call' ≡ call = cc in
    (r, ap (λ (n : ℕ). let event : Event E = Found (Called n call' r) in event) one ∙ ap (λ (c : Call). let event : Event E = Found (Called shard c r) in event) other)
called_of {Q} want_of (Found (CredentialsRead lines credentials)) shard call now s e = absurd (let no : ◌≡◌ {A = Moved Q} (Asks (Inquire (CallTable shard call)) s) (Asks (Inquire (ReadCredentials lines)) now) = e in cc)
called_of {Q} want_of (Found (Drew words)) shard call now s e = absurd (let no : ◌≡◌ {A = Moved Q} (Asks (Inquire (CallTable shard call)) s) (Asks (Inquire Draw) now) = e in cc)
called_of {Q} want_of (Behind last) shard call now s e = absurd (let no : ◌≡◌ {A = Moved Q} (Asks (Inquire (CallTable shard call)) s) (Asks (WantBehind (want_of last)) now) = e in cc)

-- the same, as a walk has it
pub told_by : {Q E : Type 0} (s : Server) (t : Incoming) (x : Decider Q E s t) (event : Event E) (now : Server) (move : Moved Q) → move ≡ Asks (x.machine.ask_of event) now → move ≡ Asks (operation_of x.want_of event) now
told_by {Q} s t x event now move is = is ∙ ap (λ (o : Operation Q). let move : Moved Q = Asks o now in move) (x.goes.tells event)

-- a decision that went on with a step
with_step : {Q E : Type 0} (seat : Seat) (seen between : ℕ → List Entry) (new : Seat) (s : Server) (t : Incoming) (x : Decider Q E s t) (credentials : RequestCredentials) (done : List Step) (step : Step) (used : List (Event E)) (response : Response) (now : Server) (more : List (Event E))
    → asked_by s t x credentials seat.sizes done ≡ ask_of step
    → ((further : List Step) → AreInPlace seat between new further → AreInPlace seat seen new (step ∷ further))
    → IsDecidedBy seat between new s t x credentials (done ++ step ∷ []) used response now more
    → IsDecidedBy seat seen new s t x credentials done (Found (finding_of seat.sizes step) ∷ used) response now more
with_step {Q} {E} seat seen between new s t x credentials done step used response now more asks place d = record {
  steps = step ∷ d.steps;
  verdict = d.verdict;
  behind = d.behind;
  is = ap (λ (l : List (Event E)). Found (finding_of seat.sizes step) ∷ l) d.is;
  asks = (asks, d.asks);
  ends = ap (λ (l : List Step). asked_by s t x credentials seat.sizes l) (sym (append_assoc done (step ∷ []) d.steps)) ∙ d.ends;
  wanted = d.wanted;
  says = d.says;
  same_server = d.same_server;
  then = d.then;
  places = d.places;
  stand = d.stand;
  in_place = λ further in_place. place (d.steps ++ further) (d.in_place further in_place);
}

-- the walk behind one more step
walk_on : {Q E : Type 0} (seat : Seat) (s : Server) (t : Incoming) (x : Decider Q E s t) (lines : List (List ℕ)) (credentials : RequestCredentials) (done : List Step) (step : Step) (event : Event E) (used : List (Event E)) (response : Response) (now : Server)
    → event ≡ Found (finding_of seat.sizes step) → Walk x.machine s t (done_for E lines credentials seat.sizes done ++ event ∷ []) used response now
    → Walk x.machine s t (done_for E lines credentials seat.sizes (done ++ step ∷ [])) used response now
walk_on {Q} {E} seat s t x lines credentials done step event used response now is walk =
    let found = map (finding_of seat.sizes) done in
    let events : List (Event E) = found_events found in
    let same : events ++ event ∷ [] ≡ found_events (map (finding_of seat.sizes) (done ++ step ∷ [])) =
    ap (λ (e : Event E). events ++ e ∷ []) is
    ∙ sym (map-append {B = Event E} Found found (finding_of seat.sizes step ∷ []))
    ∙ ap (λ (l : List Finding). found_events {E = E} l) (sym (map-append (finding_of seat.sizes) done (step ∷ []))) in
    subst (λ (l : List (Event E)). Walk x.machine s t (Found (CredentialsRead lines credentials) ∷ l) used response now) same walk

-- a call stands where its place says
called_step : (seat : Seat) (seen : ℕ → List Entry) (new : Seat) (shard : ℕ) (call : Call) (r : Reply) (past : List Entry)
    → StandsBehind seat (seen shard) (new.seen shard) (record { shard = shard; call = call; reply = r }) past
    → (Called shard call r ≡ finding_of seat.sizes (CalledStep shard (calls_of past) call))
    × ((further : List Step) → AreInPlace seat (with_list seen shard (past ++ (seat.owner, call) ∷ [])) new further → AreInPlace seat seen new (CalledStep shard (calls_of past) call ∷ further))
called_step seat seen new shard call r past stands = (
  ap (λ (x : Reply). Called shard call x) stands.replies,
  λ further in_place. (
    past,
    refl,
    record { others = stands.others; later = stands.later; begins = stands.begins; goes_on = stands.goes_on; replies = refl },
    in_place,
  ),
)

-- ---- the whole of a decision

abbrev Walks : {Q E : Type 0} → Seat → (ℕ → List Entry) → Seat → (s : Server) (t : Incoming) → Decider Q E s t → List (List ℕ) → RequestCredentials → List Step → List (Event E) → Response → Server → List (Event E) → Type 0
Walks {E = E} seat seen new s t x lines credentials done used response now more = (places : List (List Entry)) → Stand seat seen new (calls_in (found_in (used ++ more))) places
    → Walk x.machine s t (done_for E lines credentials seat.sizes done) used response now → IsDecidedBy seat seen new s t x credentials done used response now more

after_draw : {Q E : Type 0} (seat : Seat) (seen : ℕ → List Entry) (new : Seat) (s : Server) (t : Incoming) (x : Decider Q E s t) (lines : List (List ℕ)) (credentials : RequestCredentials) (done : List Step) (event : Event E) (used : List (Event E)) (response : Response) (now : Server) (more : List (Event E)) (words : List ℕ)
    → asked_by s t x credentials seat.sizes done ≡ ask.Draw → event ≡ Found (Drew words)
    → Walks seat seen new s t x lines credentials (done ++ DrewStep words ∷ []) used response now more → Walks seat seen new s t x lines credentials done (event ∷ used) response now more
after_draw {Q} {E} seat seen new s t x lines credentials done event used response now more words is same later places stand walk =
    let D : Event E → Type 0 = λ e. IsDecidedBy seat seen new s t x credentials done (e ∷ used) response now more in
    let below : Stand seat seen new (calls_in (found_in (used ++ more))) places = subst (λ (e : Event E). Stand seat seen new (calls_in (found_in (e ∷ (used ++ more)))) places) same stand in
    subst D (sym same) (with_step seat seen seen new s t x credentials done (DrewStep words) used response now more is (λ further in_place. in_place)
    (later places below (walk_on seat s t x lines credentials done (DrewStep words) event used response now same walk.2)))

after_call : {Q E : Type 0} (seat : Seat) (seen : ℕ → List Entry) (new : Seat) (s : Server) (t : Incoming) (x : Decider Q E s t) (lines : List (List ℕ)) (credentials : RequestCredentials) (done : List Step) (event : Event E) (used : List (Event E)) (response : Response) (now : Server) (more : List (Event E)) (shard : ℕ) (call : Call) (r : Reply)
    → asked_by s t x credentials seat.sizes done ≡ ask.Table shard call → event ≡ Found (Called shard call r)
    → ((then : ℕ → List Entry) (step : Step) → Walks seat then new s t x lines credentials (done ++ step ∷ []) used response now more) → Walks seat seen new s t x lines credentials done (event ∷ used) response now more
after_call {Q} {E} seat seen new s t x lines credentials done event used response now more shard call r is same later [] stand walk =
    absurd (let none : Stand seat seen new (record { shard = shard; call = call; reply = r } ∷ calls_in (found_in (used ++ more))) [] = subst (λ (e : Event E). Stand seat seen new (calls_in (found_in (e ∷ (used ++ more)))) []) same stand in none)
after_call {Q} {E} seat seen new s t x lines credentials done event used response now more shard call r is same later (past ∷ places) stand walk =
    let D : Event E → Type 0 = λ e. IsDecidedBy seat seen new s t x credentials done (e ∷ used) response now more in
    let both : Stand seat seen new (record { shard = shard; call = call; reply = r } ∷ calls_in (found_in (used ++ more))) (past ∷ places) =
    subst (λ (e : Event E). Stand seat seen new (calls_in (found_in (e ∷ (used ++ more)))) (past ∷ places)) same stand in
    let step : Step = CalledStep shard (calls_of past) call in
    let then : ℕ → List Entry = with_list seen shard (past ++ (seat.owner, call) ∷ []) in
    let c = called_step seat seen new shard call r past both.0 in
    let event_is : event ≡ Found (finding_of seat.sizes step) = same ∙ ap (λ (f : Finding). let made : Event E = Found f in made) c.0 in
    subst D (sym event_is) (with_step seat seen then new s t x credentials done step used response now more is c.1
    (later then step places both.1 (walk_on seat s t x lines credentials done step event used response now event_is walk.2)))

by_ask : {Q E : Type 0} (seat : Seat) (seen : ℕ → List Entry) (new : Seat) (s : Server) (t : Incoming) (x : Decider Q E s t) (lines : List (List ℕ)) (credentials : RequestCredentials) (done : List Step) (event : Event E) (used : List (Event E)) (response : Response) (now : Server) (more : List (Event E)) (next : Ask)
    → asked_by s t x credentials seat.sizes done ≡ next
    → ((then : ℕ → List Entry) (step : Step) → Walks seat then new s t x lines credentials (done ++ step ∷ []) used response now more) → Walks seat seen new s t x lines credentials done (event ∷ used) response now more
by_ask seat seen new s t x lines credentials done event used response now more ask.Draw is later places stand walk =
    let d = drew_of x.want_of event walk.0 s (told_by s t x event walk.0 _ (sym (moves_now s t x seat.sizes lines credentials done ask.Draw is) ∙ walk.1)) in
    after_draw seat seen new s t x lines credentials done event used response now more d.0 is d.1 (later seen (DrewStep d.0)) places stand walk
by_ask seat seen new s t x lines credentials done event used response now more (ask.Table shard call) is later places stand walk =
    let d = called_of x.want_of event shard call walk.0 s (told_by s t x event walk.0 _ (sym (moves_now s t x seat.sizes lines credentials done (ask.Table shard call) is) ∙ walk.1)) in
    after_call seat seen new s t x lines credentials done event used response now more shard call d.0 is d.1 later places stand walk
by_ask seat seen new s t x lines credentials done event used response now more (ask.Verdict verdict) is later places stand walk =
    at_verdict seat seen new s t x lines credentials done (event ∷ used) response now more places verdict is walk stand

ends_by : {Q E : Type 0} (seat : Seat) (seen : ℕ → List Entry) (new : Seat) (s : Server) (t : Incoming) (x : Decider Q E s t) (lines : List (List ℕ)) (credentials : RequestCredentials) (done : List Step) (response : Response) (now : Server) (more : List (Event E)) (next : Ask)
    → asked_by s t x credentials seat.sizes done ≡ next → Walks seat seen new s t x lines credentials done [] response now more
ends_by {Q} seat seen new s t x lines credentials done response now more ask.Draw is places stand walk =
    absurd (let no : ◌≡◌ {A = Moved Q} (Asks (Inquire Draw) s) (Says response now) = sym (moves_now s t x seat.sizes lines credentials done ask.Draw is) ∙ walk in cc)
ends_by {Q} seat seen new s t x lines credentials done response now more (ask.Table shard call) is places stand walk =
    absurd (let no : ◌≡◌ {A = Moved Q} (Asks (Inquire (CallTable shard call)) s) (Says response now) = sym (moves_now s t x seat.sizes lines credentials done (ask.Table shard call) is) ∙ walk in cc)
ends_by seat seen new s t x lines credentials done response now more (ask.Verdict verdict) is places stand walk =
    at_verdict seat seen new s t x lines credentials done [] response now more places verdict is walk stand

pub decided_by : {Q E : Type 0} (seat : Seat) (seen : ℕ → List Entry) (new : Seat) (s : Server) (t : Incoming) (x : Decider Q E s t) (lines : List (List ℕ)) (credentials : RequestCredentials) (done : List Step) (used : List (Event E)) (response : Response) (now : Server) (more : List (Event E))
    → Walks seat seen new s t x lines credentials done used response now more
decided_by seat seen new s t x lines credentials done [] response now more =
    ends_by seat seen new s t x lines credentials done response now more (asked_by s t x credentials seat.sizes done) refl
decided_by seat seen new s t x lines credentials done (event ∷ used) response now more =
    by_ask seat seen new s t x lines credentials done event used response now more (asked_by s t x credentials seat.sizes done) refl
    (λ then step. decided_by seat then new s t x lines credentials (done ++ step ∷ []) used response now more)
