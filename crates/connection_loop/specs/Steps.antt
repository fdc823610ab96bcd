-- What the parts of the loop say, from one place of a session to the next.
use Rattle.std.specs.Prelude.{Bool, true, false, ◌&&◌, nat_lt, if◌then◌else◌, ◌≡◌, ℕ, suc, ◌+◌, ◌-◌, ◌<◌, ◌≤◌, List, [], ◌∷◌, ◌++◌, take, length, Result, Ok, Err, ⊤, Option}
use Rattle.std.specs.Io.KnownBytes.{IsAtEnd}
use Rattle.std.specs.List.{AllByRecursion}
use Rattle.http_wire.specs.declared.request.Request.{Request}
use Rattle.http_wire.specs.Requests.{Unfinished, Whole, Wrong, front, is_due}
use Rattle.http_wire.specs.RequestFeed.{Held}
use Rattle.auth_io.specs.declared.writing.WriteError.{WriteError}
use Rattle.auth_io.specs.declared.writing.WriteError.TheVariants as write_error
use Rattle.connection_loop.specs.Machine.{Machine, Incoming, Turn, Said, Lacks, turn, asks_in, output_in, state_in}
use Rattle.connection_loop.specs.Session.{Session, Stop, Inside, Lacking, Supply, session, after, due_text, admits}
use Rattle.connection_loop.specs.Account.{Account, LinkState, LinkPassed, asks_of, supply_of, add}
use Rattle.connection_loop.specs.Results.{Completes, Begins, IsOpen, stop_of}
use Rattle.connection_loop.specs.declared.responder.Lack.{Lack}
use Rattle.connection_loop.specs.declared.responder.Lack.TheVariants.{Random, Worn as TableWorn}
use Rattle.connection_loop.specs.declared.responder.Response.{Response}
use Rattle.connection_loop.specs.declared.served.End.{End}
use Rattle.connection_loop.specs.declared.served.End.TheVariants.{Ended, CloseAsked, BadMessage, Limit}
use Rattle.connection_loop.specs.declared.served.Served.{Served}
use Rattle.connection_loop.specs.declared.served.ServeError.{ServeError}
use Rattle.connection_loop.specs.declared.served.ServeError.TheVariants.{Truncated, ReadFault, WriteFault, RandomFault, Worn, OutOfMemory}
use Rattle.connection_loop.specs.declared.reading.Arrived.{Arrived}
use Rattle.connection_loop.specs.declared.reading.Arrived.TheVariants.{Message, Bad, NoMore}
use Rattle.connection_loop.specs.declared.serving.Step.{Step}
use Rattle.connection_loop.specs.declared.serving.Step.TheVariants.{More, Over}
use Rattle.connection_loop.specs.declared.serving.TheConstants.{REQUEST_LIMIT}

-- ---- writing

-- a write failed, or there was no memory for it
abbrev pub IsSendError : ServeError → Type 0
IsSendError (Truncated at) = ⊥
IsSendError ReadFault = ⊥
IsSendError WriteFault = ⊤
IsSendError RandomFault = ⊥
IsSendError (Worn calls) = ⊥
IsSendError OutOfMemory = ⊤

-- the loop's error for what kept a text from being written whole
abbrev pub send_error : WriteError → ServeError
send_error write_error.Failed = WriteFault
send_error write_error.OutOfMemory = OutOfMemory

-- a text was written whole, or the front of it
abbrev pub SendsText : List ℕ → List ℕ → Result (Unit {0}) ServeError → Type 0
SendsText text output (Ok sent) = output ≡ text
SendsText text output (Err e) = IsSendError e × ((rest : List ℕ) × (text ≡ output ++ rest))

-- ---- reading

-- what is written for the message at the front before it is whole
abbrev pub due : List ℕ → List ℕ
due input = due_text (is_due (front input))

-- a feed between two messages
pub record IsBetween (held : Held) : Type 0 where
  pub fresh : held.told ≡ false
  pub going : held.stopped ≡ false

-- a piece was read, and the feed has taken it
pub record TakesPiece (link link' : LinkState) (old new : Held) (piece : List ℕ) : Type 0 where
  pub linked : LinkPassed link link' piece [] ((0, 0) ∷ [])
  pub feed : new ≡ record old { rest = old.rest ++ piece }

-- what a read of one piece says: whether there was any
abbrev pub ReadsPiece : LinkState → LinkState → Held → Held → Result Bool ServeError → Type 0
ReadsPiece link link' old new (Ok more) =
    (piece : List ℕ) × TakesPiece link link' old new piece × (more ≡ true → 0 < length piece)
    × (more ≡ false → (piece ≡ []) × IsAtEnd link'.left)
ReadsPiece link link' old new (Err (Truncated at)) = ⊥
ReadsPiece link link' old new (Err ReadFault) = LinkPassed link link' [] [] []
ReadsPiece link link' old new (Err WriteFault) = ⊥
ReadsPiece link link' old new (Err RandomFault) = ⊥
ReadsPiece link link' old new (Err (Worn calls)) = ⊥
ReadsPiece link link' old new (Err OutOfMemory) = (piece : List ℕ) × LinkPassed link link' piece [] ((0, 0) ∷ [])

-- No whole message stands there, and all that is due was written.
pub record IsWaiting (all put : List ℕ) : Type 0 where
  pub waits : Bool
  pub unfinished : front all ≡ Unfinished waits
  pub wrote : due all ≡ put

-- at this read it was so
pub record ReadsWaiting (ahead got put : List ℕ) (r : ℕ × ℕ) : Type 0 where
  pub in_got : r.0 ≤ length got
  pub in_put : r.1 ≤ length put
  pub waiting : IsWaiting (ahead ++ take r.0 got) (take r.1 put)

-- a whole request stands there, before what the feed then holds
pub record FindsRequest (all put : List ℕ) (at : ℕ) (request : Request) (kept : Held) : Type 0 where
  pub waits : Bool
  pub whole : front all ≡ Whole waits request kept.rest
  pub wrote : due all ≡ put
  pub place : kept.at ≡ at + (length all - length kept.rest)
  pub between : IsBetween kept

-- what stands at the front of all that was read, of which this much was kept, and what was written for it
abbrev pub Finds : List ℕ → ℕ → List ℕ → Held → Option (List ℕ) → Result Arrived ServeError → Type 0
Finds all at put kept left (Ok (Message request)) = FindsRequest all put at request kept
Finds all at put kept left (Ok (Bad status)) = (front all ≡ Wrong status) × (put ≡ [])
Finds all at put kept left (Ok NoMore) = IsWaiting all put × (kept.rest ≡ all) × (kept.at ≡ at) × IsAtEnd left
Finds all at put kept left (Err (Truncated place)) = ⊥
Finds all at put kept left (Err ReadFault) = IsWaiting all put
Finds all at put kept left (Err WriteFault) = (rest : List ℕ) × (due all ≡ put ++ rest)
Finds all at put kept left (Err RandomFault) = ⊥
Finds all at put kept left (Err (Worn calls)) = ⊥
Finds all at put kept left (Err OutOfMemory) = (rest : List ℕ) × (due all ≡ put ++ rest)

-- ---- one request

-- what one request takes and gives
abbrev pub request_account : {E : Type 0} → List ℕ → ℕ → List E → Account E
request_account output moment events = record { input = []; output = output; moments = moment ∷ []; events = events; reads = [] }

-- how the asks for one request go over the events of an account
abbrev pub turn_of : {S Q E : Type 0} → Machine S Q E → S → Incoming → Account E → Turn S Q E
turn_of m before incoming a = turn m (a.events) before incoming []

-- the events were asked for, and the front of the response was written
pub record Fronts {S Q E : Type 0} (m : Machine S Q E) (before : S) (incoming : Incoming) (a : Account E) : Type 0 where
  pub asks : asks_in (turn_of m before incoming a) ≡ asks_of m a
  pub front_of : (rest : List ℕ) × (output_in (turn_of m before incoming a) ≡ a.output ++ rest)

-- the next ask has no answer, and nothing was written
abbrev pub Lacked : {S Q E : Type 0} → Machine S Q E → (Lack → Q → Type 0) → S → S → Incoming → Account E → Lack → Type 0
Lacked {Q = Q} m lacked before now incoming a lack =
    (ask : Q) × (turn_of m before incoming a ≡ Lacks ask now (asks_of m a)) × lacked lack ask × (a.output ≡ [])

-- what an answer says of one request
abbrev pub Serves : {S Q E : Type 0} → Machine S Q E → (Lack → Q → Type 0) → S → S → Incoming → Account E → Result ℕ ServeError → Type 0
Serves {E = E} m lacked before now incoming a (Ok admitted) =
    (response : Response) × ((more : List E)
    → turn m (a.events ++ more) before incoming [] ≡ Said response now (asks_of m a) more) × (a.output ≡ response.text)
    × (admitted ≡ admits response)
Serves m lacked before now incoming a (Err RandomFault) = Lacked m lacked before now incoming a Random
Serves m lacked before now incoming a (Err (Worn calls)) = Lacked m lacked before now incoming a (TableWorn calls)
Serves m lacked before now incoming a (Err WriteFault) = Fronts m before incoming a × (state_in (turn_of m before incoming a) ≡ now)
Serves m lacked before now incoming a (Err OutOfMemory) = Fronts m before incoming a
Serves m lacked before now incoming a (Err (Truncated at)) = ⊥
Serves m lacked before now incoming a (Err ReadFault) = ⊥

-- ---- one step

-- where a session stands: the requests that may still come, the server's state, the bytes that were read ahead,
-- the requests that were answered, those that were admitted, and the bytes that these were
pub record Place (S : Type 0) : Type 0 where
  pub room : ℕ
  pub state : S
  pub ahead : List ℕ
  pub requests : ℕ
  pub admitted : ℕ
  pub answered : ℕ

-- a place after some requests
abbrev pub place_at : {S : Type 0} → S → Held → ℕ → ℕ → Place S
place_at state held requests admitted =
    record {
      room = REQUEST_LIMIT - requests;
      state = state;
      ahead = held.rest;
      requests = requests;
      admitted = admitted;
      answered = held.at;
    }

-- the session from a place on, over what was taken since, where these bytes follow
abbrev pub session_from : {S Q E : Type 0} → Machine S Q E → Place S → Account E → List ℕ → Session S Q E
session_from m place a rest = session m (place.room) (place.state) ((place.ahead ++ a.input) ++ rest) (supply_of a)

-- what may follow the bytes that were read
abbrev pub MayFollow : End → List ℕ → Type 0
MayFollow Ended rest = rest ≡ []
MayFollow CloseAsked rest = ⊤
MayFollow BadMessage rest = ⊤
MayFollow Limit rest = ⊤

-- the session from a place on ended so, whatever follows
pub record EndsAt {S Q E : Type 0} (m : Machine S Q E) (place : Place S) (now : S) (a : Account E) (served : Served)
    (rest : List ℕ) : Type 0 where
  pub completes : Completes (session_from m place a rest) m a (stop_of served.end) now
  pub requests : served.requests ≡ place.requests + (session_from m place a rest).requests
  pub admitted : served.admitted ≡ place.admitted + (session_from m place a rest).admitted
  pub within : (session_from m place a rest).answered ≤ length (place.ahead ++ a.input)

-- it stops at an ask that has no answer
abbrev pub StallsAt : {S Q E : Type 0} → Machine S Q E → (Lack → Q → Type 0) → Place S → S → Account E → Lack → Type 0
StallsAt {Q = Q} m lacked place now a lack = (ask : Q) × lacked lack ask × Completes (session_from m place a []) m a (Lacking ask) now

-- what an answer says of the session from a place on
abbrev pub Follows : {S Q E : Type 0} → Machine S Q E → (Lack → Q → Type 0) → Place S → S → Account E → Result Served ServeError → Type 0
Follows m lacked place now a (Ok served) = (rest : List ℕ) → MayFollow (served.end) rest → EndsAt m place now a served rest
Follows m lacked place now a (Err (Truncated at)) =
    Completes (session_from m place a []) m a Inside now × (at ≡ place.answered + (session_from m place a []).answered)
Follows {Q = Q} m lacked place now a (Err ReadFault) = (stop : Stop Q) × IsOpen stop × Completes (session_from m place a []) m a stop now
Follows m lacked place now a (Err WriteFault) = Begins (session_from m place a []) m a × ((session_from m place a []).state ≡ now)
Follows m lacked place now a (Err RandomFault) = StallsAt m lacked place now a Random
Follows m lacked place now a (Err (Worn calls)) = StallsAt m lacked place now a (TableWorn calls)
Follows m lacked place now a (Err OutOfMemory) = Begins (session_from m place a []) m a

-- nothing is left where the input was read to its end
abbrev pub LeavesNone : Option (List ℕ) → Result Served ServeError → Type 0
LeavesNone left (Ok served) = served.end ≡ Ended → IsAtEnd left
LeavesNone left (Err (Truncated at)) = IsAtEnd left
LeavesNone left (Err ReadFault) = ⊤
LeavesNone left (Err WriteFault) = ⊤
LeavesNone left (Err RandomFault) = ⊤
LeavesNone left (Err (Worn calls)) = ⊤
LeavesNone left (Err OutOfMemory) = ⊤

-- one more request was answered, whatever follows
pub record GoesOn {S Q E : Type 0} (m : Machine S Q E) (place : Place S) (now : S) (a : Account E) (kept : Held) (one : ℕ) : Type 0 where
  pub bytes : ℕ
  pub goes : (room : ℕ) → place.room ≡ suc room → (rest : List ℕ) (more : Supply E) →
      session m (suc room) place.state ((place.ahead ++ a.input) ++ rest) (add (supply_of a) more)
      ≡ after (record { output = a.output; asks = asks_of m a; requests = 1; admitted = one; answered = bytes })
      (session m room now (kept.rest ++ rest) more)
  pub counted : bytes + length kept.rest ≡ length (place.ahead ++ a.input)
  pub place_is : kept.at ≡ place.answered + bytes
  pub between : IsBetween kept

-- a step over one message
abbrev pub Steps : {S Q E : Type 0} → Machine S Q E → (Lack → Q → Type 0) → Place S → S → Account E → Held → Result Step ServeError → Type 0
Steps m lacked place now a kept (Ok (More one)) = GoesOn m place now a kept one
Steps m lacked place now a kept (Ok (Over served)) = Follows m lacked place now a (Ok served)
Steps m lacked place now a kept (Err e) = Follows m lacked place now a (Err e)

abbrev pub StepLeavesNone : Option (List ℕ) → Result Step ServeError → Type 0
StepLeavesNone left (Ok (More one)) = ⊤
StepLeavesNone left (Ok (Over served)) = LeavesNone left (Ok served)
StepLeavesNone left (Err e) = LeavesNone left (Err e)

-- a step admits one request at most
abbrev pub AdmitsOne : Result Step ServeError → Type 0
AdmitsOne (Ok (More one)) = one ≤ 1
AdmitsOne (Ok (Over served)) = ⊤
AdmitsOne (Err e) = ⊤

-- what comes after a request was answered
abbrev pub step_after : Bool → ℕ → ℕ → ℕ → Step
step_after closing one requests admitted =
    if closing && nat_lt (requests + 1) REQUEST_LIMIT
    then Over (record { requests = requests + 1; admitted = admitted + one; end = CloseAsked }) else More one

-- reads while a message was awaited were prompt, from a place on
abbrev pub session_at : {S Q E : Type 0} → Machine S Q E → Place S → Account E → ℕ × ℕ → Supply E → Session S Q E
session_at m place a r more = session m (place.room) (place.state) (place.ahead ++ take r.0 a.input) (add (supply_of a) more)

pub record IsPromptAt {S Q E : Type 0} (m : Machine S Q E) (place : Place S) (a : Account E) (r : ℕ × ℕ) : Type 0 where
  pub in_input : r.0 ≤ length a.input
  pub in_output : r.1 ≤ length a.output
  pub wrote : (more : Supply E) → (session_at m place a r more).output ≡ take r.1 a.output
  pub open_still : (more : Supply E) → IsOpen ((session_at m place a r more).stop)

abbrev pub PromptFrom : {S Q E : Type 0} → Machine S Q E → Place S → Account E → Type 0
PromptFrom m place a = AllByRecursion (IsPromptAt m place a) a.reads

-- what one step took from the outside and gave to it, and what it says of the session from a place on
pub record StepsFrom {S Q E : Type 0} (m : Machine S Q E) (lacked : Lack → Q → Type 0) (passed : List E → Type 0)
    (link link' : LinkState) (Shown : List ℕ → Type 0) (place : Place S) (now : S) (kept : Held)
    (result : Result Step ServeError) : Type 0 where
  pub account : Account E
  pub linked : LinkPassed link link' account.input account.output account.reads
  pub moments : Shown account.moments
  pub events : passed account.events
  pub prompt : PromptFrom m place account
  pub steps : Steps m lacked place now account kept result
