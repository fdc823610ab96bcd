-- How a server goes from a request to its response.
use Rattle.std.specs.Prelude.{Bool, ◌≡◌, ℕ, List, [], ◌∷◌, ◌++◌, map, Result, Ok, Err}
use Rattle.http_wire.specs.declared.request.Request.{Request}
use Rattle.connection_loop.specs.declared.responder.Response.{Response}
use Rattle.connection_loop.specs.declared.responder.Lack.{Lack}
use Rattle.connection_loop.specs.declared.responder.RespondError.{RespondError}
use Rattle.connection_loop.specs.declared.responder.RespondError.TheVariants.{Lacking, OutOfMemory}

-- a request as it is handed to a server: whether the connection closes after it, and its moment
pub record Incoming : Type 0 where
  pub request : Request
  pub last : Bool
  pub moment : ℕ

-- the next step: an ask to the outside, or the response, each with the state that the server is then in
pub data Move (Q S : Type 0) : Type 0 where
  Asks : Q → S → Move Q S
  Says : Response → S → Move Q S

-- what comes next, by the state before the request and the events so far, and the ask that an event answers
pub record Machine (S Q E : Type 0) : Type 0 where
  pub asked : S → Incoming → List E → Move Q S
  pub ask_of : E → Q

-- how the asks for one request go: to a response, with the events that were not used, or to an ask without an answer
pub data Turn (S Q E : Type 0) : Type 0 where
  Said : Response → S → List Q → List E → Turn S Q E
  Lacks : Q → S → List Q → Turn S Q E

-- one ask before the others
abbrev pub with_ask : {S Q E : Type 0} → Q → Turn S Q E → Turn S Q E
with_ask ask (Said response now asks events) = Said response now (ask ∷ asks) events
with_ask ask (Lacks lacked now asks) = Lacks lacked now (ask ∷ asks)

abbrev pub turn_asks : {S Q E : Type 0} → List Q → Turn S Q E → Turn S Q E
turn_asks [] t = t
turn_asks (ask ∷ asks) t = with_ask ask (turn_asks asks t)

-- the asks for a request over the events that follow, after those that came
unfoldable pub turn : {S Q E : Type 0} → Machine S Q E → List E → S → Incoming → List E → Turn S Q E
turn m [] state incoming done = elim (m.asked state incoming done) [
  | Says response now ↦ Said response now [] []
  | Asks ask now ↦ Lacks ask now []
]
turn m (event ∷ more) state incoming done = elim (m.asked state incoming done) [
  | Says response now ↦ Said response now [] (event ∷ more)
  | Asks ask now ↦ with_ask ask (turn m more state incoming (done ++ event ∷ []))
]

abbrev pub asks_in : {S Q E : Type 0} → Turn S Q E → List Q
asks_in (Said response now asks events) = asks
asks_in (Lacks lacked now asks) = asks

-- what would be written for the request
abbrev pub output_in : {S Q E : Type 0} → Turn S Q E → List ℕ
output_in (Said response now asks events) = response.text
output_in (Lacks lacked now asks) = []

abbrev pub state_in : {S Q E : Type 0} → Turn S Q E → S
state_in (Said response now asks events) = now
state_in (Lacks lacked now asks) = now

-- the events that were not used
abbrev pub left_in : {S Q E : Type 0} → Turn S Q E → List E
left_in (Said response now asks events) = events
left_in (Lacks lacked now asks) = []

-- What an answer says of the events of one request. A response has used them all, whatever comes later;
-- at a lack they were answered and the next ask wasn't; after want of memory they were asked for.
abbrev pub Responds : {S Q E : Type 0} → Machine S Q E → (Lack → Q → Type 0) → S → S → Incoming → List E
    → Result Response RespondError → Type 0
Responds {E = E} m lacked before now incoming events (Ok response) =
    (more : List E) → turn m (events ++ more) before incoming [] ≡ Said response now (map (m.ask_of) events) more
Responds {Q = Q} m lacked before now incoming events (Err (Lacking lack)) =
    (ask : Q) × (turn m events before incoming [] ≡ Lacks ask now (map (m.ask_of) events)) × lacked lack ask
Responds m lacked before now incoming events (Err OutOfMemory) = asks_in (turn m events before incoming []) ≡ map (m.ask_of) events
