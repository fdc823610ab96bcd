-- How a server goes about its requests.
use Rattle.std.specs.Prelude.{◌≡◌, List, Option, Some, None}
use Rattle.auth_grammar.specs.declared.items.Role.{Role}
use Rattle.auth_decide.specs.declared.verdict.Verdict.{Verdict}
use Rattle.connection_loop.specs.Machine.{Asks, Incoming, Machine, Move, Says}
use Rattle.connection_loop.specs.declared.responder.Response.{Response}
use Rattle.request_deciding.specs.Findings.{operation_of}
use Rattle.request_deciding.specs.Serving.{Course, move_in}
use Rattle.request_deciding.specs.declared.events.Event.{Event}
use Rattle.request_deciding.specs.declared.events.Operation.{Operation}
use Rattle.request_deciding.specs.declared.server.Server.{Server}

-- A request is decided and then goes this course, or it is answered at once.
pub record Conduct (Q E : Type 0) : Type 0 where
  pub role : Role
  pub want_of : E → Q
  pub course : Incoming → Option (Course Q E)
  pub at_once : Incoming → Response

abbrev pub move_on : {Q E : Type 0} → Role → Response → Option (Course Q E) → Server → Incoming → List (Event E) → Move (Operation Q) Server
move_on role response None s t events = Says response s
move_on role response (Some course) s t events = move_in role course s t events

abbrev pub server_in : {Q : Type 0} → Move Q Server → Server
server_in (Asks wanted s) = s
server_in (Says response s) = s

-- The machine goes about each request so, and no course changes the server.
pub record Follows {Q E : Type 0} (m : Machine Server (Operation Q) (Event E)) (c : Conduct Q E) : Type 0 where
  pub moves : (s : Server) (t : Incoming) (events : List (Event E))
      → m.asked s t events ≡ move_on c.role (c.at_once t) (c.course t) s t events
  pub tells : (event : Event E) → m.ask_of event ≡ operation_of c.want_of event
  pub keeps : (course : Course Q E) (s : Server) (t : Incoming) (verdict : Verdict) (done : List E)
      → c.course t ≡ Some course → server_in (course s t verdict done) ≡ s
