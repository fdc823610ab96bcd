-- The server of a site as a machine: what a request wants of the outside, by what was done so far, and the response.
use Rattle.std.specs.Prelude.{ℕ, List, [], ◌∷◌, Option, Some, None}
use Rattle.auth_decide.specs.Asks.{asked}
use Rattle.auth_decide.specs.Stages.{Question}
use Rattle.auth_decide.specs.Credentials.{credentials_lines}
use Rattle.auth_decide.specs.declared.site.Site.{Site}
use Rattle.auth_decide.specs.declared.verdict.Ask.{Ask}
use Rattle.auth_decide.specs.declared.verdict.Ask.TheVariants as ask
use Rattle.auth_decide.specs.declared.credentials.RequestCredentials.{RequestCredentials}
use Rattle.auth_decide.specs.declared.verdict.Verdict.{Verdict}
use Rattle.auth_grammar.specs.declared.items.Role.{Role}
use Rattle.connection_loop.specs.Machine.{Move, Asks, Says, Incoming}
use Rattle.request_deciding.specs.Findings.{answers_in, behind_in, credentials_in, found_in}
use Rattle.request_deciding.specs.declared.events.Event.{Event}
use Rattle.request_deciding.specs.declared.events.Finding.{Finding}
use Rattle.request_deciding.specs.declared.events.Inquiry.{Inquiry}
use Rattle.request_deciding.specs.declared.events.Inquiry.TheVariants.{ReadCredentials, Draw, CallTable}
use Rattle.request_deciding.specs.declared.events.Operation.{Operation}
use Rattle.request_deciding.specs.declared.events.Operation.TheVariants.{Inquire, Behind}
use Rattle.request_deciding.specs.declared.incoming.IncomingRequest.{IncomingRequest}
use Rattle.request_deciding.specs.declared.server.Server.{Server}

abbrev pub server : Site → ℕ → Server
server site shards = record { site = site; shards = shards }

abbrev pub incoming_of : IncomingRequest → Incoming
incoming_of r = record { request = r.request.now; last = r.last; moment = r.moment }

-- ---- the decision

-- what deciding on a request comes to next
pub data Next : Type 0 where
  Inquires : Inquiry → Next
  Concludes : Verdict → Next

abbrev pub question_of : Role → Server → Incoming → RequestCredentials → Question
question_of role s t credentials = record {
  role = role;
  request = t.request;
  moment = t.moment;
  site = s.site;
  shards = s.shards;
  credentials = credentials;
}

abbrev pub next_by_ask : Ask → Next
next_by_ask ask.Draw = Inquires Draw
next_by_ask (ask.Table shard call) = Inquires (CallTable shard call)
next_by_ask (ask.Verdict verdict) = Concludes verdict

-- First the credentials are read, and then the request is decided.
abbrev pub next_with : Role → Server → Incoming → Option RequestCredentials → List Finding → Next
next_with role s t None found = Inquires (ReadCredentials (credentials_lines role t.request))
next_with role s t (Some credentials) found = next_by_ask (asked (question_of role s t credentials) (answers_in found))

-- what comes next, by what was found so far
abbrev pub next_in : Role → Server → Incoming → List Finding → Next
next_in role s t found = next_with role s t (credentials_in found) found

-- ---- the machine

-- How a server goes on behind a verdict, by what it has done since.
abbrev pub Course : Type 0 → Type 0 → Type 0
Course Q E = Server → Incoming → Verdict → List E → Move Q Server

abbrev pub lifted : {Q : Type 0} → Move Q Server → Move (Operation Q) Server
lifted (Asks wanted s) = Asks (Behind wanted) s
lifted (Says response s) = Says response s

abbrev pub move_by : {Q E : Type 0} → Course Q E → Server → Incoming → Next → List E → Move (Operation Q) Server
move_by course s t (Inquires inquiry) done = Asks (Inquire inquiry) s
move_by course s t (Concludes verdict) done = lifted (course s t verdict done)

-- First the request is decided, and then its verdict is carried out.
abbrev pub move_in : {Q E : Type 0} → Role → Course Q E → Server → Incoming → List (Event E) → Move (Operation Q) Server
move_in role course s t events = move_by course s t (next_in role s t (found_in events)) (behind_in events)
