-- Who is admitted on a connection. Nothing here speaks of how a request is decided.
use Rattle.std.specs.Prelude.{◌≡◌, ◌↔◌, ◌⊎◌, Bool, ℕ, List, [], ◌∷◌, ◌++◌, length, map, sum_by, Option, Some, None, Result, IfOk}
use Rattle.std.specs.Io.KnownBytes.{Consumes}
use Rattle.std.specs.List.{flat_map}
use Rattle.admission.specs.Admission.{AreValid, IsAdmitted, IsWellFormed}
use Rattle.admission.specs.Exchanges.{ReusesRightly, TriesRightly}
use Rattle.admission.specs.Outcomes.{Admits}
use Rattle.admission.specs.Places.{AreInPlace}
use Rattle.admission.specs.Steps.{Step, Drew as DrewStep, Called as CalledStep}
use Rattle.auth_decide.specs.Credentials.{credentials_lines}
use Rattle.auth_decide.specs.declared.candidate.Candidate.{Candidate}
use Rattle.auth_decide.specs.declared.credentials.RequestCredentials.{RequestCredentials}
use Rattle.auth_decide.specs.declared.verdict.Verdict.{Verdict}
use Rattle.auth_grammar.specs.declared.items.Role.{Role}
use Rattle.connection_loop.specs.Account.{Account}
use Rattle.connection_loop.specs.Machine.{Incoming, Machine, Says}
use Rattle.connection_loop.specs.Results.{Tells}
use Rattle.connection_loop.specs.Session.{admits, due_text, refusal}
use Rattle.connection_loop.specs.declared.responder.Response.{Response}
use Rattle.connection_loop.specs.declared.served.Served.{Served}
use Rattle.connection_loop.specs.declared.served.ServeError.{ServeError}
use Rattle.http_wire.specs.Answers.{continue_text}
use Rattle.http_wire.specs.Requests.{Whole, front}
use Rattle.nonce_shard.specs.Replies.{reply}
use Rattle.nonce_shard.specs.Seat.{Seat}
use Rattle.nonce_shard.specs.declared.sizes.Sizes.{Sizes}
use Rattle.request_deciding.specs.Deciding.{AreWanted}
use Rattle.request_deciding.specs.Findings.{found_in}
use Rattle.request_deciding.specs.Outside.{LackedBy, TablePassed, TableState}
use Rattle.request_deciding.specs.Serving.{Course, question_of}
use Rattle.request_deciding.specs.declared.events.Event.{Event}
use Rattle.request_deciding.specs.declared.events.Event.TheVariants.{Found, Behind}
use Rattle.request_deciding.specs.declared.events.Finding.{Finding}
use Rattle.request_deciding.specs.declared.events.Finding.TheVariants.{CredentialsRead, Drew, Called}
use Rattle.request_deciding.specs.declared.events.Operation.{Operation}
use Rattle.request_deciding.specs.declared.server.Server.{Server}
use Rattle.spaces_map.specs.declared.space.Space.{Space}
use Rattle.served_requests.specs.Conduct.{Conduct, Follows}

-- ---- one request

-- how a request was decided: what its credentials said, what was done to decide on it, the verdict, and what was done behind it
pub record Deciding (E : Type 0) : Type 0 where
  pub credentials : RequestCredentials
  pub steps : List Step
  pub verdict : Verdict
  pub behind : List E

-- a request that was answered, where it was decided, or else at once
pub record ServedRequest (E : Type 0) : Type 0 where
  pub incoming : Incoming
  pub decided : Option (Deciding E)
  pub response : Response

abbrev pub finding_of : Sizes → Step → Finding
finding_of sizes (DrewStep words) = Drew words
finding_of sizes (CalledStep shard before call) = Called shard call (reply sizes shard before call)

-- all that was found to decide on a request
abbrev pub findings_of : {E : Type 0} → Role → Sizes → Incoming → Deciding E → List Finding
findings_of role sizes t d = CredentialsRead (credentials_lines role t.request) d.credentials ∷ map (finding_of sizes) d.steps

-- all that was done for it
abbrev pub events_by : {E : Type 0} → Role → Sizes → Incoming → Option (Deciding E) → List (Event E)
events_by role sizes t None = []
events_by role sizes t (Some d) = map Found (findings_of role sizes t d) ++ map Behind d.behind

abbrev pub events_of : {E : Type 0} → Role → Sizes → ServedRequest E → List (Event E)
events_of role sizes r = events_by role sizes r.incoming r.decided

abbrev pub steps_by : {E : Type 0} → Option (Deciding E) → List Step
steps_by None = []
steps_by (Some d) = d.steps

abbrev pub steps_of : {E : Type 0} → ServedRequest E → List Step
steps_of r = steps_by r.decided

-- The response is that of the verdict, by the course behind it. A well-formed request of Digest is admitted, as its user,
-- exactly where its credentials are valid, and one that ends an exchange of SCRAM-SHA-256 or uses a finished one again exactly
-- where it proves its user. No other is, nor one of Digest without a use of its count that the table answered Fresh, nor one of
-- SCRAM-SHA-256 without its try and a keeping, or a recall and such a use.
pub record IsRightlyDecided {Q E : Type 0} (role : Role) (want_of : E → Q) (course : Course Q E) (sizes : Sizes)
    (s : Server) (t : Incoming) (d : Deciding E) (response : Response) : Type 0 where
  pub behind : AreWanted course want_of s t d.verdict [] d.behind
  pub answered : course s t d.verdict d.behind ≡ Says response s
  pub exactly : (space : Space) (c : Candidate) → IsWellFormed (question_of role s t d.credentials) space c
      → Admits c.user d.verdict ↔ AreValid sizes (question_of role s t d.credentials) space c d.steps
  pub by_try : TriesRightly sizes (question_of role s t d.credentials) d.steps d.verdict
  pub again : ReusesRightly sizes (question_of role s t d.credentials) d.steps d.verdict
  pub no_other : (user : List ℕ) → Admits user d.verdict → IsAdmitted sizes (question_of role s t d.credentials) user d.steps

-- It was decided where it has a course, and else answered at once.
abbrev pub IsAnsweredBy : {Q E : Type 0} → Conduct Q E → Sizes → Server → Incoming → Option (Deciding E)
    → Option (Course Q E) → Response → Type 0
IsAnsweredBy c sizes s t None None response = response ≡ c.at_once t
IsAnsweredBy c sizes s t (Some d) (Some course) response = IsRightlyDecided c.role c.want_of course sizes s t d response
IsAnsweredBy c sizes s t None (Some course) response = ⊥
IsAnsweredBy c sizes s t (Some d) None response = ⊥

abbrev pub IsRightlyAnswered : {Q E : Type 0} → Conduct Q E → Sizes → Server → ServedRequest E → Type 0
IsRightlyAnswered c sizes s r = IsAnsweredBy c sizes s r.incoming r.decided (c.course r.incoming) r.response

-- ---- one after the other

-- what a connection takes and gives from some request on
pub record Stretch (E : Type 0) : Type 0 where
  pub input : List ℕ
  pub output : List ℕ
  pub moments : List ℕ
  pub events : List (Event E)

-- The request stands whole at the front of the input. It has a moment and events of its own, and what is written for it is the
-- `100 Continue` that is due and the response. What follows it is this.
pub record Serves {Q E : Type 0} (c : Conduct Q E) (sizes : Sizes) (s : Server) (r : ServedRequest E) (from then : Stretch E) : Type 0 where
  pub waits : Bool
  pub whole : front from.input ≡ Whole waits r.incoming.request then.input
  pub wrote : from.output ≡ (due_text waits ++ r.response.text) ++ then.output
  pub moment : from.moments ≡ r.incoming.moment ∷ then.moments
  pub events : from.events ≡ events_of c.role sizes r ++ then.events
  pub rightly : IsRightlyAnswered c sizes s r

-- what is written last answers no request: nothing, a `100 Continue`, or the status of a bad message
abbrev pub AnswersNone : List ℕ → Type 0
AnswersNone output =
    (output ≡ []) ⊎ ((output ≡ continue_text) ⊎ ((status : ℕ) × (moment : ℕ) × (output ≡ refusal status moment)))

-- These requests were answered, and no other.
abbrev pub AreServed : {Q E : Type 0} → Conduct Q E → Sizes → Server → List (ServedRequest E) → Stretch E → Type 0
AreServed c sizes s [] from = AnswersNone from.output
AreServed {E = E} c sizes s (r ∷ served) from = (then : Stretch E) × Serves c sizes s r from then × AreServed c sizes s served then

-- ---- the connection

-- what was read of an input, or that and what is left of it
abbrev pub IsReadOf : List ℕ → Option (List ℕ) → List ℕ → Type 0
IsReadOf read left input = (input ≡ read) ⊎ ((more : List ℕ) × (left ≡ Some more) × (input ≡ read ++ more))

abbrev pub stretch_of : {E : Type 0} → Account (Event E) → List ℕ → List ℕ → Stretch E
stretch_of a input output = record { input = input; output = output; moments = a.moments; events = a.events }

-- The requests of a connection that were answered. Their calls stand in the lists of the table's shards as the seat has seen them.
-- What was written is all of their replies, or the front of it.
pub record ServesRequests {Q E : Type 0} (c : Conduct Q E) (old new : Seat) (left : Option (List ℕ)) (s : Server) (a : Account (Event E))
    (result : Result Served ServeError) : Type 0 where
  pub served : List (ServedRequest E)
  pub input : List ℕ
  pub read : IsReadOf a.input left input
  pub output : List ℕ
  pub written : (rest : List ℕ) × (output ≡ a.output ++ rest)
  pub are : AreServed c old.sizes s served (stretch_of a input output)
  pub in_place : AreInPlace old old.seen new (flat_map steps_of served)
  pub requests : IfOk result (λ x. x.requests ≡ length served)
  pub admitted : IfOk result (λ x. x.admitted ≡ sum_by (λ r. admits r.response) served)

-- Whatever a server's session over an account tells: each of its requests that was answered was admitted exactly where it was to be.
abbrev pub AdmitsRightly : Type 0 → Type 0 → Type 0
AdmitsRightly Q E =
    (m : Machine Server (Operation Q) (Event E)) (c : Conduct Q E) → Follows m c
    → (before now : TableState) (left left' : Option (List ℕ)) (s s' : Server) (a : Account (Event E))
    (result : Result Served ServeError)
    → Consumes left left' a.input → TablePassed before now (found_in a.events)
    → Tells m (LackedBy before now) s s' left left' a result → ServesRequests c before.seat now.seat left' s a result
