-- What deciding on one request does.
use Rattle.std.specs.Prelude.{◌≡◌, List, [], ◌∷◌, ◌++◌, Result, Ok, Err, ⊤, Some}
use Rattle.auth_decide.specs.Decisions.{Deciding}
use Rattle.auth_decide.specs.Stages.{stage_at}
use Rattle.auth_decide.specs.declared.verdict.Verdict.{Verdict}
use Rattle.auth_grammar.specs.declared.items.Role.{Role}
use Rattle.connection_loop.specs.Machine.{Asks, Incoming}
use Rattle.connection_loop.specs.declared.responder.RespondError.{RespondError}
use Rattle.connection_loop.specs.declared.responder.RespondError.TheVariants.{Lacking, OutOfMemory}
use Rattle.request_deciding.specs.Findings.{answers_in, credentials_in, inquiry_of}
use Rattle.request_deciding.specs.Outside.{LacksBy, TablePassed, TableState}
use Rattle.request_deciding.specs.Serving.{Concludes, Course, Inquires, next_in, question_of}
use Rattle.request_deciding.specs.declared.events.Finding.{Finding}
use Rattle.request_deciding.specs.declared.events.Inquiry.{Inquiry}
use Rattle.request_deciding.specs.declared.server.Server.{Server}

-- Behind what was done, each of these was inquired after those before it.
abbrev pub AreInquired : Role → Server → Incoming → List Finding → List Finding → Type 0
AreInquired role s t done [] = ⊤
AreInquired role s t done (finding ∷ found) =
    (next_in role s t done ≡ Inquires (inquiry_of finding)) × AreInquired role s t (done ++ finding ∷ []) found

-- how a decision ends
abbrev pub EndsDeciding : TableState → TableState → Role → Server → Incoming → List Finding → Result Verdict RespondError → Type 0
EndsDeciding before now role s t found (Ok verdict) = next_in role s t found ≡ Concludes verdict
EndsDeciding before now role s t found (Err (Lacking lack)) =
    (inquiry : Inquiry) × (next_in role s t found ≡ Inquires inquiry) × LacksBy before now lack inquiry
EndsDeciding before now role s t found (Err OutOfMemory) = ⊤

-- what was done to decide on a request
pub record Decides (before now : TableState) (role : Role) (s : Server) (t : Incoming) (result : Result Verdict RespondError) : Type 0 where
  pub found : List Finding
  pub inquired : AreInquired role s t [] found
  pub passed : TablePassed before now found
  pub ends : EndsDeciding before now role s t found result

-- Behind a verdict, each of these was wanted after those before it.
abbrev pub AreWanted : {Q E : Type 0} → Course Q E → (E → Q) → Server → Incoming → Verdict → List E → List E → Type 0
AreWanted course want_of s t verdict done [] = ⊤
AreWanted course want_of s t verdict done (event ∷ events) =
    (course s t verdict done ≡ Asks (want_of event) s) × AreWanted course want_of s t verdict (done ++ event ∷ []) events

-- a decision as it stands, with what was done for it
pub record IsUnderWay (before now : TableState) (role : Role) (s : Server) (t : Incoming) (d : Deciding) : Type 0 where
  pub found : List Finding
  pub inquired : AreInquired role s t [] found
  pub read : credentials_in found ≡ Some d.question.credentials
  pub question : d.question ≡ question_of role s t d.question.credentials
  pub stage : d.stage ≡ stage_at d.question (answers_in found)
  pub passed : TablePassed before now found
