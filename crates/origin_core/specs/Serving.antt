-- The server of a site as a machine: what a request wants of the outside, by what was done so far, and the response.
use Rattle.std.specs.Prelude.{List, [], ◌∷◌, Option, Some, None}
use Rattle.auth_decide.specs.declared.verdict.Verdict.{Verdict}
use Rattle.auth_grammar.specs.declared.items.Role.TheVariants.{Origin}
use Rattle.connection_loop.specs.Machine.{Machine, Move, Asks, Says, Incoming}
use Rattle.connection_loop.specs.declared.responder.Response.{Response}
use Rattle.request_deciding.specs.Findings as done
use Rattle.request_deciding.specs.Serving.{Course, move_in}
use Rattle.request_deciding.specs.declared.events.Event.{Event}
use Rattle.request_deciding.specs.declared.events.Operation.{Operation}
use Rattle.request_deciding.specs.declared.server.Server.{Server}
use Rattle.origin_core.specs.Events.{operation_of, replaced_by}
use Rattle.origin_core.specs.Replies.{plan_of, status_of, status_reply, found_reply, replaced_reply}
use Rattle.origin_core.specs.declared.events.FileEvent.{FileEvent}
use Rattle.origin_core.specs.declared.events.FileEvent.TheVariants.{FileRead, FileReplaced}
use Rattle.origin_core.specs.declared.events.FileOperation.{FileOperation}
use Rattle.origin_core.specs.declared.events.FileOperation.TheVariants.{ReadFile, ReplaceFile}
use Rattle.origin_core.specs.declared.plan.Plan.{Plan}
use Rattle.origin_core.specs.declared.plan.Plan.TheVariants.{Refuse, Read, Replace}

-- ---- behind the verdict

-- what a plan wants of the files
abbrev pub operation_for : Incoming → Plan → Option FileOperation
operation_for t (Refuse refusal) = None
operation_for t (Read name) = Some (ReadFile name)
operation_for t (Replace name) = Some (ReplaceFile name t.request.body)

-- the reply by what was done with a file, once something was
abbrev pub file_reply : Incoming → Verdict → List FileEvent → Option Response
file_reply t verdict [] = None
file_reply t verdict (FileRead name answer ∷ events) = Some (found_reply t verdict answer)
file_reply t verdict (FileReplaced name bytes ending ∷ events) = Some (replaced_reply t verdict (replaced_by ending))

-- the reply to a request by its plan, once it is there
abbrev pub plan_reply : Incoming → Verdict → Plan → List FileEvent → Option Response
plan_reply t verdict (Refuse refusal) events = Some (status_reply t verdict (status_of refusal))
plan_reply t verdict (Read name) events = file_reply t verdict events
plan_reply t verdict (Replace name) events = file_reply t verdict events

-- ---- the machine

abbrev pub says_or : Server → FileOperation → Option Response → Move FileOperation Server
says_or s operation None = Asks operation s
says_or s operation (Some response) = Says response s

-- A plan that wants a file asks for it once, and its reply is by what came of it.
abbrev pub carry_out : Server → Incoming → Verdict → Plan → List FileEvent → Move FileOperation Server
carry_out s t verdict (Refuse refusal) events = Says (status_reply t verdict (status_of refusal)) s
carry_out s t verdict (Read name) events = says_or s (ReadFile name) (file_reply t verdict events)
carry_out s t verdict (Replace name) events = says_or s (ReplaceFile name t.request.body) (file_reply t verdict events)

-- How the server goes on behind a verdict: it carries its plan out.
abbrev pub course : Course FileOperation FileEvent
course s t verdict events = carry_out s t verdict (plan_of s.site.root t.request verdict) events

-- First the request is decided, and then its verdict is carried out.
abbrev pub origin : Machine Server (Operation FileOperation) (Event FileEvent)
origin = record { asked = move_in Origin course; ask_of = done.operation_of operation_of }
