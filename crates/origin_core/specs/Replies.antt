-- The reply to a request, by its verdict and what its file gave (RFC 9110 sections 9.3, 11.6 and 15,
-- RFC 7804 section 5).
use Rattle.std.specs.Prelude.{ℕ, Bool, true, false, ◌==◌, bytes_eq, if◌then◌else◌, List, [], ◌∷◌, ◌++◌, Option, Some, None, codes}
use Rattle.auth_grammar.specs.declared.items.Role.TheVariants.{Origin}
use Rattle.auth_decide.specs.Paths.{path_of}
use Rattle.auth_decide.specs.declared.verdict.Verdict.{Verdict}
use Rattle.auth_decide.specs.declared.verdict.Verdict.TheVariants.{Admit, Open, Challenge, Continue, Bad}
use Rattle.auth_io.specs.declared.files.FileAnswer.{FileAnswer}
use Rattle.auth_io.specs.declared.files.FileAnswer.TheVariants.{Found, Absent, TooLarge, Failed, OutOfMemory}
use Rattle.auth_io.specs.declared.files.Replaced.{Replaced}
use Rattle.auth_io.specs.declared.files.Replaced.TheVariants.{Done, Failed as NotReplaced, OutOfMemory as NoMemory}
use Rattle.connection_loop.specs.Machine.{Incoming}
use Rattle.connection_loop.specs.declared.responder.Response.{Response}
use Rattle.http_wire.specs.Answers.{answer_text, status_body}
use Rattle.http_wire.specs.declared.pair.Pair.{Pair}
use Rattle.http_wire.specs.declared.request.Request.{Request}
use Rattle.request_deciding.specs.Lines.{is_admitted, pair, verdict_lines}
use Rattle.origin_core.specs.Names.{file_name}
use Rattle.origin_core.specs.declared.method.Method.{Method}
use Rattle.origin_core.specs.declared.method.Method.TheVariants.{Get, Head, Put, Other}
use Rattle.origin_core.specs.declared.plan.Plan.{Plan}
use Rattle.origin_core.specs.declared.plan.Plan.TheVariants.{Refuse, Read, Replace}
use Rattle.origin_core.specs.declared.plan.Refusal.{Refusal}
use Rattle.origin_core.specs.declared.plan.Refusal.TheVariants.{Bad as BadForm, Challenged, Forbidden, NotFound, NotAllowed}

-- the method of a request, whose case matters
abbrev pub method_of : List ℕ → Method
method_of method =
    if bytes_eq method (codes "GET") then Get
    else if bytes_eq method (codes "HEAD") then Head
    else if bytes_eq method (codes "PUT") then Put
    else Other

abbrev pub is_head : Method → Bool
is_head Head = true
is_head method = false

-- ---- lines

abbrev pub allow_line : Pair
allow_line = pair (codes "Allow") (codes "GET, HEAD, PUT")

-- the methods that are served stand where another one came
abbrev pub allow_lines : ℕ → List Pair
allow_lines status = if status == 405 then allow_line ∷ [] else []

-- the body of a reply, by what is sent of it
abbrev pub sent_body : Bool → List ℕ → List ℕ
sent_body to_head body = if to_head then [] else body

-- ---- replies

-- a reply with a body
abbrev pub reply_with : Incoming → Verdict → ℕ → List ℕ → Response
reply_with t verdict status body =
    let to_head = is_head (method_of t.request.method) in
    record {
      text = answer_text (record {
        status = status;
        moment = t.moment;
        lines = allow_lines status ++ verdict_lines Origin verdict (sent_body to_head body);
        body = body;
        to_head = to_head;
        close = t.last;
      });
      admitted = is_admitted verdict;
    }

-- a reply that tells its status
abbrev pub status_reply : Incoming → Verdict → ℕ → Response
status_reply t verdict status = reply_with t verdict status (status_body status)

-- the reply by what a file gave
abbrev pub found_reply : Incoming → Verdict → FileAnswer → Response
found_reply t verdict (Found bytes) = reply_with t verdict 200 bytes
found_reply t verdict Absent = status_reply t verdict 404
found_reply t verdict TooLarge = status_reply t verdict 404
found_reply t verdict Failed = status_reply t verdict 500
found_reply t verdict OutOfMemory = status_reply t verdict 500

-- the reply by how a file was replaced
abbrev pub replaced_reply : Incoming → Verdict → Replaced → Response
replaced_reply t verdict Done = reply_with t verdict 204 []
replaced_reply t verdict NotReplaced = status_reply t verdict 500
replaced_reply t verdict NoMemory = status_reply t verdict 500

-- ---- plans

abbrev pub status_of : Refusal → ℕ
status_of BadForm = 400
status_of Challenged = 401
status_of Forbidden = 403
status_of NotFound = 404
status_of NotAllowed = 405

-- a file is asked for where the path names one
abbrev pub or_absent : (List ℕ → Plan) → Option (List ℕ) → Plan
or_absent make None = Refuse NotFound
or_absent make (Some name) = make name

abbrev pub read_plan : List ℕ → Request → Plan
read_plan root request = or_absent Read (file_name root true (path_of request.target))

abbrev pub replace_plan : List ℕ → Request → Plan
replace_plan root request = or_absent Replace (file_name root false (path_of request.target))

-- what a method calls for
abbrev pub file_plan : List ℕ → Request → Method → Plan
file_plan root request Get = read_plan root request
file_plan root request Head = read_plan root request
file_plan root request Put = replace_plan root request
file_plan root request Other = Refuse NotAllowed

-- nobody replaces a file unadmitted
abbrev pub open_plan : List ℕ → Request → Method → Plan
open_plan root request Put = Refuse Forbidden
open_plan root request Get = read_plan root request
open_plan root request Head = read_plan root request
open_plan root request Other = Refuse NotAllowed

-- what a verdict calls for
abbrev pub plan_of : List ℕ → Request → Verdict → Plan
plan_of root request (Bad why) = Refuse BadForm
plan_of root request (Challenge items) = Refuse Challenged
plan_of root request (Continue item) = Refuse Challenged
plan_of root request (Open items) = open_plan root request (method_of request.method)
plan_of root request (Admit user proof) = file_plan root request (method_of request.method)
