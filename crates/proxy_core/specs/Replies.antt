-- The reply to a request, by its verdict and what came from its target (RFC 9110 sections 7.6, 11.7 and 15).
use Rattle.std.specs.Prelude.{ℕ, Bool, if◌then◌else◌, false, List, [], ◌++◌}
use Rattle.auth_decide.specs.declared.verdict.Verdict.{Verdict}
use Rattle.auth_grammar.specs.declared.items.Role.TheVariants.{Proxy}
use Rattle.connection_loop.specs.Machine.{Incoming}
use Rattle.connection_loop.specs.declared.responder.Response.{Response as Reply}
use Rattle.dial_exchange.specs.declared.events.Reception.{Reception}
use Rattle.dial_exchange.specs.declared.events.Reception.TheVariants.{Got, Bad, Failed}
use Rattle.http_wire.specs.Answers.{answer_text, status_body}
use Rattle.http_wire.specs.declared.pair.Pair.{Pair}
use Rattle.request_deciding.specs.Lines.{is_admitted, verdict_lines}
use Rattle.proxy_core.specs.Outgoing.{is_head}
use Rattle.proxy_core.specs.Fields.{passed_lines}
use Rattle.proxy_core.specs.declared.fields.Way.TheVariants.{Back}

-- the text of a reply
abbrev pub text_of : Incoming → ℕ → List Pair → List ℕ → List ℕ
text_of t status lines body = answer_text (record {
  status = status;
  moment = t.moment;
  lines = lines;
  body = body;
  to_head = is_head t.request.method;
  close = t.last;
})

-- the body of a reply, by what is sent of it
abbrev pub sent_body : Bool → List ℕ → List ℕ
sent_body to_head body = if to_head then [] else body

-- a reply with these lines and a body, after which it says of the authentication what the verdict calls for
abbrev pub reply_with : Incoming → Verdict → ℕ → List Pair → List ℕ → Reply
reply_with t verdict status lines body = record {
  text = text_of t status (lines ++ verdict_lines Proxy verdict (sent_body (is_head t.request.method) body)) body;
  admitted = is_admitted verdict;
}

-- a reply that tells its status
abbrev pub status_reply : Incoming → Verdict → ℕ → Reply
status_reply t verdict status = reply_with t verdict status [] (status_body status)

-- the reply by what came: a response is passed on, and a gateway without one is a bad one
abbrev pub reply_by : Incoming → Verdict → Reception → Reply
reply_by t verdict Bad = status_reply t verdict 502
reply_by t verdict Failed = status_reply t verdict 502
reply_by t verdict (Got response) = reply_with t verdict response.status (passed_lines Back response.fields) response.body

-- the reply to a request whose target isn't one for a proxy
abbrev pub no_target_reply : Incoming → Reply
no_target_reply t = record { text = text_of t 400 [] (status_body 400); admitted = false }
