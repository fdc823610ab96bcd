-- What carrying a verdict out does, and what answering a request does.
use Rattle.std.proofs.Common.{◌≡◌, ◌∷◌, [], ◌++◌, ℕ, List, false, Option, Some, None, Result, Ok, Err, refl, sym, ap, ◌∙◌, subst}
use Rattle.std.specs.Prelude.{IfOk, IsErrAnd}
use Rattle.std.proofs.lemmas.Result.{err_from_is_err_and}
use Rattle.auth_decide.specs.declared.verdict.Verdict.{Verdict}
use Rattle.auth_grammar.specs.declared.items.Role.TheVariants.{Proxy}
use Rattle.auth_grammar.specs.declared.octets.OutOfMemory.{OutOfMemory}
use Rattle.connection_loop.proofs.Turns.{at_no_memory, at_response, at_start}
use Rattle.connection_loop.specs.Machine.{Asks, Incoming, Move, Responds, Says}
use Rattle.connection_loop.specs.declared.responder.RespondError.{RespondError}
use Rattle.connection_loop.specs.declared.responder.Response.{Response as Reply}
use Rattle.request_deciding.proofs.Machines.{GoesBy, answer_of, behind_events, behind_in-found, behind_of, carried_out, found_events, found_in-found, found_of, gives_up}
use Rattle.request_deciding.specs.Deciding.{Decides}
use Rattle.request_deciding.specs.Outside.{LackedBy, TablePassed}
use Rattle.request_deciding.specs.declared.events.Event.{Event}
use Rattle.request_deciding.specs.declared.events.Finding.{Finding}
use Rattle.request_deciding.specs.declared.server.Server.{Server}
use Rattle.proxy_core.specs.Carrying.{CarriesOut}
use Rattle.dial_exchange.specs.Dials.{DialPassed, DialState}
use Rattle.dial_exchange.specs.Exchanges.{outgoing_in, received, wants_memory}
use Rattle.dial_exchange.specs.Laws.{dial_none}
use Rattle.dial_exchange.specs.Talking.{Exchanges, SendsOnce}
use Rattle.dial_exchange.specs.declared.events.DialEvent.{DialEvent}
use Rattle.dial_exchange.specs.declared.events.Outgoing.{Outgoing}
use Rattle.dial_exchange.specs.declared.events.Reception.{Reception}
use Rattle.proxy_core.specs.Outgoing.{demand_of, outgoing_of}
use Rattle.proxy_core.specs.Laws.{passed_none}
use Rattle.proxy_core.specs.Outside.{Outside, Passed}
use Rattle.proxy_core.specs.Replies.{no_target_reply, reply_by, status_reply}
use Rattle.proxy_core.specs.Serving.{after_exchange, course, move_to, pass_on, proxy, refusal_of, unless_refused}
use Rattle.proxy_core.specs.Targets.{authority_of}
use Rattle.proxy_core.specs.declared.demand.Demand.{Demand}
use Rattle.proxy_core.specs.declared.demand.Demand.TheVariants.{Send}

abbrev Moved : Type 0
Moved = Move Demand Server

-- ---- a verdict

-- nothing was done, and there is no reply
pub carries_nothing : (u : DialState) (authority : List ℕ) (s : Server) (t : Incoming) (verdict : Verdict) (error : OutOfMemory) → CarriesOut u u authority s t verdict (Err error)
carries_nothing u authority s t verdict error = record { events = []; passed = dial_none u; wanted = tt; replies = tt }

-- it is refused
pub carries_refusal : (u : DialState) (authority : List ℕ) (s : Server) (t : Incoming) (verdict : Verdict) (status : ℕ) (result : Result Reply OutOfMemory) → Some status ≡ refusal_of verdict → IfOk result (λ reply. reply ≡ status_reply t verdict status) → CarriesOut u u authority s t verdict result
carries_refusal u authority s t verdict status (Ok reply) is says = record {
  events = [];
  passed = dial_none u;
  wanted = tt;
  replies = ap (unless_refused authority s t verdict []) (sym is) ∙ ap (λ (r : Reply). let move : Moved = Says r s in move) (sym says);
}
carries_refusal u authority s t verdict status (Err error) is says = carries_nothing u authority s t verdict error

-- the course of what is passed on
goes_on : (authority : List ℕ) (s : Server) (t : Incoming) (verdict : Verdict) (done : List DialEvent) → refusal_of verdict ≡ None → course authority s t verdict done ≡ pass_on authority s t verdict done
goes_on authority s t verdict done is = ap (unless_refused authority s t verdict done) is

asks_first : (authority : List ℕ) (s : Server) (t : Incoming) (verdict : Verdict) (outgoing : Outgoing) (event : DialEvent) → refusal_of verdict ≡ None → outgoing ≡ outgoing_of t.request authority → outgoing_in event ≡ outgoing → course authority s t verdict [] ≡ Asks (demand_of event) s
asks_first authority s t verdict outgoing event is made sends =
    goes_on authority s t verdict [] is ∙ ap (λ (o : Outgoing). let move : Moved = Asks (Send o) s in move) (sym made ∙ sym sends)

says_last : (authority : List ℕ) (s : Server) (t : Incoming) (verdict : Verdict) (event : DialEvent) (reception : Reception) (reply : Reply) → refusal_of verdict ≡ None → wants_memory event ≡ false → reception ≡ received event → reply ≡ reply_by t verdict reception → course authority s t verdict (event ∷ []) ≡ Says reply s
says_last authority s t verdict event reception reply is well came says =
    goes_on authority s t verdict (event ∷ []) is
    ∙ ap (after_exchange s t verdict event) well
    ∙ ap (λ (o : Reception). let move : Moved = Says (reply_by t verdict o) s in move) (sym came)
    ∙ ap (λ (r : Reply). let move : Moved = Says r s in move) (sym says)

-- it was passed on, and answered
pub carries_answer : (u v : DialState) (authority : List ℕ) (s : Server) (t : Incoming) (verdict : Verdict) (outgoing : Outgoing) (reception : Reception) (result : Result Reply OutOfMemory) → refusal_of verdict ≡ None → outgoing ≡ outgoing_of t.request authority →
    Exchanges outgoing u v (Ok reception) → IfOk result (λ reply. reply ≡ reply_by t verdict reception) → CarriesOut u v authority s t verdict result
carries_answer u v authority s t verdict outgoing reception result is made x says = by x.events x.passed x.sends result says
  where
    by : (events : List DialEvent) → DialPassed u v events → SendsOnce outgoing events (Ok reception) → (result : Result Reply OutOfMemory) → IfOk result (λ reply. reply ≡ reply_by t verdict reception) → CarriesOut u v authority s t verdict result
    by [] passed sends result says = absurd sends
    by (event ∷ other ∷ events) passed sends result says = absurd sends
    by (event ∷ []) passed sends (Ok reply) says = record {
      events = event ∷ [];
      passed = passed;
      wanted = (asks_first authority s t verdict outgoing event is made sends.0, tt);
      replies = says_last authority s t verdict event reception reply is sends.1 sends.2 says;
    }
    by (event ∷ []) passed sends (Err error) says = record {
      events = event ∷ [];
      passed = passed;
      wanted = (asks_first authority s t verdict outgoing event is made sends.0, tt);
      replies = tt;
    }

-- there was no memory for it
pub carries_no_answer : (u v : DialState) (authority : List ℕ) (s : Server) (t : Incoming) (verdict : Verdict) (outgoing : Outgoing) (error other : OutOfMemory) → refusal_of verdict ≡ None → outgoing ≡ outgoing_of t.request authority →
    Exchanges outgoing u v (Err error) → CarriesOut u v authority s t verdict (Err other)
carries_no_answer u v authority s t verdict outgoing error other is made x = by x.events x.passed x.sends
  where
    by : (events : List DialEvent) → DialPassed u v events → SendsOnce outgoing events (Err error) → CarriesOut u v authority s t verdict (Err other)
    by [] passed sends = record { events = []; passed = passed; wanted = tt; replies = tt }
    by (event ∷ []) passed sends = record { events = event ∷ []; passed = passed; wanted = (asks_first authority s t verdict outgoing event is made sends, tt); replies = tt }
    by (event ∷ more ∷ events) passed sends = absurd sends

-- ---- a request

-- a request to this authority is decided
goes_by : (authority : List ℕ) (s : Server) (t : Incoming) → authority_of t.request.target ≡ Some authority → GoesBy proxy Proxy (course authority) demand_of s t
goes_by authority s t is = record { moves = λ events. ap (λ (o : Option (List ℕ)). move_to o s t events) is; tells = λ event. refl }

abbrev Answers : Outside → Outside → Server → Incoming → Result Reply RespondError → Type 0
Answers u v s t result = (events : List (Event DialEvent)) × Passed u v events × Responds proxy (LackedBy u.table v.table) s s t events result

passed_by : (u v : Outside) (found : List Finding) (events : List DialEvent) → TablePassed u.table v.table found → DialPassed u.dial v.dial events → Passed u v (found_events found ++ behind_events events)
passed_by u v found events table dial = record {
  dial = subst (λ (l : List DialEvent). DialPassed u.dial v.dial l) (sym (behind_of found events)) dial;
  table = subst (λ (l : List Finding). TablePassed u.table v.table l) (sym (found_of found events)) table;
}

-- it was decided, and its verdict carried out
pub answers_to : (u v : Outside) (authority : List ℕ) (s : Server) (t : Incoming) (verdict : Verdict) (result : Result Reply OutOfMemory) → authority_of t.request.target ≡ Some authority → Decides u.table v.table Proxy s t (Ok verdict) → CarriesOut u.dial v.dial authority s t verdict result →
    Answers u v s t (answer_of result)
answers_to u v authority s t verdict result is d c = (
  found_events d.found ++ behind_events c.events,
  passed_by u v d.found c.events d.passed c.passed,
  carried_out proxy Proxy (course authority) demand_of s t (goes_by authority s t is) u.table v.table verdict d c.events c.wanted result c.replies,
)

-- there was no verdict
pub answers_none : (u v : Outside) (authority : List ℕ) (s : Server) (t : Incoming) (error : RespondError) → authority_of t.request.target ≡ Some authority → Decides u.table v.table Proxy s t (Err error) → v.dial ≡ u.dial → Answers u v s t (Err error)
answers_none u v authority s t error is d same = (
  found_events d.found,
  record {
    dial = subst (λ (l : List DialEvent). DialPassed u.dial v.dial l) (sym (behind_in-found DialEvent d.found)) (subst (λ (x : DialState). DialPassed u.dial x []) (sym same) (dial_none u.dial));
    table = subst (λ (l : List Finding). TablePassed u.table v.table l) (sym (found_in-found DialEvent d.found)) d.passed;
  },
  gives_up proxy Proxy (course authority) demand_of s t (goes_by authority s t is) u.table v.table error d,
)

-- the same for any answer that is that error
pub answers_none_as : (u v : Outside) (authority : List ℕ) (s : Server) (t : Incoming) (error : RespondError) (result : Result Reply RespondError) → IsErrAnd result (λ e. e ≡ error) → authority_of t.request.target ≡ Some authority → Decides u.table v.table Proxy s t (Err error) → v.dial ≡ u.dial → Answers u v s t result
answers_none_as u v authority s t error result failed is d same =
    let known = err_from_is_err_and result failed in
    subst (λ (r : Result Reply RespondError). Answers u v s t r) (sym (known.1 ∙ ap Err known.2)) (answers_none u v authority s t error is d same)

-- its target has no authority
pub answers_no_target : (u : Outside) (s : Server) (t : Incoming) (result : Result Reply OutOfMemory) → authority_of t.request.target ≡ None → IfOk result (λ reply. reply ≡ no_target_reply t) → Answers u u s t (answer_of result)
answers_no_target u s t (Ok reply) is says = (
  [],
  passed_none u,
  at_response proxy s s t [] reply (at_start proxy s t) (ap (λ (o : Option (List ℕ)). move_to o s t []) is ∙ ap (λ (r : Reply). Says r s) (sym says)),
)
answers_no_target u s t (Err error) is says = ([], passed_none u, at_no_memory proxy s t [] (at_start proxy s t))
