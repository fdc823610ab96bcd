-- What a proxy never does.
use Rattle.std.specs.Prelude.{◌≡◌, ◌⊎◌, ℕ, false, List, Some, codes}
use Rattle.std.specs.List.{All}
use Rattle.auth_decide.specs.declared.info.Proof.{Proof}
use Rattle.auth_decide.specs.declared.verdict.Verdict.TheVariants.{Admit}
use Rattle.auth_grammar.specs.Names.{same_name}
use Rattle.auth_grammar.specs.declared.items.Role.TheVariants.{Proxy}
use Rattle.connection_loop.specs.Machine.{Asks, Incoming}
use Rattle.dial_exchange.specs.declared.events.DialEvent.{DialEvent}
use Rattle.http_wire.specs.Fields.{Pairs}
use Rattle.request_deciding.specs.Findings.{found_in}
use Rattle.request_deciding.specs.Serving.{Concludes, next_in}
use Rattle.request_deciding.specs.declared.events.Event.{Event}
use Rattle.request_deciding.specs.declared.events.Operation.TheVariants.{Behind}
use Rattle.request_deciding.specs.declared.server.Server.{Server}
use Rattle.proxy_core.specs.Fields.{lines_up}
use Rattle.proxy_core.specs.Outgoing.{outgoing_of}
use Rattle.proxy_core.specs.Serving.{next_move}
use Rattle.proxy_core.specs.Targets.{authority_of}
use Rattle.proxy_core.specs.declared.demand.Demand.{Demand}
use Rattle.proxy_core.specs.declared.demand.Demand.TheVariants.{Send, Memory}

-- Its decision has admitted a user, and it is sent to the authority of its target.
pub record IsSentOn (s : Server) (t : Incoming) (events : List (Event DialEvent)) (wanted : Demand) : Type 0 where
  pub authority : List ℕ
  pub of_target : authority_of t.request.target ≡ Some authority
  pub user : List ℕ
  pub proof : Proof
  pub admitted : next_in Proxy s t (found_in events) ≡ Concludes (Admit user proof)
  pub sent : (wanted ≡ Send (outgoing_of t.request authority)) ⊎ (wanted ≡ Memory)

-- Whatever was done for a request so far: nothing is dialled for it unless it is admitted.
abbrev pub DialsOnlyAdmitted : Type 0
DialsOnlyAdmitted = (s : Server) (t : Incoming) (events : List (Event DialEvent)) (wanted : Demand) (now : Server)
    → next_move s t events ≡ Asks (Behind wanted) now → IsSentOn s t events wanted

-- No line that goes up has the name of the field with a proxy's credentials, whatever its case.
abbrev pub SendsNoCredentials : Type 0
SendsNoCredentials = (fields : Pairs) → All (λ line. same_name line.name (codes "proxy-authorization") ≡ false) (lines_up fields)
