-- What carrying a verdict out does.
use Rattle.std.specs.Prelude.{◌≡◌, ℕ, List, [], Result, IfOk}
use Rattle.auth_decide.specs.declared.verdict.Verdict.{Verdict}
use Rattle.auth_grammar.specs.declared.octets.OutOfMemory.{OutOfMemory}
use Rattle.connection_loop.specs.Machine.{Incoming, Says}
use Rattle.connection_loop.specs.declared.responder.Response.{Response}
use Rattle.request_deciding.specs.Deciding.{AreWanted}
use Rattle.request_deciding.specs.declared.server.Server.{Server}
use Rattle.proxy_core.specs.Outgoing.{demand_of}
use Rattle.dial_exchange.specs.Dials.{DialPassed, DialState}
use Rattle.proxy_core.specs.Serving.{course}
use Rattle.dial_exchange.specs.declared.events.DialEvent.{DialEvent}

-- what was done to carry a verdict out, and the reply after it
pub record CarriesOut (before now : DialState) (authority : List ℕ) (s : Server) (t : Incoming) (verdict : Verdict)
    (result : Result Response OutOfMemory) : Type 0 where
  pub events : List DialEvent
  pub passed : DialPassed before now events
  pub wanted : AreWanted (course authority) demand_of s t verdict [] events
  pub replies : IfOk result (λ reply. course authority s t verdict events ≡ Says reply s)
