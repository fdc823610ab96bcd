-- Who is admitted on a connection of the proxy.
use Rattle.std.specs.Prelude.{ℕ, List, Option, Result}
use Rattle.std.specs.Option.{option_map}
use Rattle.auth_grammar.specs.declared.items.Role.TheVariants.{Proxy}
use Rattle.connection_loop.specs.Account.{LinkState}
use Rattle.connection_loop.specs.Results.{ServesSession}
use Rattle.connection_loop.specs.declared.served.Served.{Served}
use Rattle.connection_loop.specs.declared.served.ServeError.{ServeError}
use Rattle.dial_exchange.specs.declared.events.DialEvent.{DialEvent}
use Rattle.request_deciding.specs.Outside.{LackedBy}
use Rattle.request_deciding.specs.declared.server.Server.{Server}
use Rattle.served_requests.specs.Admissions.{ServesRequests}
use Rattle.served_requests.specs.Conduct.{Conduct}
use Rattle.proxy_core.specs.Outgoing.{demand_of}
use Rattle.proxy_core.specs.Outside.{Outside, Passed}
use Rattle.proxy_core.specs.Replies.{no_target_reply}
use Rattle.proxy_core.specs.Serving.{course, proxy}
use Rattle.proxy_core.specs.Targets.{authority_of}
use Rattle.proxy_core.specs.declared.demand.Demand.{Demand}

-- A request whose target has an authority is decided, and sent there where it is admitted. Any other is answered at once.
abbrev pub conduct : Conduct Demand DialEvent
conduct = record {
  role = Proxy;
  want_of = demand_of;
  course = λ t. option_map course (authority_of t.request.target);
  at_once = no_target_reply;
}

-- What was taken from the outside and given to it is one account: the session of the proxy over the input, with nothing left
-- over. Each request in it that was answered was admitted exactly where it was to be.
pub record ServesConnection (before now : Outside) (link link' : LinkState) (shown shown' : Option (List ℕ)) (s : Server)
    (result : Result Served ServeError) : Type 0 where
  pub session : ServesSession proxy (LackedBy before.table now.table) (Passed before now) link link' shown shown' s s result
  pub requests : ServesRequests conduct before.table.seat now.table.seat link'.left s session.account result
