-- What goes up for a request that is passed on.
use Rattle.std.specs.Prelude.{ℕ, Bool, bytes_eq, List, codes}
use Rattle.auth_decide.specs.Paths.{without_authority}
use Rattle.dial_exchange.specs.Exchanges.{outgoing_in}
use Rattle.dial_exchange.specs.declared.events.DialEvent.{DialEvent}
use Rattle.dial_exchange.specs.declared.events.Outgoing.{Outgoing}
use Rattle.http_wire.specs.RequestTexts.{request_text}
use Rattle.http_wire.specs.declared.request.Request.{Request}
use Rattle.proxy_core.specs.Fields.{lines_up}
use Rattle.proxy_core.specs.declared.demand.Demand.{Demand}
use Rattle.proxy_core.specs.declared.demand.Demand.TheVariants.{Send}

abbrev pub is_head : List ℕ → Bool
is_head method = bytes_eq method (codes "HEAD")

-- a request as it goes up to its target's authority, which alone is its host
abbrev pub outgoing_of : Request → List ℕ → Outgoing
outgoing_of request authority = record {
  authority = authority;
  text = request_text request.method (without_authority request.target) authority (lines_up request.fields) request.body;
  to_head = is_head request.method;
}

abbrev pub demand_of : DialEvent → Demand
demand_of event = Send (outgoing_in event)
