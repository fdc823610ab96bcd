-- The proxy as a machine: what a request wants of the outside, by what was done so far, and the response.
use Rattle.std.specs.Prelude.{ℕ, Bool, true, false, List, [], ◌∷◌, Option, Some, None}
use Rattle.auth_decide.specs.declared.verdict.Verdict.{Verdict}
use Rattle.auth_decide.specs.declared.verdict.Verdict.TheVariants.{Admit, Open, Challenge, Continue, Bad}
use Rattle.auth_grammar.specs.declared.items.Role.TheVariants.{Proxy}
use Rattle.connection_loop.specs.Machine.{Machine, Move, Asks, Says, Incoming}
use Rattle.request_deciding.specs.Findings.{operation_of}
use Rattle.request_deciding.specs.Serving.{Course, move_in}
use Rattle.request_deciding.specs.declared.events.Event.{Event}
use Rattle.request_deciding.specs.declared.events.Operation.{Operation}
use Rattle.request_deciding.specs.declared.server.Server.{Server}
use Rattle.dial_exchange.specs.Exchanges.{received, wants_memory}
use Rattle.dial_exchange.specs.declared.events.DialEvent.{DialEvent}
use Rattle.proxy_core.specs.Outgoing.{demand_of, outgoing_of}
use Rattle.proxy_core.specs.Replies.{no_target_reply, reply_by, status_reply}
use Rattle.proxy_core.specs.Targets.{authority_of}
use Rattle.proxy_core.specs.declared.demand.Demand.{Demand}
use Rattle.proxy_core.specs.declared.demand.Demand.TheVariants.{Send, Memory}

-- Where memory failed in an exchange, nothing but memory can follow, which nobody gives.
abbrev pub after_exchange : Server → Incoming → Verdict → DialEvent → Bool → Move Demand Server
after_exchange s t verdict event true = Asks Memory s
after_exchange s t verdict event false = Says (reply_by t verdict (received event)) s

-- A request that is passed on is sent to its authority once, and answered by what came of it.
abbrev pub pass_on : List ℕ → Server → Incoming → Verdict → List DialEvent → Move Demand Server
pass_on authority s t verdict [] = Asks (Send (outgoing_of t.request authority)) s
pass_on authority s t verdict (event ∷ events) = after_exchange s t verdict event (wants_memory event)

-- the status of a refusal; an open space is none for a proxy, and challenged as others are
abbrev pub refusal_of : Verdict → Option ℕ
refusal_of (Admit user proof) = None
refusal_of (Open items) = Some 407
refusal_of (Challenge items) = Some 407
refusal_of (Continue item) = Some 407
refusal_of (Bad why) = Some 400

abbrev pub unless_refused : List ℕ → Server → Incoming → Verdict → List DialEvent → Option ℕ → Move Demand Server
unless_refused authority s t verdict done (Some status) = Says (status_reply t verdict status) s
unless_refused authority s t verdict done None = pass_on authority s t verdict done

-- Only what is admitted is passed on.
abbrev pub course : List ℕ → Course Demand DialEvent
course authority s t verdict done = unless_refused authority s t verdict done (refusal_of verdict)

-- A request is decided where its target has an authority.
abbrev pub move_to : Option (List ℕ) → Server → Incoming → List (Event DialEvent) → Move (Operation Demand) Server
move_to None s t events = Says (no_target_reply t) s
move_to (Some authority) s t events = move_in Proxy (course authority) s t events

abbrev pub next_move : Server → Incoming → List (Event DialEvent) → Move (Operation Demand) Server
next_move s t events = move_to (authority_of t.request.target) s t events

abbrev pub proxy : Machine Server (Operation Demand) (Event DialEvent)
proxy = record { asked = next_move; ask_of = operation_of demand_of }
