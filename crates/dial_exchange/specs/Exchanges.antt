-- What goes over a connection that is dialled.
use Rattle.std.specs.Prelude.{◌≡◌, ◌≤◌, ℕ, Bool, ◌&&◌, nat_le, true, false, List, [], ◌++◌, IfSome, ⊤}
use Rattle.http_wire.specs.ResponseFeed.{at_end}
use Rattle.http_wire.specs.Responses.{ResponseFront, Incomplete, Open, Complete, Broken, response_front}
use Rattle.http_wire.specs.declared.response.Response.{Response}
use Rattle.dial_exchange.specs.declared.events.DialEvent.{DialEvent}
use Rattle.dial_exchange.specs.declared.events.DialEvent.TheVariants.{NotReached, Exchanged}
use Rattle.dial_exchange.specs.declared.events.Exchange.{Exchange}
use Rattle.dial_exchange.specs.declared.events.ExchangeEnd.{ExchangeEnd}
use Rattle.dial_exchange.specs.declared.events.ExchangeEnd.TheVariants.{Answered, InputEnded, LinkFailed, NoMemory}
use Rattle.dial_exchange.specs.declared.events.Outgoing.{Outgoing}
use Rattle.dial_exchange.specs.declared.events.Reception.{Reception}
use Rattle.dial_exchange.specs.declared.events.Reception.TheVariants.{Got, Bad, Failed}

-- ---- what comes back

-- the status of a final response (RFC 9110 section 15)
abbrev pub is_final : ℕ → Bool
is_final status = nat_le 200 status && nat_le status 599

abbrev pub got_if : Bool → Response → Reception
got_if true response = Got response
got_if false response = Bad

-- a response, where its status is final
abbrev pub got : Response → Reception
got response = got_if (is_final response.status) response

abbrev pub reception_of : ResponseFront → Reception
reception_of (Incomplete at) = Bad
reception_of (Open response) = Bad
reception_of (Complete response rest) = got response
reception_of (Broken at) = Bad

-- what stands at the front of what a connection gave, where its input ended behind that
abbrev pub reception_in : Bool → List ℕ → Reception
reception_in to_head given = reception_of (at_end (response_front to_head 0 given))

abbrev pub received_by : Bool → List ℕ → ExchangeEnd → Reception
received_by to_head given Answered = reception_in to_head given
received_by to_head given InputEnded = reception_in to_head given
received_by to_head given LinkFailed = Failed
received_by to_head given NoMemory = Failed

-- what came of the request
abbrev pub received : DialEvent → Reception
received (NotReached outgoing) = Failed
received (Exchanged outgoing x) = received_by outgoing.to_head x.given x.ending

abbrev pub outgoing_in : DialEvent → Outgoing
outgoing_in (NotReached outgoing) = outgoing
outgoing_in (Exchanged outgoing x) = outgoing

pub record IsFine (response : Response) : Type 0 where
  pub low : 200 ≤ response.status
  pub high : response.status ≤ 599

-- A response that came is final.
abbrev pub IsFineReception : Reception → Type 0
IsFineReception (Got response) = IsFine response
IsFineReception Bad = ⊤
IsFineReception Failed = ⊤

-- ---- how it went

abbrev pub is_out_of_memory : ExchangeEnd → Bool
is_out_of_memory Answered = false
is_out_of_memory InputEnded = false
is_out_of_memory LinkFailed = false
is_out_of_memory NoMemory = true

abbrev pub wants_memory : DialEvent → Bool
wants_memory (NotReached outgoing) = false
wants_memory (Exchanged outgoing x) = is_out_of_memory x.ending

abbrev pub IsFrontOf : List ℕ → List ℕ → Type 0
IsFrontOf part whole = (rest : List ℕ) × (whole ≡ part ++ rest)

-- Whatever follows, what stands at the front stays there.
abbrev pub IsSettled : ResponseFront → Type 0
IsSettled (Incomplete at) = ⊥
IsSettled (Open response) = ⊥
IsSettled (Complete response rest) = ⊤
IsSettled (Broken at) = ⊤

-- The text is cut short only where the link failed, or memory. The input is read until a response or a fault stands there, or to
-- its end.
abbrev pub HasEnded : Outgoing → Exchange → ExchangeEnd → Type 0
HasEnded outgoing x Answered = (x.sent ≡ outgoing.text) × IsSettled (response_front (outgoing.to_head) 0 x.given)
HasEnded outgoing x InputEnded = (x.sent ≡ outgoing.text) × IfSome x.left (λ left. left ≡ x.given)
HasEnded outgoing x LinkFailed = IsFrontOf x.sent outgoing.text
HasEnded outgoing x NoMemory = IsFrontOf x.sent outgoing.text

-- Whether a call failed is told by the end. Nothing is said of it where there was no memory.
abbrev pub FailsBy : ExchangeEnd → Bool → Type 0
FailsBy Answered failed = failed ≡ false
FailsBy InputEnded failed = failed ≡ false
FailsBy LinkFailed failed = failed ≡ true
FailsBy NoMemory failed = ⊤

-- What was given is the front of what there was to give.
pub record IsExchange (outgoing : Outgoing) (x : Exchange) : Type 0 where
  pub gave : IfSome x.left (λ left. IsFrontOf x.given left)
  pub ended : HasEnded outgoing x x.ending
  pub fails : FailsBy x.ending x.failed

abbrev pub IsSound : DialEvent → Type 0
IsSound (NotReached outgoing) = ⊤
IsSound (Exchanged outgoing x) = IsExchange outgoing x
