-- The status of a response that came.
use Rattle.std.proofs.Common.{◌≡◌, ◌≤◌, ℕ, List, Bool, true, false, refl, arith}
use Rattle.std.specs.Prelude.{◌&&◌, nat_le}
use Rattle.std.proofs.lemmas.Bool.Decides.{nat_tests}
use Rattle.http_wire.specs.ResponseFeed.{at_end}
use Rattle.http_wire.specs.Responses.{ResponseFront, Incomplete, Open, Complete, Broken, response_front}
use Rattle.http_wire.specs.declared.response.Response.{Response}
use Rattle.dial_exchange.specs.Exchanges.{IsFine, IsFineReception, got, got_if, is_final, received, received_by, reception_of}
use Rattle.dial_exchange.specs.declared.events.DialEvent.{DialEvent}
use Rattle.dial_exchange.specs.declared.events.DialEvent.TheVariants.{NotReached, Exchanged}
use Rattle.dial_exchange.specs.declared.events.ExchangeEnd.{ExchangeEnd}
use Rattle.dial_exchange.specs.declared.events.ExchangeEnd.TheVariants.{Answered, InputEnded, LinkFailed, NoMemory}

final_low : (n : ℕ) → is_final n ≡ true → 200 ≤ n
final_low n is = grind (arith, nat_tests, is)

final_high : (n : ℕ) → is_final n ≡ true → n ≤ 599
final_high n is = grind (arith, nat_tests, is)

fine_if : (b : Bool) (response : Response) → is_final response.status ≡ b → IsFineReception (got_if b response)
fine_if true response is = record { low = final_low response.status is; high = final_high response.status is }
fine_if false response is = tt

fine_complete : (front : ResponseFront) → IsFineReception (reception_of front)
fine_complete (Incomplete at) = tt
fine_complete (Open response) = tt
fine_complete (Complete response rest) = fine_if (is_final response.status) response refl
fine_complete (Broken at) = tt

fine_by : (to_head : Bool) (given : List ℕ) (ending : ExchangeEnd) → IsFineReception (received_by to_head given ending)
fine_by to_head given Answered = fine_complete (at_end (response_front to_head 0 given))
fine_by to_head given InputEnded = fine_complete (at_end (response_front to_head 0 given))
fine_by to_head given LinkFailed = tt
fine_by to_head given NoMemory = tt

pub received_fine : (event : DialEvent) → IsFineReception (received event)
received_fine (NotReached outgoing) = tt
received_fine (Exchanged outgoing x) = fine_by outgoing.to_head x.given x.ending
