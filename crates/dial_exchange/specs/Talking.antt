-- What each part of an exchange does.
use Rattle.std.specs.Prelude.{◌≡◌, ℕ, Bool, false, List, [], ◌∷◌, Option, Result, Ok, Err, ⊤}
use Rattle.std.specs.Io.KnownBytes.{Appends, Consumes, IsAtEnd}
use Rattle.auth_grammar.specs.declared.octets.OutOfMemory.{OutOfMemory}
use Rattle.auth_io.specs.Handing.{has_fault}
use Rattle.http_wire.specs.Responses.{response_front}
use Rattle.dial_exchange.specs.Exchanges.{FailsBy, HasEnded, IsSettled, is_out_of_memory, outgoing_in, received, received_by, wants_memory}
use Rattle.dial_exchange.specs.Dials.{DialPassed, DialState}
use Rattle.dial_exchange.specs.declared.events.DialEvent.{DialEvent}
use Rattle.dial_exchange.specs.declared.events.Exchange.{Exchange}
use Rattle.dial_exchange.specs.declared.events.ExchangeEnd.{ExchangeEnd}
use Rattle.dial_exchange.specs.declared.events.ExchangeEnd.TheVariants.{Answered, InputEnded, LinkFailed, NoMemory}
use Rattle.dial_exchange.specs.declared.events.Outgoing.{Outgoing}
use Rattle.dial_exchange.specs.declared.events.Reception.{Reception}

-- a connection at one moment
pub record TalkState : Type 0 where
  pub left : Option (List ℕ)
  pub written : Option (List ℕ)
  pub read_faults : ℕ
  pub write_faults : ℕ

abbrev pub talk_state : {L : Type 0} → (L → Option (List ℕ)) → (L → Option (List ℕ)) → (L → ℕ) → (L → ℕ) → L → TalkState
talk_state left written read_faults write_faults link =
    record { left = left link; written = written link; read_faults = read_faults link; write_faults = write_faults link }

-- what an answer says of the end of an exchange in which this came
abbrev pub Says : Bool → List ℕ → ExchangeEnd → Result Reception OutOfMemory → Type 0
Says to_head given ending (Ok reception) = (is_out_of_memory ending ≡ false) × (reception ≡ received_by to_head given ending)
Says to_head given ending (Err error) = ending ≡ NoMemory

-- ---- reading

-- how reading ended
abbrev pub HasRead : Bool → List ℕ → Option (List ℕ) → ExchangeEnd → Type 0
HasRead to_head given left Answered = IsSettled (response_front to_head 0 given)
HasRead to_head given left InputEnded = IsAtEnd left
HasRead to_head given left LinkFailed = ⊤
HasRead to_head given left NoMemory = ⊤

-- A response was read, or none could be.
pub record Receives (to_head : Bool) (u v : TalkState) (result : Result Reception OutOfMemory) : Type 0 where
  pub given : List ℕ
  pub ending : ExchangeEnd
  pub gave : Consumes u.left v.left given
  pub wrote : v.written ≡ u.written
  pub writes : v.write_faults ≡ u.write_faults
  pub read : HasRead to_head given v.left ending
  pub fails : u.read_faults ≡ 0 → u.write_faults ≡ 0 → FailsBy ending (has_fault v.read_faults v.write_faults)
  pub says : Says to_head given ending result

-- ---- both

-- A text was sent and a response read.
pub record Talks (outgoing : Outgoing) (u v : TalkState) (result : Result Reception OutOfMemory) : Type 0 where
  pub exchange : Exchange
  pub left : exchange.left ≡ u.left
  pub gave : Consumes u.left v.left exchange.given
  pub took : Appends u.written v.written exchange.sent
  pub ended : HasEnded outgoing exchange exchange.ending
  pub told : exchange.failed ≡ has_fault v.read_faults v.write_faults
  pub fails : u.read_faults ≡ 0 → u.write_faults ≡ 0 → FailsBy exchange.ending exchange.failed
  pub says : Says outgoing.to_head exchange.given exchange.ending result

-- ---- with the dial

-- One connection was dialled and is back, or none was handed out for want of memory.
abbrev pub SendsOnce : Outgoing → List DialEvent → Result Reception OutOfMemory → Type 0
SendsOnce outgoing [] (Ok reception) = ⊥
SendsOnce outgoing [] (Err error) = ⊤
SendsOnce outgoing (event ∷ []) (Ok reception) =
    (outgoing_in event ≡ outgoing) × (wants_memory event ≡ false) × (reception ≡ received event)
SendsOnce outgoing (event ∷ []) (Err error) = outgoing_in event ≡ outgoing
SendsOnce outgoing (event ∷ other ∷ events) result = ⊥

pub record Exchanges (outgoing : Outgoing) (u v : DialState) (result : Result Reception OutOfMemory) : Type 0 where
  pub events : List DialEvent
  pub passed : DialPassed u v events
  pub sends : SendsOnce outgoing events result
