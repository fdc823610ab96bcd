-- What feeds give over whole streams.
use Rattle.std.specs.Prelude.{◌≡◌, ⊤, ℕ, ◌+◌, Bool, true, false, List, ◌++◌, length}
use Rattle.http_wire.specs.declared.request.Request.{Request}
use Rattle.http_wire.specs.Requests.{Unfinished, Wrong, IsWhole, front, Cuts}
use Rattle.http_wire.specs.RequestFeed.{Held}
use Rattle.http_wire.specs.declared.response.NextResponse.{NextResponse}
use Rattle.http_wire.specs.declared.response.NextResponse.TheVariants.{Message, NeedMore, Bad, OutOfMemory}
use Rattle.http_wire.specs.Responses.{ResponseFront, Complete, Broken}
use Rattle.http_wire.specs.ResponseFeed.{at_end}

-- the stream is these messages, and no whole one stands behind them
pub record IsAllOf (bytes : List ℕ) (requests : List Request) : Type 0 where
  pub rest : List ℕ
  pub cuts : Cuts bytes requests rest
  pub none : IsWhole (front rest) → ⊥

-- where it goes on more may come, else a bad one stands there
abbrev pub Stands : Held → Bool → Type 0
Stands new true = ((due : Bool) × (front new.rest ≡ Unfinished due)) × (new.stopped ≡ false)
Stands new false = (status : ℕ) × (front new.rest ≡ Wrong status)

-- whole messages were taken
pub record Takes (old new : Held) (before after : List Request) (on : Bool) : Type 0 where
  pub more : List Request
  pub items : after ≡ before ++ more
  pub cuts : Cuts old.rest more new.rest
  pub count : new.at + length new.rest ≡ old.at + length old.rest
  pub stands : Stands new on

-- so far
pub record Took (old new : Held) (before after : List Request) : Type 0 where
  pub more : List Request
  pub items : after ≡ before ++ more
  pub cuts : Cuts old.rest more new.rest
  pub count : new.at + length new.rest ≡ old.at + length old.rest
  pub goes : new.stopped ≡ false

-- what the end of the stream makes of what stands at its front
abbrev pub EndsIn : ResponseFront → NextResponse → Type 0
EndsIn front (Message response) = (rest : List ℕ) × (at_end front ≡ Complete response rest)
EndsIn front NeedMore = ⊥
EndsIn front (Bad at) = at_end front ≡ Broken at
EndsIn front OutOfMemory = ⊤
