-- What a step does to the world and to its table.
use Rattle.std.specs.Prelude.{◌≡◌, ◌⊎◌, ◌+◌, ◌<◌, ◌^◌, ℕ, List, [], ◌∷◌, length, Option, ⊤}
use Rattle.auth_io.specs.Told.{Adds}
use Rattle.client_core.specs.Clients.{Concludes, forgotten}
use Rattle.client_core.specs.Digests.{DrewAtMost}
use Rattle.client_core.specs.Givings.{given}
use Rattle.client_core.specs.declared.outcome.Outcome.{Outcome}
use Rattle.client_core.specs.declared.request.Sent.{Sent}
use Rattle.client_core.specs.declared.request.Sent.TheVariants as sent
use Rattle.client_core.specs.declared.state.State.{State}
use Rattle.nonce_shard.specs.Journal.{Journal}
use Rattle.drill.specs.declared.event.DrillEvent.{DrillEvent}
use Rattle.drill.specs.declared.event.DrillEvent.TheVariants.{Challenge, Make, Deliver, Pass}
use Rattle.drill.specs.declared.tally.Tally.{Tally}
use Rattle.http_wire.specs.declared.response.Response.{Response}
use Rattle.drill.specs.Deciding.{AreWords}
use Rattle.drill.specs.Requests.{out_request}
use Rattle.drill.specs.World.{Happening, IsSound, Scene, World, draws, step}

-- the world with its table
abbrev pub world_at : Scene → Journal → World
world_at scene table = record { scene = scene; calls = table.calls }

-- ---- conditions

-- the counts of deliveries are below the greatest of 32 bits
pub record AreLow (t : Tally) : Type 0 where
  pub delivered : t.delivered < 4294967295
  pub admitted : t.admitted < 4294967295
  pub stale : t.stale < 4294967295
  pub refused : t.refused < 4294967295

-- The request that is delivered was made, and the clock goes on within 64 bits.
abbrev pub CanHappen : Scene → DrillEvent → Type 0
CanHappen s Challenge = ⊤
CanHappen s Make = ⊤
CanHappen s (Deliver k) = k < length s.made
CanHappen s (Pass seconds) = s.clock + seconds < 2 ^ 64

-- ---- a step that is made

-- The world becomes the step's, the table has grown by exactly the step's calls, and the words of the step were drawn.
pub record IsStep (event : DrillEvent) (old new : Scene) (before now : Journal) (told drawn : Option (List (List ℕ))) : Type 0 where
  pub happening : Happening
  pub its_event : happening.event ≡ event
  pub sound : IsSound (world_at old before) happening
  pub world : world_at new now ≡ step (world_at old before) happening
  pub its_table : now ≡ record before { calls = now.calls }
  pub draws : Adds told drawn (draws (world_at old before) happening)

-- ---- a step that isn't

-- The client is as its last call left it: it forgot its nonce, or credentials were asked of it.
abbrev pub LeavesClient : DrillEvent → State → ℕ → State → Type 0
LeavesClient Challenge old moment new = new ≡ forgotten old
LeavesClient Make old moment new =
    DrewAtMost old new ⊎ ((words : List ℕ) × (what : Sent) × (given old out_request moment words ≡ (what, new)))
LeavesClient (Deliver k) old moment new = new ≡ old
LeavesClient (Pass seconds) old moment new = new ≡ old

-- The made requests, the clock and the counts are as before.
pub record IsLeft (event : DrillEvent) (old new : Scene) : Type 0 where
  pub rest : new ≡ record old { client = new.client }
  pub client : LeavesClient event old.client old.clock new.client

-- A step with this event has more calls than the table takes.
pub record IsWornBy (event : DrillEvent) (old : Scene) (before now : Journal) (calls : ℕ) : Type 0 where
  pub limit : calls ≡ before.limit
  pub full : length now.calls ≡ before.limit
  pub happening : Happening
  pub its_event : happening.event ≡ event
  pub sound : IsSound (world_at old before) happening
  pub over : before.limit < length (step (world_at old before) happening).calls

-- ---- the client's part

-- Credentials were given by words that were drawn.
pub record Gives (old new : State) (moment : ℕ) (told drawn : Option (List (List ℕ))) (what : Sent) : Type 0 where
  pub words : List ℕ
  pub form : AreWords words
  pub adds : Adds told drawn (words ∷ [])
  pub gave : given old out_request moment words ≡ (what, new)

-- The response to a request without credentials was concluded on.
abbrev pub Takes : State → State → Response → ℕ → Type 0
Takes old new response moment = (outcome : Outcome) × Concludes old out_request sent.Nothing response moment outcome new
