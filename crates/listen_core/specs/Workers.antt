-- Workers of a site, each beside its seat.
use Rattle.std.specs.Prelude.{◌≡◌, ℕ, ◌<◌, List, Option}
use Rattle.auth_decide.specs.declared.site.Site.{Site}
use Rattle.auth_io.specs.Files.{Contents}
use Rattle.auth_io.specs.Handing.{Handed}
use Rattle.auth_io.specs.declared.files.Ending.{Ending}
use Rattle.nonce_shard.specs.Seat.{Seat}
use Rattle.origin_core.specs.Outside.{Passed}
use Rattle.origin_core.specs.Serving.{origin}
use Rattle.origin_core.specs.declared.events.FileEvent.{FileEvent}
use Rattle.origin_core.specs.declared.events.FileOperation.{FileOperation}
use Rattle.request_deciding.specs.Outside.{LackedBy}
use Rattle.request_deciding.specs.Serving.{server}
use Rattle.request_deciding.specs.declared.events.Event.{Event}
use Rattle.request_deciding.specs.declared.events.Operation.{Operation}
use Rattle.request_deciding.specs.declared.server.Server.{Server}
use Rattle.worker_loop.specs.Connections.{WorkerState, worker_state}
use Rattle.worker_loop.specs.Ends.{DrawsWell}
use Rattle.worker_loop.specs.Service.{Service, service_of}
use Rattle.listen_core.specs.Service.{outside_at, shards_of}
use Rattle.listen_core.specs.declared.server.OriginServer.{OriginServer}
use Rattle.listen_core.specs.declared.workers.Worker.{Worker}

abbrev pub server_of : {A F C W T : Type 0} → Worker A F C W → T → OriginServer F C W T
server_of worker seat = record { files = worker.files; clock = worker.clock; random = worker.random; seat = seat }

abbrev pub worker_of : {A F C W T : Type 0} → A → OriginServer F C W T → Worker A F C W
worker_of accept server = record { accept = accept; files = server.files; clock = server.clock; random = server.random }

abbrev pub seat_of : {A F C W T : Type 0} → A → OriginServer F C W T → T
seat_of accept server = server.seat

-- a worker beside its seat
abbrev pub state_of : {A F C W T : Type 0} → (A → Option (List (List ℕ))) → (A → Option Handed) → (A → ℕ) → Worker A F C W
    → T → WorkerState (OriginServer F C W T)
state_of coming handed faults worker seat = worker_state coming handed faults worker.accept (server_of worker seat)

-- how a site is served
abbrev pub origin_service : {F C W T : Type 0} → (F → Option Contents) → (F → Option (List (List ℕ × Ending))) → (F → ℕ)
    → (C → Option (List ℕ)) → (W → Option (List (List ℕ))) → (W → ℕ) → (T → Seat) → Site
    → Service Server (Operation FileOperation) (Event FileEvent) (OriginServer F C W T)
origin_service contents asked file_faults shown drawn random_faults seat site =
    let at = outside_at contents asked file_faults drawn random_faults seat in
    service_of origin (λ s. server site (shards_of seat s)) (λ s. shown s.clock) (λ a b. Passed (at a) (at b))
    (λ a b. LackedBy (at a).table (at b).table) (λ a b. DrawsWell (random_faults a.random) (random_faults b.random))

-- The seat notes of one of its shards that this is at its limit.
abbrev pub NotesLimit : Seat → Seat → Type 0
NotesLimit old new = (shard : ℕ) × (shard < old.shards) × (new.noted shard ≡ old.limit)
