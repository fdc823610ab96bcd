-- Workers of a proxy, each beside its seat.
use Rattle.std.specs.Prelude.{◌≡◌, ℕ, ◌<◌, List, Option}
use Rattle.auth_decide.specs.declared.site.Site.{Site}
use Rattle.auth_io.specs.Dialling.{Dialled}
use Rattle.auth_io.specs.Handing.{Handed}
use Rattle.dial_exchange.specs.declared.events.DialEvent.{DialEvent}
use Rattle.nonce_shard.specs.Seat.{Seat}
use Rattle.proxy_core.specs.Outside.{Passed}
use Rattle.proxy_core.specs.Serving.{proxy}
use Rattle.proxy_core.specs.declared.demand.Demand.{Demand}
use Rattle.request_deciding.specs.Outside.{LackedBy}
use Rattle.request_deciding.specs.Serving.{server}
use Rattle.request_deciding.specs.declared.events.Event.{Event}
use Rattle.request_deciding.specs.declared.events.Operation.{Operation}
use Rattle.request_deciding.specs.declared.server.Server.{Server}
use Rattle.worker_loop.specs.Connections.{WorkerState, worker_state}
use Rattle.worker_loop.specs.Ends.{DrawsWell}
use Rattle.worker_loop.specs.Service.{Service, service_of}
use Rattle.proxy_listen.specs.Service.{outside_at, shards_of}
use Rattle.proxy_listen.specs.declared.server.ProxyServer.{ProxyServer}
use Rattle.proxy_listen.specs.declared.shared.ProxyWorker.{ProxyWorker}

abbrev pub server_of : {A N F C W T : Type 0} → ProxyWorker A N F C W → T → ProxyServer N F C W T
server_of worker seat = record { dial = worker.dial; files = worker.files; clock = worker.clock; random = worker.random; seat = seat }

abbrev pub worker_of : {A N F C W T : Type 0} → A → ProxyServer N F C W T → ProxyWorker A N F C W
worker_of accept server = record { accept = accept; dial = server.dial; files = server.files; clock = server.clock; random = server.random }

abbrev pub seat_of : {A N F C W T : Type 0} → A → ProxyServer N F C W T → T
seat_of accept server = server.seat

-- a worker beside its seat
abbrev pub state_of : {A N F C W T : Type 0} → (A → Option (List (List ℕ))) → (A → Option Handed) → (A → ℕ)
    → ProxyWorker A N F C W → T → WorkerState (ProxyServer N F C W T)
state_of coming handed faults worker seat = worker_state coming handed faults worker.accept (server_of worker seat)

-- how a proxy serves; its files stay as they are
abbrev pub proxy_service : {N F C W T : Type 0} → (N → Option Dialled) → (N → Option (List (List ℕ))) → (N → Option Handed)
    → (N → ℕ) → (N → ℕ)
    → (C → Option (List ℕ)) → (W → Option (List (List ℕ))) → (W → ℕ) → (T → Seat) → Site
    → Service Server (Operation Demand) (Event DialEvent) (ProxyServer N F C W T)
proxy_service dialled coming handed dial_faults link_faults shown drawn random_faults seat site =
    let at = outside_at dialled coming handed dial_faults link_faults drawn random_faults seat in
    service_of proxy (λ s. server site (shards_of seat s)) (λ s. shown s.clock)
    (λ a b events. (b.files ≡ a.files) × Passed (at a) (at b) events)
    (λ a b. LackedBy (at a).table (at b).table) (λ a b. DrawsWell (random_faults a.random) (random_faults b.random))

-- The seat notes of one of its shards that this is at its limit.
abbrev pub NotesLimit : Seat → Seat → Type 0
NotesLimit old new = (shard : ℕ) × (shard < old.shards) × (new.noted shard ≡ old.limit)
