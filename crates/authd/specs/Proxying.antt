-- What `proxy` does: the first worker's files give a site, and then all workers serve as a proxy by it, each on the pass at its place.
use Rattle.std.specs.Prelude.{◌≡◌, ℕ, ◌<◌, ◌==◌, false, if◌then◌else◌, List, [], ◌∷◌, map, length, slice_index_or, Option, Some, None, Result, Ok, Err}
use Rattle.auth_decide.specs.declared.site.Site.{Site}
use Rattle.auth_grammar.specs.declared.octets.OutOfMemory.{OutOfMemory}
use Rattle.auth_io.specs.Causes.{Rose}
use Rattle.auth_io.specs.Dialling.{Dialled}
use Rattle.auth_io.specs.Files.{Contents}
use Rattle.auth_io.specs.Handing.{Handed}
use Rattle.auth_io.specs.declared.files.Ending.{Ending}
use Rattle.dial_exchange.specs.declared.events.DialEvent.{DialEvent}
use Rattle.nonce_shard.specs.Seat.{Seat}
use Rattle.origin_core.specs.Outside.{FilesState, files_state}
use Rattle.proxy_core.specs.declared.demand.Demand.{Demand}
use Rattle.proxy_core.specs.declared.site.ProxySite.{ProxySite}
use Rattle.proxy_listen.specs.Workers.{proxy_service, state_of}
use Rattle.proxy_listen.specs.declared.server.ProxyServer.{ProxyServer}
use Rattle.proxy_listen.specs.declared.shared.ProxyWorker.{ProxyWorker}
use Rattle.request_deciding.specs.declared.events.Event.{Event}
use Rattle.request_deciding.specs.declared.events.Operation.{Operation}
use Rattle.request_deciding.specs.declared.server.Server.{Server}
use Rattle.spaces_map.specs.Spaces.{proxy_ready}
use Rattle.worker_loop.specs.Connections.{WorkerState}
use Rattle.worker_loop.specs.Seating.{EndsAsWorst}
use Rattle.worker_loop.specs.Service.{Service}
use Rattle.worker_loop.specs.Workers.{Serves}
use Rattle.worker_loop.specs.declared.finish.Finish.{Finish}
use Rattle.authd.specs.Endings.{Reports}
use Rattle.authd.specs.Listen.{DiagState, status_for}
use Rattle.authd.specs.Loading.{LoadsSite}
use Rattle.authd.specs.Words.{Proxying}
use Rattle.authd.specs.declared.failure.Failure.{Failure}
use Rattle.authd.specs.declared.failure.Failure.TheVariants as failure
use Rattle.authd.specs.declared.failure.Refusal.TheVariants as refusal

-- what words of `proxy` ask of so many workers
abbrev pub for_workers : ℕ → Option Proxying → Option Proxying
for_workers number None = None
for_workers number (Some p) = if p.workers == number then Some p else None

-- ---- what is seen

-- workers, and the pass of each at its place
pub record Crew (A N F C W T : Type 0) : Type 0 where
  pub workers : List (ProxyWorker A N F C W)
  pub passes : List T

abbrev pub crew : {A N F C W T : Type 0} → List (ProxyWorker A N F C W) → List T → Crew A N F C W T
crew workers passes = record { workers = workers; passes = passes }

-- what files tell, how a proxy serves, and a worker beside its pass
pub record Sight (A N F C W T : Type 0) : Type 1 where
  pub files : F → FilesState
  pub service : Site → Service Server (Operation Demand) (Event DialEvent) (ProxyServer N F C W T)
  pub state : ProxyWorker A N F C W → T → WorkerState (ProxyServer N F C W T)

abbrev pub sight_of : {A N F C W T : Type 0} → (A → Option (List (List ℕ))) → (A → Option Handed) → (A → ℕ)
    → (N → Option Dialled) → (N → Option (List (List ℕ))) → (N → Option Handed) → (N → ℕ) → (N → ℕ)
    → (F → Option Contents) → (F → Option (List (List ℕ × Ending))) → (F → ℕ)
    → (C → Option (List ℕ)) → (W → Option (List (List ℕ))) → (W → ℕ) → (T → Seat) → Sight A N F C W T
sight_of coming handed faults dialled coming_up handed_up dial_faults link_faults contents asked file_faults shown drawn
    word_faults seat = record {
      files = files_state contents asked file_faults;
      service = proxy_service dialled coming_up handed_up dial_faults link_faults shown drawn word_faults seat;
      state = state_of coming handed faults;
    }

-- ---- the start

-- a site that is fit for a proxy, or why there is none
abbrev pub IsFit : Result Site Failure → Result ProxySite Failure → Type 0
IsFit (Err why) result = result ≡ Err why
IsFit (Ok site) (Ok fit) = fit.site ≡ site
IsFit (Ok site) (Err why) = (proxy_ready site.spaces ≡ false) × (why ≡ failure.Refused refusal.NotForProxy)

-- The first worker's files are read for the site, and nothing else of the workers changes.
abbrev pub Starts : {A N F C W : Type 0} → (F → FilesState) → List ℕ → List ℕ → List (ProxyWorker A N F C W)
    → List (ProxyWorker A N F C W) → Result ProxySite Failure → Type 0
Starts {A} {N} {F} {C} {W} at store spaces before now fit =
    (first : ProxyWorker A N F C W) × (rest : List (ProxyWorker A N F C W)) × (files : F) × (site : Result Site Failure)
    × (before ≡ first ∷ rest) × (now ≡ record first { files = files } ∷ rest)
    × LoadsSite at first.files files store spaces [] site × IsFit site fit

-- Nothing but diag was touched, which was told why.
abbrev pub Refuses : {A N F C W T : Type 0} → Failure → Crew A N F C W T → Crew A N F C W T → DiagState → DiagState → ℕ → Type 0
Refuses why before now diag diag' status = (now ≡ before) × Reports (Err why) diag.written diag'.written diag.faults diag'.faults status

-- ---- the service

-- The worker at a place and its pass have served so many connections, and ended so.
abbrev pub ServesAt : {A N F C W T : Type 0} → Sight A N F C W T → Site → ℕ → Crew A N F C W T → Crew A N F C W T → ℕ → Finish → Type 0
ServesAt {A} {N} {F} {C} {W} {T} sight site connections before now k end = (w : ProxyWorker A N F C W) (t : T) →
    Serves (sight.service site) (sight.state (slice_index_or before.workers k w) (slice_index_or before.passes k t))
    (sight.state (slice_index_or now.workers k w) (slice_index_or now.passes k t)) connections end

-- Each worker has served, and all have ended as the worst of them. Or there was no memory for the lists that come back, and
-- no connection was taken.
abbrev pub ServesSite : {A N F C W T : Type 0} → Sight A N F C W T → Site → ℕ → Crew A N F C W T → Crew A N F C W T
    → Result Finish OutOfMemory → Type 0
ServesSite sight site connections before now (Ok whole) =
    EndsAsWorst (length before.workers) whole (ServesAt sight site connections before now)
ServesSite sight site connections before now (Err no_memory) = now ≡ before

-- ---- all of it

-- Without a site no connection is taken. With one, diag is told nothing.
abbrev pub ServesLoaded : {A N F C W T : Type 0} → Sight A N F C W T → Result ProxySite Failure → ℕ → Crew A N F C W T
    → Crew A N F C W T → DiagState → DiagState → ℕ → Type 0
ServesLoaded sight (Err why) connections before now diag diag' status = Refuses why before now diag diag' status
ServesLoaded sight (Ok fit) connections before now diag diag' status =
    (end : Result Finish OutOfMemory) × ServesSite sight fit.site connections before now end × (status ≡ status_for end) × (diag' ≡ diag)

abbrev pub Proxies : {A N F C W T : Type 0} → Sight A N F C W T → Option Proxying → Crew A N F C W T → Crew A N F C W T
    → DiagState → DiagState → ℕ → Type 0
Proxies sight None before now diag diag' status = Refuses failure.Usage before now diag diag' status
Proxies {A} {N} {F} {C} {W} {T} sight (Some p) before now diag diag' status =
    (workers : List (ProxyWorker A N F C W)) × (fit : Result ProxySite Failure)
    × Starts (sight.files) p.store p.spaces before.workers workers fit
    × ServesLoaded sight fit p.connections (crew workers before.passes) now diag diag' status

-- ---- causes

-- The count of the first worker's files has risen, and no connection was taken.
abbrev pub FileFaultRose : {A N F C W : Type 0} → (F → ℕ) → List (ProxyWorker A N F C W) → List (ProxyWorker A N F C W) → Type 0
FileFaultRose {A} {N} {F} {C} {W} faults before now =
    ((w : ProxyWorker A N F C W) → Rose (faults (slice_index_or before 0 w).files) (faults (slice_index_or now 0 w).files))
    × (map (λ w. w.accept) now ≡ map (λ w. w.accept) before)

-- The count of a worker's faults of handing out has risen.
abbrev pub AcceptFaultRose : {A N F C W : Type 0} → (A → ℕ) → List (ProxyWorker A N F C W) → List (ProxyWorker A N F C W) → Type 0
AcceptFaultRose {A} {N} {F} {C} {W} faults before now = (k : ℕ) × (k < length before)
    × ((w : ProxyWorker A N F C W) → Rose (faults (slice_index_or before k w).accept) (faults (slice_index_or now k w).accept))
