-- What `listen` does: the first worker's files give a site, and then all workers serve it, each on the pass at its place.
use Rattle.std.specs.Prelude.{◌≡◌, ℕ, ◌<◌, ◌==◌, if◌then◌else◌, List, ◌∷◌, map, length, slice_index_or, Option, Some, None, Result, Ok, Err}
use Rattle.auth_decide.specs.declared.site.Site.{Site}
use Rattle.auth_grammar.specs.declared.octets.OutOfMemory.{OutOfMemory}
use Rattle.auth_io.specs.Causes.{Rose}
use Rattle.auth_io.specs.Files.{Contents}
use Rattle.auth_io.specs.Handing.{Handed}
use Rattle.auth_io.specs.declared.files.Ending.{Ending}
use Rattle.listen_core.specs.Workers.{NotesLimit, origin_service, state_of}
use Rattle.listen_core.specs.declared.server.OriginServer.{OriginServer}
use Rattle.listen_core.specs.declared.workers.Worker.{Worker}
use Rattle.nonce_shard.specs.Seat.{Seat}
use Rattle.origin_core.specs.Outside.{FilesState, files_state}
use Rattle.origin_core.specs.declared.events.FileEvent.{FileEvent}
use Rattle.origin_core.specs.declared.events.FileOperation.{FileOperation}
use Rattle.request_deciding.specs.declared.events.Event.{Event}
use Rattle.request_deciding.specs.declared.events.Operation.{Operation}
use Rattle.request_deciding.specs.declared.server.Server.{Server}
use Rattle.worker_loop.specs.Connections.{WorkerState}
use Rattle.worker_loop.specs.Seating.{EndsAsWorst}
use Rattle.worker_loop.specs.Service.{Service}
use Rattle.worker_loop.specs.Workers.{Serves}
use Rattle.worker_loop.specs.declared.finish.Finish.{Finish}
use Rattle.worker_loop.specs.declared.finish.Finish.TheVariants as finish
use Rattle.authd.specs.Endings.{Reports}
use Rattle.authd.specs.Loading.{LoadsSite}
use Rattle.authd.specs.Words.{Listening}
use Rattle.authd.specs.declared.failure.Failure.{Failure}
use Rattle.authd.specs.declared.failure.Failure.TheVariants as failure

-- what words of `listen` ask of so many workers
abbrev pub for_workers : ℕ → Option Listening → Option Listening
for_workers number None = None
for_workers number (Some l) = if l.workers == number then Some l else None

-- the exit status of workers that ended so, or that there was no memory for
abbrev pub status_for : Result Finish OutOfMemory → ℕ
status_for (Ok finish.Well) = 0
status_for (Ok finish.OutOfMemory) = 7
status_for (Ok finish.Worn) = 6
status_for (Ok finish.AcceptFault) = 4
status_for (Err no_memory) = 7

-- ---- what is seen

-- workers, and the pass of each at its place
pub record Crew (A F C W T : Type 0) : Type 0 where
  pub workers : List (Worker A F C W)
  pub passes : List T

abbrev pub crew : {A F C W T : Type 0} → List (Worker A F C W) → List T → Crew A F C W T
crew workers passes = record { workers = workers; passes = passes }

-- what files tell, how a site is served, and a worker beside its pass
pub record Sight (A F C W T : Type 0) : Type 1 where
  pub files : F → FilesState
  pub service : Site → Service Server (Operation FileOperation) (Event FileEvent) (OriginServer F C W T)
  pub state : Worker A F C W → T → WorkerState (OriginServer F C W T)

abbrev pub sight_of : {A F C W T : Type 0} → (A → Option (List (List ℕ))) → (A → Option Handed) → (A → ℕ)
    → (F → Option Contents) → (F → Option (List (List ℕ × Ending))) → (F → ℕ)
    → (C → Option (List ℕ)) → (W → Option (List (List ℕ))) → (W → ℕ) → (T → Seat) → Sight A F C W T
sight_of coming handed faults contents asked file_faults shown drawn word_faults seat = record {
  files = files_state contents asked file_faults;
  service = origin_service contents asked file_faults shown drawn word_faults seat;
  state = state_of coming handed faults;
}

-- what diag was told, and the count of its faults
pub record DiagState : Type 0 where
  pub written : Option (List ℕ)
  pub faults : ℕ

abbrev pub diag_state : {D : Type 0} → (D → Option (List ℕ)) → (D → ℕ) → D → DiagState
diag_state written faults diag = record { written = written diag; faults = faults diag }

-- ---- the start

-- The first worker's files are read for the site, and nothing else of the workers changes.
abbrev pub Starts : {A F C W : Type 0} → (F → FilesState) → List ℕ → List ℕ → List ℕ → List (Worker A F C W)
    → List (Worker A F C W) → Result Site Failure → Type 0
Starts {A} {F} {C} {W} at store spaces root before now site =
    (first : Worker A F C W) × (rest : List (Worker A F C W)) × (files : F)
    × (before ≡ first ∷ rest) × (now ≡ record first { files = files } ∷ rest)
    × LoadsSite at first.files files store spaces root site

-- Nothing but diag was touched, which was told why.
abbrev pub Refuses : {A F C W T : Type 0} → Failure → Crew A F C W T → Crew A F C W T → DiagState → DiagState → ℕ → Type 0
Refuses why before now diag diag' status = (now ≡ before) × Reports (Err why) diag.written diag'.written diag.faults diag'.faults status

-- ---- the service

-- The worker at a place and its pass have served so many connections, and ended so.
abbrev pub ServesAt : {A F C W T : Type 0} → Sight A F C W T → Site → ℕ → Crew A F C W T → Crew A F C W T → ℕ → Finish → Type 0
ServesAt {A} {F} {C} {W} {T} sight site connections before now k end = (w : Worker A F C W) (t : T) →
    Serves (sight.service site) (sight.state (slice_index_or before.workers k w) (slice_index_or before.passes k t))
    (sight.state (slice_index_or now.workers k w) (slice_index_or now.passes k t)) connections end

-- Each worker has served, and all have ended as the worst of them. Or there was no memory for the lists that come back, and
-- no connection was taken.
abbrev pub ServesSite : {A F C W T : Type 0} → Sight A F C W T → Site → ℕ → Crew A F C W T → Crew A F C W T
    → Result Finish OutOfMemory → Type 0
ServesSite sight site connections before now (Ok whole) =
    EndsAsWorst (length before.workers) whole (ServesAt sight site connections before now)
ServesSite sight site connections before now (Err no_memory) = now ≡ before

-- ---- all of it

-- Without a site no connection is taken. With one, diag is told nothing.
abbrev pub ServesLoaded : {A F C W T : Type 0} → Sight A F C W T → Result Site Failure → ℕ → Crew A F C W T → Crew A F C W T
    → DiagState → DiagState → ℕ → Type 0
ServesLoaded sight (Err why) connections before now diag diag' status = Refuses why before now diag diag' status
ServesLoaded sight (Ok site) connections before now diag diag' status =
    (end : Result Finish OutOfMemory) × ServesSite sight site connections before now end × (status ≡ status_for end) × (diag' ≡ diag)

abbrev pub Listens : {A F C W T : Type 0} → Sight A F C W T → Option Listening → Crew A F C W T → Crew A F C W T → DiagState
    → DiagState → ℕ → Type 0
Listens sight None before now diag diag' status = Refuses failure.Usage before now diag diag' status
Listens {A} {F} {C} {W} {T} sight (Some l) before now diag diag' status =
    (workers : List (Worker A F C W)) × (site : Result Site Failure)
    × Starts (sight.files) l.store l.spaces l.root before.workers workers site
    × ServesLoaded sight site l.connections (crew workers before.passes) now diag diag' status

-- ---- causes

-- The count of the first worker's files has risen, and no connection was taken.
abbrev pub FileFaultRose : {A F C W : Type 0} → (F → ℕ) → List (Worker A F C W) → List (Worker A F C W) → Type 0
FileFaultRose {A} {F} {C} {W} faults before now =
    ((w : Worker A F C W) → Rose (faults (slice_index_or before 0 w).files) (faults (slice_index_or now 0 w).files))
    × (map (λ w. w.accept) now ≡ map (λ w. w.accept) before)

-- The count of a worker's faults of handing out has risen.
abbrev pub AcceptFaultRose : {A F C W : Type 0} → (A → ℕ) → List (Worker A F C W) → List (Worker A F C W) → Type 0
AcceptFaultRose {A} {F} {C} {W} faults before now = (k : ℕ) × (k < length before)
    × ((w : Worker A F C W) → Rose (faults (slice_index_or before k w).accept) (faults (slice_index_or now k w).accept))

-- A pass notes of a shard that it is at its limit.
abbrev pub SomeWorn : {T : Type 0} → (T → Seat) → List T → List T → Type 0
SomeWorn {T} seat before now = (k : ℕ) × (k < length before)
    × ((t : T) → NotesLimit (seat (slice_index_or before k t)) (seat (slice_index_or now k t)))
