-- What a worker does, and how it ends.
use Rattle.std.specs.Prelude.{◌≡◌, ◌≢◌, ℕ, ◌≤◌, ◌<◌, Bool, true, false, ◌||◌, List, [], ◌∷◌, ◌++◌, length, Result, Ok, Err}
use Rattle.std.specs.List.{AllByRecursion}
use Rattle.auth_io.specs.Causes.{Rose}
use Rattle.auth_io.specs.declared.stream.Failed.{Failed}
use Rattle.worker_loop.specs.Connections.{WorkerState, Connection, Passes}
use Rattle.worker_loop.specs.Ends.{after, is_no_memory}
use Rattle.worker_loop.specs.Service.{Service}
use Rattle.worker_loop.specs.declared.finish.After.{After}
use Rattle.worker_loop.specs.declared.finish.After.TheVariants.{Stop}
use Rattle.worker_loop.specs.declared.finish.Finish.{Finish}
use Rattle.worker_loop.specs.declared.finish.Finish.TheVariants as finish

-- ---- after one connection

-- One connection was served, or none came, for a fault that was counted.
abbrev pub ServesOne : {S Q E O : Type 0} → Service S Q E O → WorkerState O → WorkerState O → Result After Failed → Type 0
ServesOne {E = E} {O = O} service u v (Ok next) =
    (c : Connection E O) × Passes service u v (c ∷ []) × (next ≡ after c.result) × (v.faults ≡ u.faults)
ServesOne service u v (Err failed) = Passes service u v [] × Rose u.faults v.faults

-- ---- all of them

-- the worker went on after it
abbrev pub WentOn : {E O : Type 0} → Connection E O → Type 0
WentOn c = after c.result ≢ Stop

-- whether one of them ended by want of memory
abbrev pub wants_memory : {E O : Type 0} → List (Connection E O) → Bool
wants_memory [] = false
wants_memory (c ∷ cs) = is_no_memory (after c.result) || wants_memory cs

-- as many as stated, after each of which the worker went on, and no fault of handing out
pub record ServedAll {E O : Type 0} (u v : WorkerState O) (stated : ℕ) (cs : List (Connection E O)) : Type 0 where
  pub number : length cs ≡ stated
  pub went_on : AllByRecursion WentOn cs
  pub faults : v.faults ≡ u.faults

-- fewer or as many, of which the last one found that the server can't go on
pub record StoppedWorn {E O : Type 0} (u v : WorkerState O) (stated : ℕ) (cs : List (Connection E O)) : Type 0 where
  pub number : length cs ≤ stated
  pub front : List (Connection E O)
  pub last : Connection E O
  pub are : cs ≡ front ++ last ∷ []
  pub went_on : AllByRecursion WentOn front
  pub stops : after last.result ≡ Stop
  pub faults : v.faults ≡ u.faults

-- fewer, and then a fault of handing out
pub record StoppedAtFault {E O : Type 0} (u v : WorkerState O) (stated : ℕ) (cs : List (Connection E O)) : Type 0 where
  pub number : length cs < stated
  pub went_on : AllByRecursion WentOn cs
  pub faults : Rose u.faults v.faults

-- What the end of a worker says of the connections that it served.
abbrev pub Finishes : {E O : Type 0} → Finish → WorkerState O → WorkerState O → ℕ → List (Connection E O) → Type 0
Finishes finish.Well u v stated cs = ServedAll u v stated cs × (wants_memory cs ≡ false)
Finishes finish.OutOfMemory u v stated cs = ServedAll u v stated cs × (wants_memory cs ≡ true)
Finishes finish.Worn u v stated cs = StoppedWorn u v stated cs
Finishes finish.AcceptFault u v stated cs = StoppedAtFault u v stated cs

-- A worker that is to serve so many connections has served these, and ended so.
pub record Serves {S Q E O : Type 0} (service : Service S Q E O) (u v : WorkerState O) (stated : ℕ) (finish : Finish) : Type 0 where
  pub connections : List (Connection E O)
  pub passes : Passes service u v connections
  pub finishes : Finishes finish u v stated connections
