-- Workers at their seats.
use Rattle.std.specs.Prelude.{◌≡◌, ℕ, ◌<◌, List, length, slice_index_or, Option}
use Rattle.auth_io.specs.Handing.{Handed}
use Rattle.worker_loop.specs.Connections.{worker_state}
use Rattle.worker_loop.specs.Ends.{worst_of}
use Rattle.worker_loop.specs.Service.{Service}
use Rattle.worker_loop.specs.Workers.{Serves}
use Rattle.worker_loop.specs.declared.finish.Finish.{Finish}
use Rattle.worker_loop.specs.declared.finish.Finish.TheVariants.{Well}

-- A worker and its seat, as they were given and as they are handed back: what hands out the worker's connections and what
-- serves them, before and after, between which the worker served and ended so.
pub record ServesPlace {S Q E O A W T : Type 0} (service : Service S Q E O) (coming : A → Option (List (List ℕ)))
    (handed : A → Option Handed) (faults : A → ℕ) (worker_of : A → O → W) (seat_of : A → O → T) (worker : W) (seat : T)
    (worker' : W) (seat' : T) (stated : ℕ) (finish : Finish) : Type 0 where
  pub accept : A
  pub server : O
  pub accept' : A
  pub server' : O
  pub worker_before : worker_of accept server ≡ worker
  pub seat_before : seat_of accept server ≡ seat
  pub worker_after : worker_of accept' server' ≡ worker'
  pub seat_after : seat_of accept' server' ≡ seat'
  pub serves : Serves service (worker_state coming handed faults accept server)
      (worker_state coming handed faults accept' server') stated finish

-- So many workers ended as their places say, and all of them as the worst of these ends.
pub record EndsAsWorst (number : ℕ) (whole : Finish) (Place : ℕ → Finish → Type 0) : Type 0 where
  pub finishes : List Finish
  pub as_many : length finishes ≡ number
  pub worst : whole ≡ worst_of Well finishes
  pub places : (k : ℕ) (finish : Finish) → k < number → Place k (slice_index_or finishes k finish)
