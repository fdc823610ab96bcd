-- The jobs of several workers.
use Rattle.std.specs.Prelude.{ℕ, List, Option}
use Rattle.auth_io.specs.Handing.{Handed}
use Rattle.worker_loop.specs.Connections.{WorkerState, worker_state}
use Rattle.worker_loop.specs.declared.jobs.Job.{Job}
use Rattle.worker_loop.specs.declared.finish.Finish.{Finish}

abbrev pub job_state : {A S : Type 0} → (A → Option (List (List ℕ))) → (A → Option Handed) → (A → ℕ) → Job A S → WorkerState S
job_state coming handed faults job = worker_state coming handed faults job.accept job.server

abbrev pub finish_of : {A S : Type 0} → Job A S → Finish
finish_of job = job.finish

-- a function of what hands out connections and of what serves them, at a job
abbrev pub of_job : {A S X : Type 0} → (A → S → X) → Job A S → X
of_job f job = f job.accept job.server
