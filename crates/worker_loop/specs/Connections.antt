-- The connections that a worker served, one after the other.
use Rattle.std.specs.Prelude.{◌≡◌, ℕ, Bool, true, List, [], ◌∷◌, ◌++◌, map, Option, Result, Ok, Err, ⊤}
use Rattle.std.specs.List.{AllByRecursion}
use Rattle.std.specs.Io.KnownBytes.{Consumes}
use Rattle.auth_io.specs.Handing.{Handed, HandsAll, TakesAll}
use Rattle.auth_io.specs.Told.{Adds}
use Rattle.connection_loop.specs.Account.{Account}
use Rattle.connection_loop.specs.Prefixes.{IsFront}
use Rattle.connection_loop.specs.Results.{Tells, whole_session}
use Rattle.connection_loop.specs.declared.served.Served.{Served}
use Rattle.connection_loop.specs.declared.served.ServeError.{ServeError}
use Rattle.connection_loop.specs.declared.served.ServeError.TheVariants.{Truncated, ReadFault, WriteFault, RandomFault, Worn, OutOfMemory}
use Rattle.worker_loop.specs.Service.{Service}

-- A worker at one moment: the bytes of the connections that are still to come, those that were handed out, the faults of
-- handing out, and what serves them.
pub record WorkerState (O : Type 0) : Type 0 where
  pub coming : Option (List (List ℕ))
  pub handed : Option Handed
  pub faults : ℕ
  pub server : O

abbrev pub worker_state : {A O : Type 0} → (A → Option (List (List ℕ))) → (A → Option Handed) → (A → ℕ) → A → O → WorkerState O
worker_state coming handed faults accept server =
    record { coming = coming accept; handed = handed accept; faults = faults accept; server = server }

-- One connection: what its link had to give, where that was told, and what it had left; what was taken from the outside
-- and given to it; how serving it ended; whether a call of its link failed; and what served it, before and after.
pub record Connection (E O : Type 0) : Type 0 where
  pub left : Option (List ℕ)
  pub rest : Option (List ℕ)
  pub account : Account E
  pub result : Result Served ServeError
  pub failed : Bool
  pub before : O
  pub now : O

-- ---- what they did, one after the other

abbrev pub events_of : {E O : Type 0} → List (Connection E O) → List E
events_of [] = []
events_of (c ∷ cs) = c.account.events ++ events_of cs

abbrev pub moments_of : {E O : Type 0} → List (Connection E O) → List ℕ
moments_of [] = []
moments_of (c ∷ cs) = c.account.moments ++ moments_of cs

abbrev pub left_of : {E O : Type 0} → Connection E O → Option (List ℕ)
left_of c = c.left

-- all that was written on the link, and whether one of its calls failed
abbrev pub entry_of : {E O : Type 0} → Connection E O → List ℕ × Bool
entry_of c = (c.account.output, c.failed)

-- Each begins where the one before it ended, and nothing else was done.
abbrev pub Chains : {E O : Type 0} → O → List (Connection E O) → O → Type 0
Chains u [] v = v ≡ u
Chains u (c ∷ cs) v = (c.before ≡ u) × Chains c.now cs v

-- ---- one of them

-- A fault of the link comes only where a call of this link failed.
abbrev pub HasLinkFault : Result Served ServeError → Bool → Type 0
HasLinkFault (Ok served) failed = ⊤
HasLinkFault (Err (Truncated at)) failed = ⊤
HasLinkFault (Err ReadFault) failed = failed ≡ true
HasLinkFault (Err WriteFault) failed = failed ≡ true
HasLinkFault (Err RandomFault) failed = ⊤
HasLinkFault (Err (Worn calls)) failed = ⊤
HasLinkFault (Err OutOfMemory) failed = ⊤

-- What was read stood at the front of the link's bytes, and what was done with the outside is the account's. What was written
-- and asked is the front of what the session over all of the bytes has, and the result says more: it is the whole of it
-- where the connection was served or its input cut short.
pub record IsConnection {S Q E O : Type 0} (service : Service S Q E O) (c : Connection E O) : Type 0 where
  pub gave : Consumes c.left c.rest c.account.input
  pub moments : Adds (service.shown c.before) (service.shown c.now) c.account.moments
  pub events : service.passed c.before c.now c.account.events
  pub front : IsFront (whole_session service.machine (service.state c.before) c.left c.account) service.machine c.account
  pub tells : Tells service.machine (service.lacked c.before c.now) (service.state c.before)
      (service.state c.now) c.left c.rest c.account c.result
  pub ends : service.ends c.before c.now c.result
  pub link_fault : HasLinkFault c.result c.failed

-- ---- all of them

-- Between two moments these connections were served, and nothing else was done: their links were the first of those to come,
-- each is back with what was written on it, and all that was shown and done was shown and done for them, in their order.
pub record Passes {S Q E O : Type 0} (service : Service S Q E O) (u v : WorkerState O) (cs : List (Connection E O)) : Type 0 where
  pub coming : HandsAll u.coming v.coming (map left_of cs)
  pub handed : TakesAll u.handed v.handed (map entry_of cs)
  pub chain : Chains u.server cs v.server
  pub shown : Adds (service.shown u.server) (service.shown v.server) (moments_of cs)
  pub outside : service.passed u.server v.server (events_of cs)
  pub each : AllByRecursion (IsConnection service) cs
