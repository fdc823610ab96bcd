-- How a worker ends, and several of them.
use Rattle.std.specs.Prelude.{◌≡◌, ◌≢◌, ℕ, Bool, true, false, nat_lt, if◌then◌else◌, List, [], ◌∷◌, Result, Ok, Err}
use Rattle.connection_loop.specs.declared.served.Served.{Served}
use Rattle.connection_loop.specs.declared.served.ServeError.{ServeError}
use Rattle.connection_loop.specs.declared.served.ServeError.TheVariants.{Truncated, ReadFault, WriteFault, RandomFault, Worn, OutOfMemory}
use Rattle.worker_loop.specs.declared.finish.After.{After}
use Rattle.worker_loop.specs.declared.finish.After.TheVariants.{Next, NoMemory, Stop}
use Rattle.worker_loop.specs.declared.finish.Finish.{Finish}
use Rattle.worker_loop.specs.declared.finish.Finish.TheVariants as finish

-- how a worker goes on after a connection that ended so
abbrev pub after : Result Served ServeError → After
after (Ok served) = Next
after (Err (Truncated at)) = Next
after (Err ReadFault) = Next
after (Err WriteFault) = Next
after (Err RandomFault) = Next
after (Err (Worn calls)) = Stop
after (Err OutOfMemory) = NoMemory

abbrev pub is_no_memory : After → Bool
is_no_memory Next = false
is_no_memory NoMemory = true
is_no_memory Stop = false

-- No draw of random words failed, by their count before and after, but where the connection ended by it.
abbrev pub DrawsWell : ℕ → ℕ → Result Served ServeError → Type 0
DrawsWell before now result = result ≢ Err RandomFault → now ≡ before

-- how bad an end is
abbrev pub rank : Finish → ℕ
rank finish.Well = 0
rank finish.OutOfMemory = 1
rank finish.Worn = 2
rank finish.AcceptFault = 3

-- the worse one of two
abbrev pub worse : Finish → Finish → Finish
worse f g = if nat_lt (rank f) (rank g) then g else f

-- the worst of an end and those that follow
abbrev pub worst_of : Finish → List Finish → Finish
worst_of f [] = f
worst_of f (g ∷ fs) = worst_of (worse f g) fs
