-- What serves connections, as contracts see it.
use Rattle.std.specs.Prelude.{ℕ, List, [], ◌++◌, Option, Result}
use Rattle.connection_loop.specs.Machine.{Machine}
use Rattle.connection_loop.specs.declared.responder.Lack.{Lack}
use Rattle.connection_loop.specs.declared.served.Served.{Served}
use Rattle.connection_loop.specs.declared.served.ServeError.{ServeError}

-- how it goes from a request to its response; what it keeps; the moments that were shown; that its outside has passed
-- through exactly these events; that this lack has come, at this ask; and what an end says besides
pub record Service (S Q E O : Type 0) : Type 1 where
  pub machine : Machine S Q E
  pub state : O → S
  pub shown : O → Option (List ℕ)
  pub passed : O → O → List E → Type 0
  pub lacked : O → O → Lack → Q → Type 0
  pub ends : O → O → Result Served ServeError → Type 0

abbrev pub service_of : {S Q E O : Type 0} → Machine S Q E → (O → S) → (O → Option (List ℕ)) → (O → O → List E → Type 0)
    → (O → O → Lack → Q → Type 0) → (O → O → Result Served ServeError → Type 0) → Service S Q E O
service_of machine state shown passed lacked ends =
    record { machine = machine; state = state; shown = shown; passed = passed; lacked = lacked; ends = ends }

-- Nothing passes by nothing, what passes in two parts passes in one, and a lack that comes later has come.
pub record IsLawful {S Q E O : Type 0} (service : Service S Q E O) : Type 0 where
  pub passed_none : (a : O) → service.passed a a []
  pub passed_join : (a b c : O) (xs ys : List E) → service.passed a b xs → service.passed b c ys → service.passed a c (xs ++ ys)
  pub lacked_later : (a b c : O) (xs : List E) → service.passed a b xs → (lack : Lack) (ask : Q)
      → service.lacked b c lack ask → service.lacked a c lack ask
