-- Who is admitted on a connection of the site.
use Rattle.std.specs.Prelude.{List, [], ℕ, Option, Some, Result, false}
use Rattle.auth_grammar.specs.declared.items.Role.TheVariants.{Origin}
use Rattle.connection_loop.specs.Account.{LinkState}
use Rattle.connection_loop.specs.Results.{ServesSession}
use Rattle.connection_loop.specs.declared.served.Served.{Served}
use Rattle.connection_loop.specs.declared.served.ServeError.{ServeError}
use Rattle.request_deciding.specs.Outside.{LackedBy}
use Rattle.request_deciding.specs.declared.server.Server.{Server}
use Rattle.served_requests.specs.Admissions.{ServesRequests}
use Rattle.served_requests.specs.Conduct.{Conduct}
use Rattle.origin_core.specs.Events.{operation_of}
use Rattle.origin_core.specs.Outside.{Outside, Passed}
use Rattle.origin_core.specs.Serving.{course, origin}
use Rattle.origin_core.specs.declared.events.FileEvent.{FileEvent}
use Rattle.origin_core.specs.declared.events.FileOperation.{FileOperation}

-- Each request is decided, and then the verdict's plan is carried out. None is answered at once.
abbrev pub conduct : Conduct FileOperation FileEvent
conduct = record {
  role = Origin;
  want_of = operation_of;
  course = λ t. Some course;
  at_once = λ t. record { text = []; admitted = false };
}

-- What was taken from the outside and given to it is one account: the session of the site over the input, with nothing left over.
-- Each request in it that was answered was admitted exactly where it was to be.
pub record ServesConnection (before now : Outside) (link link' : LinkState) (shown shown' : Option (List ℕ)) (s : Server)
    (result : Result Served ServeError) : Type 0 where
  pub session : ServesSession origin (LackedBy before.table now.table) (Passed before now) link link' shown shown' s s result
  pub requests : ServesRequests conduct before.table.seat now.table.seat link'.left s session.account result
