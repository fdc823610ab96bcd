-- What carrying a verdict's plan out does.
use Rattle.std.specs.Prelude.{◌≡◌, List, [], ◌∷◌, Some, Result, IfOk, ⊤}
use Rattle.auth_decide.specs.declared.verdict.Verdict.{Verdict}
use Rattle.auth_grammar.specs.declared.octets.OutOfMemory.{OutOfMemory}
use Rattle.connection_loop.specs.Machine.{Incoming}
use Rattle.connection_loop.specs.declared.responder.Response.{Response}
use Rattle.origin_core.specs.Events.{operation_of}
use Rattle.origin_core.specs.Outside.{FilesState, FilesPassed}
use Rattle.origin_core.specs.Serving.{operation_for, plan_reply}
use Rattle.origin_core.specs.declared.events.FileEvent.{FileEvent}
use Rattle.origin_core.specs.declared.plan.Plan.{Plan}

-- Of what a plan wants of the files, nothing was done, or that alone.
abbrev pub IsCarriedOut : Incoming → Plan → List FileEvent → Type 0
IsCarriedOut incoming plan [] = ⊤
IsCarriedOut incoming plan (event ∷ []) = operation_for incoming plan ≡ Some (operation_of event)
IsCarriedOut incoming plan (event ∷ more ∷ events) = ⊥

-- what was done to carry a plan out, and the reply after it
pub record CarriesOut (before now : FilesState) (incoming : Incoming) (verdict : Verdict) (plan : Plan)
    (result : Result Response OutOfMemory) : Type 0 where
  pub events : List FileEvent
  pub passed : FilesPassed before now events
  pub carried : IsCarriedOut incoming plan events
  pub replies : IfOk result (λ response. plan_reply incoming verdict plan events ≡ Some response)
