-- Workers and passes, before and after they have served.
use Rattle.std.proofs.Common.{◌≡◌, refl, arith, Result, Ok, Err}
use Rattle.auth_grammar.specs.declared.octets.OutOfMemory.{OutOfMemory}
use Rattle.worker_loop.specs.declared.finish.Finish.{Finish}
use Rattle.worker_loop.specs.declared.finish.Finish.TheVariants.{Well, OutOfMemory as NoMemory, Worn, AcceptFault}
use Rattle.authd.specs.Listen.{status_for}

-- ---- the end of all

pub at_fault : (end : Result Finish OutOfMemory) → status_for end ≡ 4 → end ≡ Ok AcceptFault
at_fault (Ok Well) is = absurd (omega arith)
at_fault (Ok NoMemory) is = absurd (omega arith)
at_fault (Ok Worn) is = absurd (omega arith)
at_fault (Ok AcceptFault) is = refl
at_fault (Err no_memory) is = absurd (omega arith)

pub at_worn : (end : Result Finish OutOfMemory) → status_for end ≡ 6 → end ≡ Ok Worn
at_worn (Ok Well) is = absurd (omega arith)
at_worn (Ok NoMemory) is = absurd (omega arith)
at_worn (Ok Worn) is = refl
at_worn (Ok AcceptFault) is = absurd (omega arith)
at_worn (Err no_memory) is = absurd (omega arith)
