-- What it says of the outside that a text was not printed whole.
use Rattle.std.proofs.Common.{◌≡◌, Ok, Err, IfErr, refl}
use Rattle.auth_io.specs.Causes.{Rose}
use Rattle.authd.specs.Endings.{Ending, FailureSays, IsPrintFailure}
use Rattle.authd.specs.Outside.{Objects, Views}
use Rattle.authd.specs.declared.failure.Failure.TheVariants as failure
use Rattle.authd.specs.declared.failure.Fault.TheVariants as fault

pub print_says : {L F C W : Type 0} (v : Views L F C W) (before now : Objects L F C W) (ending : Ending) → IfErr ending IsPrintFailure
    → (ending ≡ Err (failure.Fault fault.Write) → Rose (v.write_faults before.link) (v.write_faults now.link)) → IfErr ending (FailureSays v before now)
print_says v before now (Ok done) kind rose = tt
print_says v before now (Err (failure.Fault fault.Write)) kind rose = rose refl
print_says v before now (Err (failure.Fault fault.Read)) kind rose = absurd kind
print_says v before now (Err (failure.Fault fault.File)) kind rose = absurd kind
print_says v before now (Err (failure.Fault fault.Draw)) kind rose = absurd kind
print_says v before now (Err failure.OutOfMemory) kind rose = tt
print_says v before now (Err failure.Usage) kind rose = absurd kind
print_says v before now (Err (failure.Refused refusal)) kind rose = absurd kind
print_says v before now (Err (failure.Truncated at)) kind rose = absurd kind
print_says v before now (Err failure.Worn) kind rose = absurd kind
