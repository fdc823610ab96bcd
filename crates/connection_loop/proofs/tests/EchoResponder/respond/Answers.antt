use Rattle.std.proofs.Common.{[], ℕ, List, refl, sym, ap}
use Rattle.connection_loop.specs.Machine.{Says}
use Rattle.connection_loop.proofs.Turns.{turn-says, at_start, at_no_memory}
use Rattle.connection_loop.proofs.tests.EchoResponder.respond.Goals as goal

pub returns-in-Ok : goal.returns-in-Ok
returns-in-Ok c = record {
  responds = ([], refl, λ more. turn-says _ more tt tt _ [] _ (ap (λ (text : List ℕ). Says (record { text = text; admitted = c.args.last }) tt) (sym c.in-Ok.ensures)));
  draws = λ _. refl;
}

pub returns-in-Err : goal.returns-in-Err
returns-in-Err c = record { responds = ([], refl, at_no_memory _ tt _ [] (at_start _ tt _)); draws = λ _. refl }
