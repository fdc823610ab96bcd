use Rattle.client_core.proofs.WritingLaws.{finished_sid}
use Rattle.client_core.proofs.state.State.give_again.Goals as goal

pub returns-clause-valid : goal.returns-clause-valid
returns-clause-valid c = c.in_ok-item.ensures.valid (finished_sid c.args.self.now c.in-Finished.exchange c.in-Finished.last c.in-Finished.is c.requires)
