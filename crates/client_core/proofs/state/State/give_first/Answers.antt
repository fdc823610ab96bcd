use Rattle.client_core.proofs.WritingLaws.{scram_realm}
use Rattle.client_core.proofs.state.State.give_first.Goals as goal

pub returns-clause-valid : goal.returns-clause-valid
returns-clause-valid c = c.in_ok-item.ensures.valid (scram_realm c.args.self.now c.in-Scram.choice c.in-Scram.is c.requires.quotable)
