use Rattle.auth_decide.proofs.Refusals.{refused_first}
use Rattle.auth_decide.proofs.scram_reading.first_message.Goals as goal

pub returns-in_default : goal.returns-in_default
returns-in_default c = refused_first c.args.text.now c.in-Err.error c.in-Err.ensures.answer c.in_default.not-OutOfMemory
