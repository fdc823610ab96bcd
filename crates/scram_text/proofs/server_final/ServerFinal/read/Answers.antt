use Rattle.scram_text.proofs.ServerFinalLaws.{only_answer}
use Rattle.scram_text.proofs.server_final.ServerFinal.read.Goals as goal

pub returns-clause-only : goal.returns-clause-only
returns-clause-only c = only_answer c.args.text.now c.said_by.result c.said_by.ensures
