use Rattle.scram_text.specs.ClientFinals.{IsClientFinalText, SpellsClientFinal}
use Rattle.scram_text.proofs.FormLaws.{stops}
use Rattle.scram_text.proofs.ClientFinalLaws.{form_of, only_answer, spelled_by}
use Rattle.scram_text.proofs.client_final.ClientFinal.read.Goals as goal

pub returns-in-Ok-clause-only : goal.returns-in-Ok-clause-only
returns-in-Ok-clause-only c = only_answer c.args.text.now c.message_of.result c.message_of.ensures

pub returns-in-Err-clause-answer : goal.returns-in-Err-clause-answer
returns-in-Err-clause-answer c = (
  λ is. c.in_default.ensures.none is.more is.cut,
  stops SpellsClientFinal IsClientFinalText form_of spelled_by c.args.text.now c.in-Err.at c.in-Err.ensures.err,
)
