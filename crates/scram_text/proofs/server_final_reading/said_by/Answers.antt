use Rattle.scram_text.specs.Parts.{Ends, IsAttribute}
use Rattle.scram_text.specs.ServerFinals.{IsServerFinalText, SpellsServerFinal}
use Rattle.scram_text.specs.declared.attribute.Attribute.TheVariants.{Signature, Fault}
use Rattle.scram_text.proofs.EitherLaws.{either_halts}
use Rattle.scram_text.proofs.FormLaws.{stops}
use Rattle.scram_text.proofs.ServerFinalLaws.{form_of, spelled_by}
use Rattle.scram_text.proofs.server_final_reading.said_by.Goals as goal

pub returns-in-Err-last_part : goal.returns-in-Err-last_part
returns-in-Err-last_part c =
    stops SpellsServerFinal IsServerFinalText form_of spelled_by c.args.text.now c.farther.result
    (either_halts (Ends (IsAttribute Signature)) (Ends (IsAttribute Fault)) c.args.text.now c.in-Err.at c.in-Err-last_part.failed c.farther.result c.farther.ensures.first c.farther.ensures.second c.farther.ensures.one c.in-Err.ensures.err c.in-Err-last_part.ensures.err)
