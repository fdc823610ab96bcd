use Rattle.scram_text.specs.Parts.{Ends, IsAttribute}
use Rattle.scram_text.specs.declared.attribute.Attribute.TheVariants.{Name, Nonce}
use Rattle.scram_text.proofs.AttributeForms.{last_word, stops_at, stops_behind}
use Rattle.scram_text.proofs.client_first_parts.bare_parts.Goals as goal

pub returns-in-Err-clause-err : goal.returns-in-Err-clause-err
returns-in-Err-clause-err c = stops_at Name (Ends (IsAttribute Nonce)) (last_word Nonce).0 (last_word Nonce).1 c.args.text.now c.in-Err.at c.in-Err.ensures.err

pub returns-in-Err-last_part-clause-err : goal.returns-in-Err-last_part-clause-err
returns-in-Err-last_part-clause-err c = stops_behind Name (Ends (IsAttribute Nonce)) c.args.text.now c.in-Ok.found.0.now c.in-Ok.found.1.now c.in-Err-last_part.at c.in-Ok.ensures.ok c.in-Err-last_part.ensures.err
