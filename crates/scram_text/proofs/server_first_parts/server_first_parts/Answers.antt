use Rattle.std.proofs.Common.{◌+◌, ◌-◌, length}
use Rattle.scram_text.specs.Parts.{Ends, IsAttribute}
use Rattle.scram_text.specs.declared.attribute.Attribute.TheVariants.{Nonce, Salt, Count}
use Rattle.scram_text.proofs.AttributeForms.{last_word, stops_at, stops_behind}
use Rattle.scram_text.proofs.ServerFirstLaws.{BehindNonce, cuts_of, salt_word}
use Rattle.scram_text.proofs.server_first_parts.server_first_parts.Goals as goal

pub returns-in-Err-clause-err : goal.returns-in-Err-clause-err
returns-in-Err-clause-err c = stops_at Nonce BehindNonce salt_word.0 salt_word.1 c.args.text.now c.in-Err.at c.in-Err.ensures.err

pub returns-in-Err-next_part-clause-err : goal.returns-in-Err-next_part-clause-err
returns-in-Err-next_part-clause-err c =
    stops_behind Nonce BehindNonce c.args.text.now c.in-Ok.found.0.now c.in-Ok.found.1.now c.in-Err-next_part.at c.in-Ok.ensures.ok
    (stops_at Salt (Ends (IsAttribute Count)) (last_word Count).0 (last_word Count).1 c.in-Ok.found.1.now c.in-Err-next_part.at c.in-Err-next_part.ensures.err)

pub returns-in-Ok-last_part-clause-ok : goal.returns-in-Ok-last_part-clause-ok
returns-in-Ok-last_part-clause-ok c =
    cuts_of c.args.text.now c.in-Ok.found.0.now c.in-Ok.found.1.now c.in-Ok-next_part.found.0.now c.in-Ok-next_part.found.1.now c.in-Ok-last_part.count.now c.in-Ok.ensures.ok c.in-Ok-next_part.ensures.ok c.in-Ok-last_part.ensures.ok

pub returns-in-Err-last_part-clause-err : goal.returns-in-Err-last_part-clause-err
returns-in-Err-last_part-clause-err c =
    let rest = c.in-Ok.found.1.now in
    let last = c.in-Ok-next_part.found.1.now in
    let at = c.in-Err-last_part.at in
    stops_behind Nonce BehindNonce c.args.text.now c.in-Ok.found.0.now rest (length rest - length last + at) c.in-Ok.ensures.ok
    (stops_behind Salt (Ends (IsAttribute Count)) rest c.in-Ok-next_part.found.0.now last at c.in-Ok-next_part.ensures.ok c.in-Err-last_part.ensures.err)
