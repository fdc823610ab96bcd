use Rattle.std.proofs.Common.{◌+◌, ◌-◌, length}
use Rattle.scram_text.specs.Parts.{IsAttribute, IsTail, Then}
use Rattle.scram_text.specs.declared.attribute.Attribute.TheVariants.{Binding, Nonce}
use Rattle.scram_text.proofs.AttributeForms.{stops_at, stops_behind}
use Rattle.scram_text.proofs.ClientFinalLaws.{cuts_of, nonce_word}
use Rattle.scram_text.proofs.TailLaws.{tail_word}
use Rattle.scram_text.proofs.client_final_parts.client_final_parts.Goals as goal

pub returns-in-Err-clause-err : goal.returns-in-Err-clause-err
returns-in-Err-clause-err c = stops_at Binding (Then (IsAttribute Nonce) IsTail) nonce_word.0 nonce_word.1 c.args.text.now c.in-Err.at c.in-Err.ensures.err

pub returns-in-Err-next_part-clause-err : goal.returns-in-Err-next_part-clause-err
returns-in-Err-next_part-clause-err c =
    stops_behind Binding (Then (IsAttribute Nonce) IsTail) c.args.text.now c.in-Ok.found.0.now c.in-Ok.found.1.now c.in-Err-next_part.at c.in-Ok.ensures.ok
    (stops_at Nonce IsTail tail_word.0 tail_word.1 c.in-Ok.found.1.now c.in-Err-next_part.at c.in-Err-next_part.ensures.err)

pub returns-in-Ok-proof_behind-clause-ok : goal.returns-in-Ok-proof_behind-clause-ok
returns-in-Ok-proof_behind-clause-ok c =
    cuts_of c.args.text.now c.in-Ok.found.0.now c.in-Ok.found.1.now c.in-Ok-next_part.found.0.now c.in-Ok-next_part.found.1.now c.in-Ok-proof_behind.proof.now c.in-Ok.ensures.ok c.in-Ok-next_part.ensures.ok c.in-Ok-proof_behind.ensures.ok

pub returns-in-Err-proof_behind-clause-err : goal.returns-in-Err-proof_behind-clause-err
returns-in-Err-proof_behind-clause-err c =
    let rest = c.in-Ok.found.1.now in
    let tail = c.in-Ok-next_part.found.1.now in
    let at = c.in-Err-proof_behind.at in
    stops_behind Binding (Then (IsAttribute Nonce) IsTail) c.args.text.now c.in-Ok.found.0.now rest (length rest - length tail + at) c.in-Ok.ensures.ok
    (stops_behind Nonce IsTail rest c.in-Ok-next_part.found.0.now tail at c.in-Ok-next_part.ensures.ok c.in-Err-proof_behind.ensures.err)
