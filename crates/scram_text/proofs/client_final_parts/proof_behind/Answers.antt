use Rattle.scram_text.proofs.TailLaws.{inner_before, none_before}
use Rattle.scram_text.proofs.client_final_parts.proof_behind.Goals as goal

pub parts-init : goal.parts-init
parts-init c = none_before c.args.text.now

pub parts-preserved : goal.parts-preserved
parts-preserved c = inner_before c.args.text.now c.parts.rest.now c.in-Ok.field-0-0.now c.in-Ok.more.now c.parts.invariant c.in-Ok.ensures.ok
