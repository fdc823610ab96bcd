use Rattle.scram_text.specs.declared.attribute.Attribute.TheVariants.{Extension}
use Rattle.scram_text.proofs.AttributeLaws.{with_is}
use Rattle.scram_text.proofs.ExtensionLaws.{one_faulty, one_more}
use Rattle.scram_text.proofs.parts.extensions_fault.Goals as goal

pub returns-in_default-content_of-clause-some : goal.returns-in_default-content_of-clause-some
returns-in_default-content_of-clause-some c = one_faulty c.args.text.now c.loop-more.rest.now c.in-Some.more.now c.first_part.result.0.now c.first_part.result.1.now c.reach.result c.loop-more.invariant c.in-Some.ensures.some c.first_part.ensures c.in_default-content_of.ensures.none c.reach.ensures.reach

pub loop-more-preserved : goal.loop-more-preserved
loop-more-preserved c = one_more c.args.text.now c.loop-more.rest.now c.in-Some.more.now c.first_part.result.0.now c.first_part.result.1.now c.loop-more.invariant c.in-Some.ensures.some c.first_part.ensures (with_is Extension c.first_part.result.0.now c.in-Some-content_of.field-0.now c.in-Some-content_of.ensures.some)
