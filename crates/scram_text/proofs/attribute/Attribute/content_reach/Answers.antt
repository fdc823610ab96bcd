use Rattle.std.proofs.Common.{sym, subst}
use Rattle.scram_text.specs.Contents.{Holds}
use Rattle.scram_text.specs.Reaching.{Reaches}
use Rattle.scram_text.specs.declared.attribute.Attribute.{Attribute}
use Rattle.scram_text.proofs.attribute.Attribute.content_reach.Goals as goal

pub returns-in-Name-clause-reach : goal.returns-in-Name-clause-reach
returns-in-Name-clause-reach c = subst (λ (a : Attribute). Reaches (Holds a) c.args.text.now c.name_reach.result) (sym c.in-Name.is) c.name_reach.ensures.reach

pub returns-in-Nonce-clause-reach : goal.returns-in-Nonce-clause-reach
returns-in-Nonce-clause-reach c = subst (λ (a : Attribute). Reaches (Holds a) c.args.text.now c.run_reach.result) (sym c.in-Nonce.is) c.run_reach.ensures.reach

pub returns-in-Extension-clause-reach : goal.returns-in-Extension-clause-reach
returns-in-Extension-clause-reach c = subst (λ (a : Attribute). Reaches (Holds a) c.args.text.now c.run_reach-in-Extension.result) (sym c.in-Extension.is) c.run_reach-in-Extension.ensures.reach

pub returns-in-Inner-clause-reach : goal.returns-in-Inner-clause-reach
returns-in-Inner-clause-reach c = subst (λ (a : Attribute). Reaches (Holds a) c.args.text.now c.run_reach-in-Inner.result) (sym c.in-Inner.is) c.run_reach-in-Inner.ensures.reach

pub returns-in-Fault-clause-reach : goal.returns-in-Fault-clause-reach
returns-in-Fault-clause-reach c = subst (λ (a : Attribute). Reaches (Holds a) c.args.text.now c.run_reach-in-Fault.result) (sym c.in-Fault.is) c.run_reach-in-Fault.ensures.reach

pub returns-in-Binding-clause-reach : goal.returns-in-Binding-clause-reach
returns-in-Binding-clause-reach c = subst (λ (a : Attribute). Reaches (Holds a) c.args.text.now c.binding_reach.result) (sym c.in-Binding.is) c.binding_reach.ensures.reach

pub returns-in-Salt-clause-reach : goal.returns-in-Salt-clause-reach
returns-in-Salt-clause-reach c = subst (λ (a : Attribute). Reaches (Holds a) c.args.text.now c.salt_reach.result) (sym c.in-Salt.is) c.salt_reach.ensures.reach

pub returns-in-Count-clause-reach : goal.returns-in-Count-clause-reach
returns-in-Count-clause-reach c = subst (λ (a : Attribute). Reaches (Holds a) c.args.text.now c.count_reach.result) (sym c.in-Count.is) c.count_reach.ensures.reach

pub returns-in-Proof-clause-reach : goal.returns-in-Proof-clause-reach
returns-in-Proof-clause-reach c = subst (λ (a : Attribute). Reaches (Holds a) c.args.text.now c.digest_reach.result) (sym c.in-Proof.is) c.digest_reach.ensures.reach

pub returns-in-Signature-clause-reach : goal.returns-in-Signature-clause-reach
returns-in-Signature-clause-reach c = subst (λ (a : Attribute). Reaches (Holds a) c.args.text.now c.digest_reach-in-Signature.result) (sym c.in-Signature.is) c.digest_reach-in-Signature.ensures.reach
