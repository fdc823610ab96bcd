use Rattle.nonce_shard.proofs.NonceUses.{behind, repeated}
use Rattle.nonce_shard.proofs.nonce_ring.NonceSlot.use_count.Goals as goal

pub returns-in-Behind-clause-reply : goal.returns-in-Behind-clause-reply
returns-in-Behind-clause-reply c counts held used = behind counts held c.args.count c.args.given.now c.in-Behind.high (c.in-Behind.ensures.answer counts used.window_is)

pub returns-in-Repeated-clause-reply : goal.returns-in-Repeated-clause-reply
returns-in-Repeated-clause-reply c counts held used = repeated counts held c.args.count c.args.given.now (c.in-Repeated.ensures.answer counts used.window_is)
