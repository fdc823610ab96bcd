use Rattle.scram_text.proofs.WrittenNames.{name_next}
use Rattle.scram_text.proofs.names.behind_name.Goals as goal

pub loop-byte-preserved : goal.loop-byte-preserved
loop-byte-preserved c = name_next c.args.text.now c.loop-byte.rest.now c.in-Some.more.now c.in-Some._byte c.loop-byte.invariant c.in-Some.ensures.some
