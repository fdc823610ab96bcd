use Rattle.scram_text.proofs.CountLaws.{count_stops, count_whole}
use Rattle.scram_text.proofs.counts.count_reach.Goals as goal

pub returns-in-None-clause-reach : goal.returns-in-None-clause-reach
returns-in-None-clause-reach c = count_stops c.args.text.now c.loop-at.at c.loop-at-test.true c.loop-at.invariant c.in-None.ensures.none

pub returns-clause-reach : goal.returns-clause-reach
returns-clause-reach c = count_whole c.args.text.now c.loop-at.at c.loop-at-test.false c.loop-at.invariant
