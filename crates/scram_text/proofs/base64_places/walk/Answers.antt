use Rattle.std.proofs.Common.{sym, ◌∙◌}
use Rattle.scram_text.proofs.Base64Steps.{walk_ends, walk_goes, walk_stops}
use Rattle.scram_text.proofs.base64_places.walk.Goals as goal

pub returns-in-None-clause-walks : goal.returns-in-None-clause-walks
returns-in-None-clause-walks c = walk_stops c.args.from c.loop-at.place c.args.text.now c.loop-at.at c.loop-at-test.true c.loop-at.invariant (sym c.next.ensures ∙ c.in-None.is)

pub loop-at-preserved : goal.loop-at-preserved
loop-at-preserved c = walk_goes c.args.from c.loop-at.place c.in-Some.next c.args.text.now c.loop-at.at c.loop-at-test.true c.loop-at.invariant (sym c.next.ensures ∙ c.in-Some.is)

pub returns-clause-walks : goal.returns-clause-walks
returns-clause-walks c = walk_ends c.args.from c.loop-at.place c.args.text.now c.loop-at.at c.loop-at-test.false c.loop-at.invariant
