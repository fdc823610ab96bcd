use Rattle.std.proofs.Common.{arith}
use Rattle.scram_text.proofs.WordLaws.{word_stops, word_whole}
use Rattle.scram_text.proofs.runs.word_reach.Goals as goal

pub returns-then-at-word-clause-reach : goal.returns-then-at-word-clause-reach
returns-then-at-word-clause-reach c = word_stops c.args.word.now c.args.text.now c.loop-at.at c.loop-at-test.true c.loop-at.invariant.1 c.loop-at.invariant.0 (λ below. absurd (omega (arith, c.if-at-word.true)))

pub returns-then-word-at-clause-reach : goal.returns-then-word-at-clause-reach
returns-then-word-at-clause-reach c = word_stops c.args.word.now c.args.text.now c.loop-at.at c.loop-at-test.true c.loop-at.invariant.1 c.loop-at.invariant.0 (λ below. c.if-word-at.true)

pub returns-clause-reach : goal.returns-clause-reach
returns-clause-reach c = word_whole c.args.word.now c.args.text.now c.loop-at.at c.loop-at-test.false c.loop-at.invariant.0
