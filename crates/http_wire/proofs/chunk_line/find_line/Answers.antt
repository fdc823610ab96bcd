use Rattle.http_wire.proofs.chunk_line.find_line.Goals as goal
use Rattle.std.proofs.Common.{refl, sym, arith, ◌∙◌}
use Rattle.http_wire.proofs.ChunkLineLemmas.{line_done, line_never, line_unsure}

pub returns-in-Done : goal.returns-in-Done
returns-in-Done c = (line_done c.args.bytes.now c.loop-at.at c.loop-at.part c.loop-at.invariant _ c.loop-at-test.true refl (sym c.line_step.ensures ∙ c.in-Done.is), omega arith)

pub returns-in-Never : goal.returns-in-Never
returns-in-Never c = line_never c.args.bytes.now c.loop-at.at c.loop-at.part c.loop-at.invariant _ c.loop-at-test.true refl (sym c.line_step.ensures ∙ c.in-Never.is)

pub returns : goal.returns
returns c = (line_unsure c.args.bytes.now c.loop-at.at c.loop-at.part c.loop-at.invariant c.loop-at-test.false, c.loop-at.invariant)
