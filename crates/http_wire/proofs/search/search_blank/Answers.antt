use Rattle.std.proofs.Common.{◌<◌, None, Some, arith}
use Rattle.http_wire.proofs.SearchLemmas.{blank_step, blank_end, blank_open, line_at, line_none}
use Rattle.http_wire.proofs.search.search_blank.Goals as goal

pub returns-in-None : goal.returns-in-None
returns-in-None c = (blank_open c.args.bytes.now c.lines.at c.lines.invariant (line_at c.args.bytes.now c.lines.at None c.in-None.ensures), c.lines.invariant)

pub search_head-requires : goal.search_head-requires
search_head-requires c = blank_end c.args.bytes.now c.lines.at c.lines.invariant (line_none c.args.bytes.now c.lines.at c.in-Some-eq0.field-0 c.in-Some-eq0.field-0-test c.in-Some-eq0.ensures)

pub lines-preserved : goal.lines-preserved
lines-preserved c = let more : 0 < c.in-Some.n = omega arith in
    blank_step c.args.bytes.now c.lines.at c.in-Some.n c.lines.invariant (line_at c.args.bytes.now c.lines.at (Some c.in-Some.n) c.in-Some.ensures) more
