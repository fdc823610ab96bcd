use Rattle.std.proofs.Common.{◌<◌, ◌+◌, None, Some, arith}
use Rattle.http_wire.proofs.SearchLemmas.{end_step, end_found, end_open, goes_further, ends_at, end_none}
use Rattle.http_wire.proofs.search.find_end.Goals as goal

pub returns-in-None : goal.returns-in-None
returns-in-None c = (end_open c.args.bytes.now c.args.from c.ends.at c.ends.invariant (ends_at c.args.bytes.now c.ends.at None c.in-None.ensures), c.ends.invariant)

pub ends-preserved : goal.ends-preserved
ends-preserved c =
    let past = end_step c.args.bytes.now c.args.from c.ends.at c.ends.invariant (end_none c.args.bytes.now c.ends.at c.in-Some-eq0.field-0 c.in-Some-eq0.field-0-test c.in-Some-eq0.ensures) in
    goes_further c.args.bytes.now c.args.from (c.ends.at + 1) _ past c.next_feed-at-in-Some-eq0.ensures.goes_on

pub returns-in-Some : goal.returns-in-Some
returns-in-Some c = let more : 0 < c.in-Some.n = omega arith in
    end_found c.args.bytes.now c.args.from c.ends.at c.in-Some.n c.ends.invariant (ends_at c.args.bytes.now c.ends.at (Some c.in-Some.n) c.in-Some.ensures) more
