use Rattle.http_wire.proofs.SearchLemmas.{head_found, head_unfound, head_goes_on}
use Rattle.http_wire.proofs.RequestFeedLemmas.{stands_at}
use Rattle.http_wire.proofs.search.search_head.Goals as goal

pub returns-in-At : goal.returns-in-At
returns-in-At c = stands_at c.args.bytes.now c.args.start c.in-At.end (head_found c.args.bytes.now c.args.start c.args.from c.requires c.in-At.end c.in-At.ensures)

pub returns-in-Missing : goal.returns-in-Missing
returns-in-Missing c =
    let b = c.args.bytes.now in
    (head_unfound b c.args.start c.args.from c.requires c.in-Missing.ensures.0, head_goes_on b c.args.start c.args.from c.requires c.in-Missing.from c.in-Missing.ensures.1)
