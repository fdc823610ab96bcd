use Rattle.http_wire.proofs.SearchLemmas.{over_found, over_all}
use Rattle.http_wire.proofs.search.next_feed.Goals as goal

pub returns-in-Some-clause-goes_on : goal.returns-in-Some-clause-goes_on
returns-in-Some-clause-goes_on c = over_found c.args.bytes.now c.args.from c.in-Some.n c.requires c.in-Some.ensures

pub returns-in-None-clause-goes_on : goal.returns-in-None-clause-goes_on
returns-in-None-clause-goes_on c = over_all c.args.bytes.now c.args.from c.requires c.in-None.ensures
