use Rattle.http_wire.proofs.SearchLemmas.{rest_is}
use Rattle.http_wire.proofs.front.behind.Goals as goal

pub returns : goal.returns
returns c = rest_is c.args.bytes.now c.args.at
