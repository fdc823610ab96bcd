use Rattle.scram_text.proofs.WrittenNames.{name_reaches}
use Rattle.scram_text.proofs.names.name_reach.Goals as goal

pub returns-clause-reach : goal.returns-clause-reach
returns-clause-reach c = name_reaches c.args.text.now c.behind_name-more.ensures.0 c.behind_name-more.result.now c.partial_byte.result c.behind_name-more.ensures.1 c.partial_byte.ensures.into
