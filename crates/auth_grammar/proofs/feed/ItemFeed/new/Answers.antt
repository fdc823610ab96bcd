use Rattle.auth_grammar.proofs.FeedLaws.{begun_fed}
use Rattle.auth_grammar.proofs.feed.ItemFeed.new.Goals as goal

pub invariant_of-result : goal.invariant_of-result
invariant_of-result c = begun_fed c.new-2.result c.new.result.items c.new.ensures.items c.new-2.ensures
