use Rattle.std.proofs.Common.{ℕ, ◌<◌, Some, subst, arith}
use Rattle.http_wire.specs.Search.{TellsLine}
use Rattle.http_wire.proofs.ResponseFeedLemmas.{trailers_search, trailers_here}
use Rattle.http_wire.proofs.response_feed.find_trailers_end.Goals as goal

pub returns-in-Some-eq0 : goal.returns-in-Some-eq0
returns-in-Some-eq0 c =
    let none = subst (λ (n : ℕ). TellsLine c.args.first.now (Some n)) c.in-Some-eq0.field-0-test c.in-Some-eq0.ensures in
    trailers_search c.args.first.now c.args.from c.find_end.result none c.requires c.find_end.ensures

pub returns-in-Some : goal.returns-in-Some
returns-in-Some c = let some : 0 < c.in-Some.end = omega arith in trailers_here c.args.first.now c.in-Some.end c.in-Some.ensures some
