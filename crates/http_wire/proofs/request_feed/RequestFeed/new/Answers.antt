use Rattle.std.proofs.Common.{List, ℕ, take, length, ◌+◌, ◌<◌, ◌^◌, sym, subst, arith}
use Rattle.http_wire.specs.declared.search.Place.TheVariants.{Blank}
use Rattle.http_wire.specs.Search.{Tracks}
use Rattle.http_wire.proofs.RequestFeedLemmas.{tracks_none}
use Rattle.http_wire.proofs.request_feed.RequestFeed.new.Goals as goal

pub invariant_of-result : goal.invariant_of-result
invariant_of-result c =
    let P : List ℕ → Type 0 = λ rest. Tracks (take 16384 rest) (Blank 0) × (0 + length rest < 2 ^ 63) in
    subst P (sym c.new.ensures) (tracks_none, omega arith)
