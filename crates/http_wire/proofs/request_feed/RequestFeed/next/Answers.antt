use Rattle.std.proofs.Common.{sym, subst, take}
use Rattle.http_wire.specs.declared.phase.Phase.{Phase}
use Rattle.http_wire.specs.RequestPhase.{IsPhase}
use Rattle.http_wire.proofs.RequestFeedLemmas.{tracks_start}
use Rattle.http_wire.proofs.request_feed.RequestFeed.next.Goals as goal

pub invariant_of-self-in-Body : goal.invariant_of-self-in-Body
invariant_of-self-in-Body c =
    let i = c.self.inside in
    (subst (λ (p : Phase). IsPhase i.rest p) (sym c.replace.ensures.after) (tracks_start (take 16384 i.rest)), c.self.invariant.1)
