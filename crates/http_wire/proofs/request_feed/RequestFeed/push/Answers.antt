use Rattle.std.proofs.Common.{◌≡◌, ◌<◌, ◌+◌, ◌++◌, ◌^◌, List, ℕ, length, length-append, sym, subst, arith}
use Rattle.http_wire.specs.RequestPhase.{IsPhase}
use Rattle.http_wire.proofs.RequestFeedLemmas.{phase_more}
use Rattle.http_wire.proofs.request_feed.RequestFeed.push.Goals as goal

pub invariant_of-self-2 : goal.invariant_of-self-2
invariant_of-self-2 c =
    let i = c.self.inside in
    let P : List ℕ → Type 0 = λ rest. IsPhase rest i.phase × (i.at + length rest < 2 ^ 63) in
    let size : length (i.rest ++ c.args.piece.now) ≡ length i.rest + length c.args.piece.now = length-append i.rest c.args.piece.now in
    subst P (sym c.in_ok-extend.ensures.ok) (phase_more i.phase i.rest c.args.piece.now c.self.invariant.0, let r = rw (sym c.self.view_is) at c.requires in omega arith)
