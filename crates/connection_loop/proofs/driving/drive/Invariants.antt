use Rattle.std.proofs.Common.{◌≡◌, ◌≤◌, ◌+◌, ℕ, List, length}
use Rattle.std.specs.List.{AllByRecursion}
use Rattle.auth_io.specs.Told.{Adds}
use Rattle.http_wire.specs.RequestFeed.{Held}
use Rattle.connection_loop.specs.Machine.{Machine}
use Rattle.connection_loop.specs.Account.{Account, LinkState, LinkPassed, link_of}
use Rattle.connection_loop.specs.Results.{IsPrompt}
use Rattle.connection_loop.specs.Steps.{IsBetween}
use Rattle.connection_loop.proofs.Whole.{Reached}
use Rattle.connection_loop.proofs.driving.drive.Given as goal

-- the account so far
pub record SoFar {S Q E : Type 0} (m : Machine S Q E) (passed : List E → Type 0) (link link' : LinkState) (Shown : List ℕ → Type 0) (before now : S) (held : Held) (requests admitted : ℕ) : Type 0 where
  pub account : Account E
  pub linked : LinkPassed link link' account.input account.output account.reads
  pub moments : Shown account.moments
  pub events : passed account.events
  pub prompt : AllByRecursion (IsPrompt m before account) account.reads
  pub reached : Reached m before now account held requests admitted

-- no count has fallen, no draw has failed, and the feed stands between two messages
pub record Later (a a' b b' d d' requests admitted given : ℕ) (held : Held) : Type 0 where
  pub read : a ≤ a'
  pub write : b ≤ b'
  pub draws : d' ≡ d
  pub few : admitted ≤ requests
  pub between : IsBetween held
  pub within : held.at + length held.rest ≤ given

abbrev pub invariant-loop-requests : goal.invariant-loop-requests
invariant-loop-requests g l =
    let at = link_of g.L.Link.left g.L.Link.given g.L.Link.written g.L.Link.reads in
    SoFar {Q = g.row.R-Ask.Denot} g.R.Responder.machine (g.R.Responder.passed l.initial.responder l.responder) (at l.initial.link) (at l.link)
    (Adds (g.C.Clock.shown l.initial.clock) (g.C.Clock.shown l.clock)) (g.R.Responder.state l.initial.responder) (g.R.Responder.state l.responder) l.feed l.requests l.admitted
    × Later (g.L.Link.read_faults l.initial.link) (g.L.Link.read_faults l.link) (g.L.Link.write_faults l.initial.link) (g.L.Link.write_faults l.link)
    (g.R.Responder.failed_draws l.initial.responder) (g.R.Responder.failed_draws l.responder)
    l.requests l.admitted (g.L.Link.given l.link) l.feed
