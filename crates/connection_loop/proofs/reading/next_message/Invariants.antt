use Rattle.std.proofs.Common.{◌≤◌, ◌+◌, ◌-◌, ◌*◌, ◌^◌, ℕ, List, length, cond}
use Rattle.connection_loop.specs.Account.{link_of}
use Rattle.connection_loop.proofs.Arrivals.{Reading, Kept}
use Rattle.connection_loop.proofs.reading.next_message.Given as goal

-- no count has fallen, and the feed holds no more than the link gave
pub record Later (a a' b b' held given : ℕ) : Type 0 where
  pub read : a ≤ a'
  pub write : b ≤ b'
  pub within : held ≤ given

abbrev pub invariant-message : goal.invariant-message
invariant-message g l =
    let at = link_of g.L.Link.left g.L.Link.given g.L.Link.written g.L.Link.reads in
    ((got : List ℕ) × (put : List ℕ) × (reads : List (ℕ × ℕ)) × Reading (at l.initial.link) (at l.link) l.initial.feed.rest got put reads × Kept l.initial.feed l.feed got put)
    × Later (g.L.Link.read_faults l.initial.link) (g.L.Link.read_faults l.link) (g.L.Link.write_faults l.initial.link) (g.L.Link.write_faults l.link)
    (l.feed.at + length l.feed.rest) (g.L.Link.given l.link)

-- each read gives some of fewer than 2^63 bytes, and a Continue comes once
abbrev pub decreases-message : goal.decreases-message
decreases-message g l = 2 * (2 ^ 63 - g.L.Link.given l.link) + cond l.feed.told 0 1
