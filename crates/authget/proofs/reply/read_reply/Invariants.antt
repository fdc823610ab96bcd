use Rattle.std.proofs.Common.{◌≡◌, ◌≤◌, ◌-◌, ◌^◌, ℕ, List, false}
use Rattle.std.specs.Io.KnownBytes.{Consumes}
use Rattle.http_wire.specs.ResponseFeed.{Holds}
use Rattle.authget.proofs.reply.read_reply.Given as goal

abbrev pub invariant-reply : goal.invariant-reply
invariant-reply g l =
    ((got : List ℕ) × Consumes (g.L.Link.left l.initial.link) (g.L.Link.left l.link) got × Holds l.feed 0 got)
    × (l.feed.to_head ≡ false)
    × (l.feed.count ≤ g.L.Link.given l.link)
    × (g.L.Link.written l.link ≡ g.L.Link.written l.initial.link)
    × (g.L.Link.write_faults l.link ≡ g.L.Link.write_faults l.initial.link)
    × (g.L.Link.read_faults l.link ≡ g.L.Link.read_faults l.initial.link)

-- each read gives some of fewer than 2^63 bytes
abbrev pub decreases-reply : goal.decreases-reply
decreases-reply g l = 2 ^ 63 - g.L.Link.given l.link
