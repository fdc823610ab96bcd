use Rattle.std.proofs.Common.{◌-◌, ◌^◌}
use Rattle.dial_exchange.proofs.Conversations.{IsReading}
use Rattle.dial_exchange.specs.Talking.{talk_state}
use Rattle.dial_exchange.proofs.reading.receive.Given as goal

-- the feed stands for what was read
abbrev pub invariant-loop-count : goal.invariant-loop-count
invariant-loop-count g l =
    let at = talk_state g.L.Link.left g.L.Link.written g.L.Link.read_faults g.L.Link.write_faults in
    IsReading l.to_head (at l.initial.link) (at l.link) l.feed l.feed.count (g.L.Link.given l.link)

abbrev pub decreases-loop-count : goal.decreases-loop-count
decreases-loop-count g l = 2 ^ 63 - g.L.Link.given l.link
