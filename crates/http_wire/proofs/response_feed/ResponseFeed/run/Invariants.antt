use Rattle.std.proofs.Common.{◌≡◌, length, true}
use Rattle.http_wire.specs.ResponseFeed.{ahead, is_over, Follows}
use Rattle.http_wire.proofs.response_feed.ResponseFeed.run.Given as goal

-- no step changes what it will give
abbrev pub invariant-loop-step : goal.invariant-loop-step
invariant-loop-step l = record {
  follows : Follows (λ more. ahead l.fn.self more) l.fn.self l.self;
  over : is_over l.fn.self ≡ true → is_over l.self ≡ true;
}

abbrev pub decreases-loop-step : goal.decreases-loop-step
decreases-loop-step l = length l.self.rest
