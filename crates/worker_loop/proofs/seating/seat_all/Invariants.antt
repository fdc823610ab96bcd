use Rattle.std.proofs.Common.{◌≡◌, ◌≤◌, ◌+◌, ◌++◌, map, vec_len, vec_capacity}
use Rattle.std.specs.Prelude.{All}
use Rattle.std.specs.Vec.Iter.{into_iter_items, into_iter_len}
use Rattle.worker_loop.specs.Jobs.{of_job}
use Rattle.worker_loop.proofs.seating.seat_all.Given as goal

abbrev pub invariant-loop-placed : goal.invariant-loop-placed
invariant-loop-placed g l = record {
  workers : map (of_job (g.P.Seating.worker_of l.seating)) l.jobs.items ++ into_iter_items l.rest ≡ into_iter_items l.initial.rest;
  seats : map (of_job (g.P.Seating.seat_of l.seating)) l.jobs.items ++ into_iter_items l.rest_seats ≡ into_iter_items l.initial.rest_seats;
  fit : All (g.P.Seating.fits l.seating) (into_iter_items l.rest_seats);
  left : into_iter_len l.rest + l.placed ≡ l.count;
  left_seats : into_iter_len l.rest_seats + l.placed ≡ l.count;
  number : vec_len l.jobs ≡ l.placed;
  room : l.count ≤ vec_capacity l.jobs;
}
