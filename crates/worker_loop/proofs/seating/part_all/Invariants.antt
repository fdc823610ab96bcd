use Rattle.std.proofs.Common.{◌≡◌, ◌≤◌, ◌+◌, ◌++◌, map, vec_len, vec_capacity}
use Rattle.std.specs.Vec.Iter.{into_iter_items, into_iter_len}
use Rattle.worker_loop.specs.Jobs.{of_job}
use Rattle.worker_loop.proofs.seating.part_all.Given as goal

abbrev pub invariant-loop-taken : goal.invariant-loop-taken
invariant-loop-taken g l = record {
  workers : l.workers.items ++ map (of_job (g.P.Seating.worker_of l.seating)) (into_iter_items l.rest) ≡ map (of_job (g.P.Seating.worker_of l.seating)) (into_iter_items l.initial.rest);
  seats : l.seats.items ++ map (of_job (g.P.Seating.seat_of l.seating)) (into_iter_items l.rest) ≡ map (of_job (g.P.Seating.seat_of l.seating)) (into_iter_items l.initial.rest);
  left : into_iter_len l.rest + l.taken ≡ l.count;
  number : vec_len l.workers ≡ l.taken;
  seat_number : vec_len l.seats ≡ l.taken;
  room : l.count ≤ vec_capacity l.workers;
  seat_room : l.count ≤ vec_capacity l.seats;
}
