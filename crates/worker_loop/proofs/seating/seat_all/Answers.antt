use Rattle.std.proofs.Common.{List, subst, arith}
use Rattle.std.proofs.lemmas.List.Elements.{All-head, All-tail}
use Rattle.std.specs.Prelude.{All}
use Rattle.std.specs.Vec.Iter.{into_iter_items}
use Rattle.worker_loop.proofs.Places.{pushed}
use Rattle.worker_loop.specs.Jobs.{of_job}
use Rattle.worker_loop.proofs.seating.seat_all.Goals as goal

pub seated-accept-requires : goal.seated-accept-requires
seated-accept-requires g c =
    let fits = g.P.Seating.fits c.args.seating.now in
    All-head fits c.in-Some-next.seat (into_iter_items c.next-in-loop-placed.new.self)
    (subst (λ (l : List _). All fits l) c.in-Some-next.ensures.items c.loop-placed.invariant.fit)

pub loop-placed-preserved : goal.loop-placed-preserved
loop-placed-preserved g c =
    let fits = g.P.Seating.fits c.args.seating.now in
    record {
      workers = pushed (of_job (g.P.Seating.worker_of c.args.seating.now)) _ _ _ _ _ _ _ c.push_reserved.ensures.items c.seated-accept.ensures.worker c.in-Some.ensures.items c.loop-placed.invariant.workers;
      seats = pushed (of_job (g.P.Seating.seat_of c.args.seating.now)) _ _ _ _ _ _ _ c.push_reserved.ensures.items c.seated-accept.ensures.seat c.in-Some-next.ensures.items c.loop-placed.invariant.seats;
      fit = All-tail fits c.in-Some-next.seat (into_iter_items c.next-in-loop-placed.new.self) (subst (λ (l : List _). All fits l) c.in-Some-next.ensures.items c.loop-placed.invariant.fit);
      left = omega (arith, c.in-Some.ensures.len);
      left_seats = omega (arith, c.in-Some-next.ensures.len);
      number = omega arith;
      room = omega arith;
    }
