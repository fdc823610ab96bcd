use Rattle.std.proofs.Common.{◌≡◌, ◌<◌, List, length, map, sym, ap, ◌∙◌, subst, arith, rules, get_or}
use Rattle.std.proofs.lemmas.List.{length-map}
use Rattle.std.specs.Prelude.{refl}
use Rattle.worker_loop.proofs.Places.{part_at, some_of, whole_slice}
use Rattle.worker_loop.specs.Jobs.{finish_of, job_state, of_job}
use Rattle.worker_loop.specs.Service.{service_of}
use Rattle.worker_loop.specs.Workers.{Serves}
use Rattle.worker_loop.specs.declared.finish.Finish.{Finish}
use Rattle.worker_loop.specs.declared.jobs.Job.{Job}
use Rattle.worker_loop.proofs.seating.serve_seated.Goals as goal

pub returns-clause-each : goal.returns-clause-each
returns-clause-each g c =
    let old = c.as_mut_slice.result.now in
    let new = c.serve_jobs-finish.new.jobs in
    let worker_of = g.P.Seating.worker_of c.args.seating.now in
    let seat_of = g.P.Seating.seat_of c.args.seating.now in
    let a : map (of_job worker_of) old ≡ c.args.workers.items = search rules in
    let b : map (of_job seat_of) old ≡ c.args.seats.items = search rules in
    let same : length new ≡ length old = omega arith in
    let size : c.seat_all.new.jobs.len ≡ length new = omega arith in
    let whole = whole_slice c.seat_all.new.jobs.len new _ size in
    let x : map (of_job worker_of) new ≡ c.part_all.new.workers.items = ap (λ (l : List (Job _ _)). map (of_job worker_of) l) whole ∙ sym c.part_all.ensures.workers in
    let y : map (of_job seat_of) new ≡ c.part_all.new.seats.items = ap (λ (l : List (Job _ _)). map (of_job seat_of) l) whole ∙ sym c.part_all.ensures.seats in
    let sizes : length (map finish_of new) ≡ length new = length-map new finish_of in
    let number : length (map finish_of new) ≡ c.args.workers.len = omega arith in
    record {
      finishes = map finish_of new;
      as_many = number;
      worst = c.serve_jobs-finish.ensures.worst;
      places = λ k f h w t.
          let n : k < length old = omega arith in
          let m : k < length new = omega arith in
          let d = some_of old k n in
          record {
            accept = (get_or old k d).accept;
            server = (get_or old k d).server;
            accept' = (get_or new k d).accept;
            server' = (get_or new k d).server;
            worker_before = part_at (of_job worker_of) old c.args.workers.items k d w a n;
            seat_before = part_at (of_job seat_of) old c.args.seats.items k d t b n;
            worker_after = part_at (of_job worker_of) new c.part_all.new.workers.items k d w x m;
            seat_after = part_at (of_job seat_of) new c.part_all.new.seats.items k d t y m;
            serves =
                let at = job_state g.A.Accept.coming g.A.Accept.handed g.A.Accept.faults in
                let service = service_of g.S.Server.machine (g.S.Server.state c.args.site.now) g.S.Server.shown g.S.Server.passed g.S.Server.lacked g.S.Server.ends in
                subst (λ (e : Finish). Serves service (at (get_or old k d)) (at (get_or new k d)) c.args.count e) (part_at finish_of new (map finish_of new) k d f refl m) (c.serve_jobs-finish.ensures.each k d n);
          };
    }
