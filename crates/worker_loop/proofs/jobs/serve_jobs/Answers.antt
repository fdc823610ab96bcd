use Rattle.std.proofs.Common.{◌≡◌, ◌≢◌, ◌<◌, ◌∙◌, sym, arith, length}
use Rattle.std.specs.Prelude.{map}
use Rattle.worker_loop.proofs.Worst.{fault_rose, place_of_worst}
use Rattle.worker_loop.specs.Ends.{worst_of}
use Rattle.worker_loop.specs.Jobs.{finish_of}
use Rattle.worker_loop.specs.declared.finish.Finish.TheVariants.{Well, Worn, AcceptFault}
use Rattle.worker_loop.proofs.jobs.serve_jobs.Goals as goal

pub returns-clause-accept_fault : goal.returns-clause-accept_fault
returns-clause-accept_fault g c = λ is.
    let not_well : worst_of Well (map finish_of c.serve_each.new.jobs) ≢ Well = λ e. let same : AcceptFault ≡ Well = sym is ∙ c.worst.ensures ∙ e in cc in
    let there = place_of_worst finish_of c.serve_each.new.jobs not_well in
    let below : there.0 < length c.args.jobs.now = omega (arith, there.1) in
    (there.0, below, λ d. fault_rose _ _ _ _ _ (c.serve_each.ensures.each there.0 d below) (there.2 d ∙ sym c.worst.ensures ∙ is))

pub returns-clause-worn : goal.returns-clause-worn
returns-clause-worn g c = λ is.
    let not_well : worst_of Well (map finish_of c.serve_each.new.jobs) ≢ Well = λ e. let same : Worn ≡ Well = sym is ∙ c.worst.ensures ∙ e in cc in
    let there = place_of_worst finish_of c.serve_each.new.jobs not_well in
    let below : there.0 < length c.args.jobs.now = omega (arith, there.1) in
    (there.0, below, λ d. c.serve_each.ensures.worn there.0 d below (there.2 d ∙ sym c.worst.ensures ∙ is))
