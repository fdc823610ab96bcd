use Rattle.std.proofs.Common.{◌≢◌, ◌<◌, ◌∙◌, length, refl, arith}
use Rattle.listen_core.proofs.Places.{origin_laws, serves_there}
use Rattle.worker_loop.proofs.Places.{some_of}
use Rattle.worker_loop.proofs.Worst.{ends_then, fault_rose, place_of_end, worn_lacked}
use Rattle.worker_loop.specs.declared.finish.Finish.TheVariants.{Well, Worn, AcceptFault}
use Rattle.listen_core.proofs.workers.serve_workers.Goals as goal

pub returns-clause-each : goal.returns-clause-each
returns-clause-each g c = ends_then c.serve_seated.result.0 c.args.workers.len _ _ (λ k f p w t. serves_there _ _ _ _ _ _ _ _ _ f (p w t)) c.serve_seated.ensures.each

pub returns-clause-accept_fault : goal.returns-clause-accept_fault
returns-clause-accept_fault g c = λ is.
    let not_well : AcceptFault ≢ Well = λ e. cc in
    let there = place_of_end c.serve_seated.result.0 AcceptFault c.args.workers.len _ not_well is c.serve_seated.ensures.each in
    let below : there.0 < length c.args.seats.items = omega (arith, there.1) in
    (there.0, there.1, λ w. fault_rose _ _ _ c.args.count AcceptFault (serves_there _ _ _ _ _ _ _ _ _ _ (there.2 w (some_of c.args.seats.items there.0 below))) refl)

pub returns-clause-worn : goal.returns-clause-worn
returns-clause-worn g c = λ is.
    let not_well : Worn ≢ Well = λ e. cc in
    let there = place_of_end c.serve_seated.result.0 Worn c.args.workers.len _ not_well is c.serve_seated.ensures.each in
    let below : there.0 < length c.args.workers.items = omega (arith, there.1) in
    let laws = origin_laws g.F.Files.contents g.F.Files.asked g.F.Files.faults g.C.Clock.shown g.W.Words.drawn g.W.Words.faults g.T.TableSeat.seat c.args.site.now in (
      there.0,
      there.1,
      λ t.
          let lacked = (worn_lacked _ laws _ _ c.args.count Worn (serves_there _ _ _ _ _ _ _ _ _ _ (there.2 (some_of c.args.workers.items there.0 below) t)) refl).2 in
          (lacked.2.0, lacked.2.3, lacked.2.4 ∙ lacked.2.5),
    )
