use Rattle.std.proofs.Common.{◌≢◌, ◌<◌, List, get_or, ◌∙◌, subst, sym, length, refl, arith}
use Rattle.nonce_table.specs.Passes.{TablePassFacts, seat_of}
use Rattle.nonce_table.specs.Tables.{IsOf}
use Rattle.listen_core.proofs.Places.{at_place, origin_laws, same_seat, serves_there}
use Rattle.worker_loop.proofs.Places.{some_of}
use Rattle.worker_loop.proofs.Worst.{ends_then, fault_rose, place_of_end, worn_lacked}
use Rattle.worker_loop.specs.declared.finish.Finish.TheVariants.{Well, Worn, AcceptFault}
use Rattle.listen_core.proofs.shared.serve_shared.Goals as goal

pub returns-clause-each : goal.returns-clause-each
returns-clause-each g c = ends_then c.serve_seated.result.0 c.args.workers.len _ _ (λ k f p w t. serves_there _ _ _ _ _ _ _ _ _ f (p w t)) c.serve_seated.ensures.each

pub returns-clause-accept_fault : goal.returns-clause-accept_fault
returns-clause-accept_fault g c = λ is.
    let not_well : AcceptFault ≢ Well = λ e. cc in
    let there = place_of_end c.serve_seated.result.0 AcceptFault c.args.workers.len _ not_well is c.serve_seated.ensures.each in
    let below : there.0 < length c.args.passes.items = omega (arith, there.1) in
    (there.0, there.1, λ w. fault_rose _ _ _ c.args.count AcceptFault (serves_there _ _ _ _ _ _ _ _ _ _ (there.2 w (some_of c.args.passes.items there.0 below))) refl)

pub returns-clause-worn : goal.returns-clause-worn
returns-clause-worn g c = λ is.
    let not_well : Worn ≢ Well = λ e. cc in
    let there = place_of_end c.serve_seated.result.0 Worn c.args.workers.len _ not_well is c.serve_seated.ensures.each in
    let below : there.0 < length c.args.workers.items = omega (arith, there.1) in
    let laws = origin_laws g.F.Files.contents g.F.Files.asked g.F.Files.faults g.C.Clock.shown g.W.Words.drawn g.W.Words.faults seat_of c.args.site.now in (
      there.0,
      there.1,
      λ t.
          let lacked = (worn_lacked _ laws _ _ c.args.count Worn (serves_there _ _ _ _ _ _ _ _ _ _ (there.2 (some_of c.args.workers.items there.0 below) t)) refl).2 in
          (lacked.2.0, lacked.2.3, lacked.2.4 ∙ lacked.2.5),
    )

pub serve_seated-requires-clause-fit : goal.serve_seated-requires-clause-fit
serve_seated-requires-clause-fit g c κs within = λ k d h. (c.requires.of_table k d h).1 ∙ sym c.turns.ensures

pub returns-clause-of_table : goal.returns-clause-of_table
returns-clause-of_table g c = λ k d h.
    let workers = c.args.workers.items in
    let passes = c.args.passes.items in
    let back = c.serve_seated.result.2.items in
    let many = c.serve_seated.ensures.as_many_seats in
    let below : k < length workers = omega arith in
    let within : k < length passes = omega arith in
    let of : IsOf c.args.table.now (get_or passes k d) = c.requires.of_table k d within in
    at_place {X = IsOf c.args.table.now (get_or back k d)} c.serve_seated.result.0 c.args.workers.len _ k (omega arith) c.serve_seated.ensures.each c.serve_seated.ensures.refused_seats
    (λ f p.
    let same = same_seat g.F.Files.contents g.F.Files.asked g.F.Files.faults g.C.Clock.shown g.W.Words.drawn g.W.Words.faults seat_of c.args.site.now g.A.Accept.coming g.A.Accept.handed g.A.Accept.faults _ _ _ _ c.args.count f (p (some_of workers k below) d) in
    (same.sizes ∙ of.0, same.table ∙ of.1))
    (λ e. subst (λ (l : List TablePassFacts). IsOf c.args.table.now (get_or l k d)) (sym e) of)
