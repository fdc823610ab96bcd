use Rattle.std.proofs.Common.{◌≡◌, ◌≢◌, arith, rules}
use Rattle.worker_loop.proofs.Steps.{going_none, goes_on, stops_at_fault, stops_worn}
use Rattle.worker_loop.proofs.Worst.{fault_rose, worn_lacked}
use Rattle.worker_loop.specs.declared.finish.After.TheVariants.{Stop}
use Rattle.worker_loop.proofs.worker.serve_links.Goals as goal

pub loop-served-init : goal.loop-served-init
loop-served-init g c = going_none _ (record { passed_none = g.met.S.Server.passed_none; passed_join = g.met.S.Server.passed_join; lacked_later = g.met.S.Server.lacked_later }) _

pub returns-in_default-clause-serves : goal.returns-in_default-clause-serves
returns-in_default-clause-serves g c = stops_at_fault _ (record { passed_none = g.met.S.Server.passed_none; passed_join = g.met.S.Server.passed_join; lacked_later = g.met.S.Server.lacked_later }) _ _ _ c.loop-served.served _ _ c.in_default.field-0 (omega arith) c.loop-served.invariant c.in_default.ensures.served

pub returns-in_default-clause-accept_fault : goal.returns-in_default-clause-accept_fault
returns-in_default-clause-accept_fault g c = λ is. fault_rose _ _ _ _ _ (returns-in_default-clause-serves g c) is

pub returns-then-eq-clause-serves : goal.returns-then-eq-clause-serves
returns-then-eq-clause-serves g c =
    let is : c.in-Ok.next ≡ Stop = search rules in
    let took = rw is at c.in-Ok.ensures.served in
    stops_worn _ (record { passed_none = g.met.S.Server.passed_none; passed_join = g.met.S.Server.passed_join; lacked_later = g.met.S.Server.lacked_later }) _ _ _ c.loop-served.served _ _ (omega arith) c.loop-served.invariant took

pub returns-then-eq-clause-worn : goal.returns-then-eq-clause-worn
returns-then-eq-clause-worn g c = λ is. worn_lacked _ (record { passed_none = g.met.S.Server.passed_none; passed_join = g.met.S.Server.passed_join; lacked_later = g.met.S.Server.lacked_later }) _ _ _ _ (returns-then-eq-clause-serves g c) is

pub loop-served-preserved : goal.loop-served-preserved
loop-served-preserved g c =
    let on : c.in-Ok.next ≢ Stop = search rules in
    rw c.adds_to-wanted.ensures (goes_on _ (record { passed_none = g.met.S.Server.passed_none; passed_join = g.met.S.Server.passed_join; lacked_later = g.met.S.Server.lacked_later }) _ _ _ c.loop-served.served _ c.in-Ok.next on c.loop-served.invariant c.in-Ok.ensures.served)
