use Rattle.worker_loop.proofs.Steps.{Going}
use Rattle.worker_loop.specs.Connections.{worker_state}
use Rattle.worker_loop.specs.Service.{service_of}
use Rattle.worker_loop.proofs.worker.serve_links.Given as goal

abbrev pub invariant-loop-served : goal.invariant-loop-served
invariant-loop-served g l =
    let at = worker_state g.A.Accept.coming g.A.Accept.handed g.A.Accept.faults in
    let service = service_of g.S.Server.machine (g.S.Server.state l.site) g.S.Server.shown g.S.Server.passed g.S.Server.lacked g.S.Server.ends in
    Going service (at l.initial.accept l.initial.server) (at l.accept l.server) l.served l.wanted
