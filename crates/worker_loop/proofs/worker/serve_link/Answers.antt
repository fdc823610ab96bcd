use Rattle.worker_loop.proofs.Steps.{one_served}
use Rattle.worker_loop.specs.Service.{service_of}
use Rattle.worker_loop.proofs.worker.serve_link.Goals as goal

pub returns : goal.returns
returns g c =
    let e = c.in_ok-link.ensures in
    let served = c.serve-result.ensures in
    let back = c.done.ensures in
    let k = service_of g.S.Server.machine (g.S.Server.state c.args.site.now) g.S.Server.shown g.S.Server.passed g.S.Server.lacked g.S.Server.ends in
    record { served = one_served k _ _ _ _ _ _ _ _ _ _ _ _ _ e.bytes back.coming e.handed e.empty back.handed e.no_read_fault e.no_write_fault served.read_fault served.write_fault e.cause.kept back.faults served.session served.ends c.of.ensures }
