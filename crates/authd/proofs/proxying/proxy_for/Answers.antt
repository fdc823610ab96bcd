use Rattle.std.proofs.Common.{inl}
use Rattle.origin_core.specs.Outside.{files_state}
use Rattle.authd.proofs.ProxyStarts.{accept_rose}
use Rattle.authd.proofs.proxying.proxy_for.Goals as goal

pub returns-in-Ok-clause-fault : goal.returns-in-Ok-clause-fault
returns-in-Ok-clause-fault g c = λ is.
    let place = c.args.proxying.now in
    inl (accept_rose (files_state g.F.Files.contents g.F.Files.asked g.F.Files.faults) place.store.now place.spaces.now g.A.Accept.faults
    c.args.workers.items c.start.new.workers.items c.serve_site.result.1.items c.start.result c.start.ensures.starts (c.serve_site.ensures.accept_fault is))
