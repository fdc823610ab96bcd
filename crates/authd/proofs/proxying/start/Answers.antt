use Rattle.std.proofs.Common.{Ok, Err, arith, refl}
use Rattle.origin_core.specs.Outside.{files_state}
use Rattle.authd.proofs.ProxyStarts.{starts_of}
use Rattle.authd.proofs.proxying.start.Goals as goal

pub returns-in-Ok-clause-starts : goal.returns-in-Ok-clause-starts
returns-in-Ok-clause-starts g c =
    starts_of (files_state g.F.Files.contents g.F.Files.asked g.F.Files.faults) c.args.store.now c.args.spaces.now
    c.args.workers.now.items c.index_mut.result.now c.site_of.new.files (Ok c.in-Ok.site) c.fit.result (omega (arith, c.requires)) c.index_mut.ensures.value c.in-Ok.ensures c.fit.ensures.fit

pub returns-in-Err-clause-starts : goal.returns-in-Err-clause-starts
returns-in-Err-clause-starts g c =
    starts_of (files_state g.F.Files.contents g.F.Files.asked g.F.Files.faults) c.args.store.now c.args.spaces.now
    c.args.workers.now.items c.index_mut.result.now c.site_of.new.files (Err c.in-Err.why) (Err c.in-Err.why) (omega (arith, c.requires)) c.index_mut.ensures.value c.in-Err.ensures refl
