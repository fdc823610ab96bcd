use Rattle.std.proofs.Common.{arith}
use Rattle.origin_core.specs.Outside.{files_state}
use Rattle.authd.proofs.Starts.{starts_of}
use Rattle.authd.proofs.listen.start.Goals as goal

pub returns-clause-starts : goal.returns-clause-starts
returns-clause-starts g c =
    starts_of (files_state g.F.Files.contents g.F.Files.asked g.F.Files.faults) c.args.place.now.store.now c.args.place.now.spaces.now c.args.place.now.root.now
    c.args.workers.now.items c.index_mut.result.now c.site_of.new.files c.site_of.result (omega (arith, c.requires)) c.index_mut.ensures.value c.site_of.ensures
