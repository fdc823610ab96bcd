use Rattle.connection_loop.specs.Account.{link_of}
use Rattle.origin_core.specs.Outside.{files_state}
use Rattle.authd.proofs.Printed.{print_says}
use Rattle.authd.specs.Outside.{objects, views}
use Rattle.authd.proofs.run.perform.Goals as goal

pub returns-in-Drill-clause-says : goal.returns-in-Drill-clause-says
returns-in-Drill-clause-says g c =
    let L = g.L.Link in
    let F = g.F.Files in
    let W = g.W.Words in
    print_says (views (link_of L.left L.given L.written L.reads) L.read_faults L.write_faults (files_state F.contents F.asked F.faults) g.C.Clock.shown W.drawn W.faults)
    (objects c.args.link.now c.args.files.now c.args.clock.now c.args.random.now)
    (objects c.print_drill.new.link c.args.files.now c.args.clock.now c.args.random.now) c.print_drill.result c.print_drill.ensures.kind c.print_drill.ensures.write_fault
