use Rattle.std.proofs.Common.{List, [], ◌∷◌, ℕ, Option, false, subst, sym}
use Rattle.auth_io.specs.Dialling.{Dialled}
use Rattle.auth_io.specs.Handing.{HandsFirst}
use Rattle.auth_io.specs.Told.{Adds}
use Rattle.authget.specs.Outside.{dial_of}
use Rattle.authget.proofs.Exchanging.{exchanged}
use Rattle.authget.proofs.exchange.exchange.Goals as goal

pub returns-clause-exchanges : goal.returns-clause-exchanges
returns-clause-exchanges g c =
    let at = dial_of g.N.Dial.dialled g.N.Dial.coming g.N.Dial.handed g.N.Dial.faults g.N.Dial.link_faults in
    let link = c.in-Ok.link in
    let done = c.converse-reply.new.link in
    exchanged (at c.args.dial.now) (at c.done.new.self) c.args.peer.now c.args.text.now (g.N.Dial.handed c.dial.new.self) (g.N.Out.Link.left link) (g.N.Out.Link.written link) (g.N.Out.Link.written done)
    (g.N.Out.Link.read_faults link) (g.N.Out.Link.read_faults done) (g.N.Out.Link.write_faults link) (g.N.Out.Link.write_faults done) c.converse-reply.result
    (subst (λ (d : Option Dialled). Adds (g.N.Dial.dialled c.args.dial.now) d ((c.args.peer.now, false) ∷ [])) (sym c.done.ensures.dialled) c.in-Ok.ensures.dialled)
    (subst (λ (d : Option (List (List ℕ))). HandsFirst (g.N.Dial.coming c.args.dial.now) d (g.N.Out.Link.left link)) (sym c.done.ensures.coming) c.in-Ok.ensures.bytes)
    c.in-Ok.ensures.handed c.in-Ok.ensures.empty c.done.ensures.handed c.in-Ok.ensures.no_read_fault c.in-Ok.ensures.no_write_fault
    c.converse-reply.ensures.talks c.converse-reply.ensures.read_kept c.converse-reply.ensures.write_kept c.converse-reply.ensures.fault
