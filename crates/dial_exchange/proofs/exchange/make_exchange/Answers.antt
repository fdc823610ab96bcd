use Rattle.std.proofs.Common.{[], ◌∷◌, List, ℕ, true, false, subst}
use Rattle.auth_io.specs.Told.{Adds}
use Rattle.dial_exchange.proofs.Dials.{dials_failed, dials_once}
use Rattle.dial_exchange.specs.Dials.{dial_state}
use Rattle.dial_exchange.specs.Talking.{talk_state}
use Rattle.dial_exchange.proofs.exchange.make_exchange.Goals as goal

pub returns-in-Err-Failed-clause-exchanges : goal.returns-in-Err-Failed-clause-exchanges
returns-in-Err-Failed-clause-exchanges g c =
    let e = c.in-Err-Failed.ensures in
    let told = subst (λ (l : List ℕ). Adds (g.D.Dial.dialled c.args.dial.now) (g.D.Dial.dialled c.dial.new.self) ((l, true) ∷ [])) c.bytes.ensures (rw c.in-Err-Failed.field-0-is at e.dialled) in
    dials_failed c.args.outgoing.now _ _ told e.coming_at_fault e.handed_at_fault (rw c.in-Err-Failed.field-0-is at e.cause.each) e.link_faults

pub returns-clause-exchanges : goal.returns-clause-exchanges
returns-clause-exchanges g c =
    let link_at = talk_state g.D.Out.Link.left g.D.Out.Link.written g.D.Out.Link.read_faults g.D.Out.Link.write_faults in
    let e = c.in-Ok.ensures in
    let told = subst (λ (l : List ℕ). Adds (g.D.Dial.dialled c.args.dial.now) (g.D.Dial.dialled c.dial.new.self) ((l, false) ∷ [])) c.bytes.ensures e.dialled in
    dials_once c.args.outgoing.now _ (dial_state g.D.Dial.dialled g.D.Dial.coming g.D.Dial.handed g.D.Dial.faults g.D.Dial.link_faults c.dial.new.self) _ (link_at c.in-Ok.link) (link_at c.talk-reception.new.link) c.talk-reception.result told e.bytes e.empty e.handed e.cause.each e.link_faults e.no_read_fault e.no_write_fault c.talk-reception.ensures
    c.done.ensures.handed c.done.ensures.dialled c.done.ensures.coming c.done.ensures.faults c.done.ensures.link_faults
