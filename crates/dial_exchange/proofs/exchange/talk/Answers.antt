use Rattle.std.proofs.Common.{List, ℕ, rules, subst, take}
use Rattle.std.specs.Io.KnownBytes.{Appends}
use Rattle.dial_exchange.proofs.Conversations.{talks_failed, talks_no_memory, talks_on}
use Rattle.dial_exchange.proofs.exchange.talk.Goals as goal

pub returns-in-Ok : goal.returns-in-Ok
returns-in-Ok g c =
    let e = c.in-Ok.ensures in
    talks_on c.args.outgoing.now _ _ _ c.receive.result (subst (λ (l : List ℕ). Appends (g.L.Link.written c.args.link.now) (g.L.Link.written c.send_all.new.link) l) c.bytes.ensures e.ok) e.left e.read_faults e.well c.receive.ensures

pub returns-in-Err-Failed : goal.returns-in-Err-Failed
returns-in-Err-Failed g c =
    let e = c.in-Err-Failed.ensures.err in
    let took = subst (λ (l : List ℕ). Appends (g.L.Link.written c.args.link.now) (g.L.Link.written c.send_all.new.link) (take e.0 l)) c.bytes.ensures e.1 in
    talks_failed c.args.outgoing.now _ _ e.0 took c.in-Err-Failed.ensures.left (c.send_all.ensures.fault (search rules))

pub returns-in-Err-OutOfMemory : goal.returns-in-Err-OutOfMemory
returns-in-Err-OutOfMemory g c =
    let e = c.in-Err-OutOfMemory.ensures.err in
    let took = subst (λ (l : List ℕ). Appends (g.L.Link.written c.args.link.now) (g.L.Link.written c.send_all.new.link) (take e.0 l)) c.bytes.ensures e.1 in
    talks_no_memory c.args.outgoing.now _ _ e.0 _ took c.in-Err-OutOfMemory.ensures.left
