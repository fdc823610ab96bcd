use Rattle.std.proofs.Common.{◌≡◌, ◌≤◌, Ok, take, arith, rules, sym, subst}
use Rattle.http_wire.specs.ResponseFeed.{is_over}
use Rattle.dial_exchange.proofs.Conversations.{hears_bad, hears_end, hears_no_more, hears_response, none_taken, pushes, reads_no_more, reads_on, within_more}
use Rattle.dial_exchange.specs.Talking.{Receives, TalkState, talk_state}
use Rattle.dial_exchange.specs.declared.events.Reception.{Reception}
use Rattle.dial_exchange.proofs.reading.receive.Goals as goal

pub returns-then-count-eq0 : goal.returns-then-count-eq0
returns-then-count-eq0 g c =
    let took = c.in-Ok.ensures.bytes in
    let none : c.in-Ok.count ≡ 0 = c.if-count-eq0.true in
    hears_end c.args.to_head _ _ _ c.loop-count.feed _ _ c.finish.result c.loop-count.invariant (none_taken _ _ c.in-Ok.count c.read.new.into took.0 none) (took.1 none (search rules))
    c.in-Ok.ensures.written c.in-Ok.ensures.cause.kept c.in-Ok.ensures.write_faults c.finish.ensures

pub returns-in_default-push : goal.returns-in_default-push
returns-in_default-push g c =
    let at = talk_state g.L.Link.left g.L.Link.written g.L.Link.read_faults g.L.Link.write_faults in
    reads_no_more c.args.to_head (at c.args.link.now) (at c.loop-count.link) (at c.read.new.self) c.loop-count.feed _ _ (take c.in-Ok.count c.read.new.into) _ c.loop-count.invariant
    c.in-Ok.ensures.bytes.0 c.in-Ok.ensures.written c.in-Ok.ensures.cause.kept c.in-Ok.ensures.write_faults

pub loop-count-preserved : goal.loop-count-preserved
loop-count-preserved g c =
    let at = talk_state g.L.Link.left g.L.Link.written g.L.Link.read_faults g.L.Link.write_faults in
    let old = c.loop-count.feed in
    let p = pushes c.args.to_head (at c.args.link.now) (at c.loop-count.link) (at c.read.new.self) old c.push.new.self old.count (g.L.Link.given c.loop-count.link) (take c.in-Ok.count c.read.new.into) c.loop-count.invariant
    c.in-Ok.ensures.bytes.0 c.in-Ok.ensures.written c.in-Ok.ensures.cause.kept c.in-Ok.ensures.write_faults c.in-Ok-push.ensures.to_head c.in-Ok-push.ensures.ahead in
    let within = within_more (is_over old) old.count (g.L.Link.given c.loop-count.link) (g.L.Link.given c.read.new.self) c.push.new.self.count c.in-Ok.count c.read.new.into c.in-Ok-push.ensures.count c.loop-count.invariant.within c.in-Ok.ensures.given.0 in
    let stays = c.in-NeedMore.ensures.1 in
    reads_on c.args.to_head (at c.args.link.now) (at c.read.new.self) c.push.new.self c.next.new.self c.next.new.self.count (g.L.Link.given c.read.new.self) p stays (omega (arith, within, stays.count))

pub returns-in-Message : goal.returns-in-Message
returns-in-Message g c =
    let at = talk_state g.L.Link.left g.L.Link.written g.L.Link.read_faults g.L.Link.write_faults in
    let old = c.loop-count.feed in
    let p = pushes c.args.to_head (at c.args.link.now) (at c.loop-count.link) (at c.read.new.self) old c.push.new.self old.count (g.L.Link.given c.loop-count.link) (take c.in-Ok.count c.read.new.into) c.loop-count.invariant
    c.in-Ok.ensures.bytes.0 c.in-Ok.ensures.written c.in-Ok.ensures.cause.kept c.in-Ok.ensures.write_faults c.in-Ok-push.ensures.to_head c.in-Ok-push.ensures.ahead in
    subst (λ (r : Reception). Receives c.args.to_head (at c.args.link.now) (at c.read.new.self) (Ok r)) (sym c.got.ensures)
    (hears_response c.args.to_head (at c.args.link.now) (at c.read.new.self) c.push.new.self c.next.new.self c.in-Message.response p c.in-Message.ensures)

pub returns-in-Bad : goal.returns-in-Bad
returns-in-Bad g c =
    let at = talk_state g.L.Link.left g.L.Link.written g.L.Link.read_faults g.L.Link.write_faults in
    let old = c.loop-count.feed in
    let p = pushes c.args.to_head (at c.args.link.now) (at c.loop-count.link) (at c.read.new.self) old c.push.new.self old.count (g.L.Link.given c.loop-count.link) (take c.in-Ok.count c.read.new.into) c.loop-count.invariant
    c.in-Ok.ensures.bytes.0 c.in-Ok.ensures.written c.in-Ok.ensures.cause.kept c.in-Ok.ensures.write_faults c.in-Ok-push.ensures.to_head c.in-Ok-push.ensures.ahead in
    hears_bad c.args.to_head (at c.args.link.now) (at c.read.new.self) c.push.new.self c.next.new.self c.in-Bad.at p c.in-Bad.ensures

pub returns-in-OutOfMemory : goal.returns-in-OutOfMemory
returns-in-OutOfMemory g c =
    let at = talk_state g.L.Link.left g.L.Link.written g.L.Link.read_faults g.L.Link.write_faults in
    let old = c.loop-count.feed in
    let p = pushes c.args.to_head (at c.args.link.now) (at c.loop-count.link) (at c.read.new.self) old c.push.new.self old.count (g.L.Link.given c.loop-count.link) (take c.in-Ok.count c.read.new.into) c.loop-count.invariant
    c.in-Ok.ensures.bytes.0 c.in-Ok.ensures.written c.in-Ok.ensures.cause.kept c.in-Ok.ensures.write_faults c.in-Ok-push.ensures.to_head c.in-Ok-push.ensures.ahead in
    hears_no_more c.args.to_head (at c.args.link.now) (at c.read.new.self) p.got _ p.gave p.wrote p.reads p.writes
