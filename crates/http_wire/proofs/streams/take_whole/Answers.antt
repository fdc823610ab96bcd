use Rattle.http_wire.proofs.StreamLemmas.{took_message, message_smaller}
use Rattle.http_wire.proofs.streams.take_whole.Goals as goal

pub loop-request-smaller-in-Continue-1 : goal.loop-request-smaller-in-Continue-1
loop-request-smaller-in-Continue-1 c = message_smaller c.loop-request.feed c.next.new.self c.in-Message.request c.in-Message.ensures

pub loop-request-preserved-in-Continue-1 : goal.loop-request-preserved-in-Continue-1
loop-request-preserved-in-Continue-1 c =
    took_message c.args.feed.now c.loop-request.feed c.next.new.self c.args.requests.now.items c.loop-request.requests.items c.push.new.self.items c.in-Message.request
    c.loop-request.invariant c.in-Message.ensures c.in_ok-push-in-Message.ensures.items
