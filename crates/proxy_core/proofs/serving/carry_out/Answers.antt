use Rattle.request_deciding.specs.Serving.{incoming_of}
use Rattle.proxy_core.proofs.Carried.{carries_refusal}
use Rattle.proxy_core.proofs.serving.carry_out.Goals as goal

pub returns-in-Some : goal.returns-in-Some
returns-in-Some g c = λ s. carries_refusal _ c.args.authority.now s (incoming_of c.args.incoming.now) c.args.verdict c.in-Some.status c.status_reply.result c.in-Some.ensures.status c.status_reply.ensures
