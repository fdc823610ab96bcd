use Rattle.request_deciding.specs.Serving.{incoming_of}
use Rattle.proxy_core.proofs.Carried.{carries_answer, carries_nothing}
use Rattle.proxy_core.proofs.serving.pass_on.Goals as goal

pub returns-in_default : goal.returns-in_default
returns-in_default g c = λ s. carries_nothing _ c.args.authority.now s (incoming_of c.args.incoming.now) c.args.verdict _

pub returns : goal.returns
returns g c = λ s. carries_answer _ _ c.args.authority.now s (incoming_of c.args.incoming.now) c.args.verdict c.in-Ok.outgoing c.in_ok-reception.reception c.reply_by.result
    c.requires c.in-Ok.ensures c.in_ok-reception.ensures.exchanges c.reply_by.ensures
