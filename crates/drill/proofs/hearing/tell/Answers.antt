use Rattle.std.proofs.Common.{sym, ◌∙◌}
use Rattle.drill.proofs.Stepping.{on_ok, takes_told}
use Rattle.drill.proofs.hearing.tell.Goals as goal

pub returns-in-Some-clause-ok : goal.returns-in-Some-clause-ok
returns-in-Some-clause-ok c =
    on_ok (takes_told c.args.client.now c.take.new.client c.args.moment c.args.items.now c.in-Some.response c.requires (sym c.in_ok-response.ensures ∙ c.in-Some.is)) c.take.result c.take.ensures.ok
