use Rattle.std.proofs.Common.{◌∙◌}
use Rattle.drill.specs.Deciding.{question}
use Rattle.drill.proofs.Conducting.{under_start}
use Rattle.drill.proofs.Stepping.{begun_of, decides_of, question_is, worn_of}
use Rattle.drill.proofs.deciding.decide.Goals as goal

pub returns-in-Ok-clause-ok : goal.returns-in-Ok-clause-ok
returns-in-Ok-clause-ok g c =
    let e = c.in-Ok.ensures in
    let q = question c.args.moment c.args.request.now c.in-Ok.decision.question.credentials in
    let is = question_is c.in-Ok.decision.question c.args.moment c.args.request.now e.role e.request e.moment (e.site ∙ c.requires.site) e.shards in
    let ends = c.run-verdict.ensures.ends q c.args.table.now (g.W.Words.drawn c.args.random.now) (under_start q c.args.table.now (g.W.Words.drawn c.args.random.now) c.in-Ok.decision is e.stage e.few) in
    decides_of c.args.moment c.args.request.now c.args.table.now _ _ _ c.in-Ok.decision.question.credentials c.run-verdict.result e.credentials ends

pub returns-in-Ok-clause-begun : goal.returns-in-Ok-clause-begun
returns-in-Ok-clause-begun g c =
    let e = c.in-Ok.ensures in
    let q = question c.args.moment c.args.request.now c.in-Ok.decision.question.credentials in
    let is = question_is c.in-Ok.decision.question c.args.moment c.args.request.now e.role e.request e.moment (e.site ∙ c.requires.site) e.shards in
    let ends = c.run-verdict.ensures.ends q c.args.table.now (g.W.Words.drawn c.args.random.now) (under_start q c.args.table.now (g.W.Words.drawn c.args.random.now) c.in-Ok.decision is e.stage e.few) in
    begun_of q c.args.table.now _ _ _ c.run-verdict.result ends

pub returns-in-Ok-clause-worn : goal.returns-in-Ok-clause-worn
returns-in-Ok-clause-worn g c =
    let e = c.in-Ok.ensures in
    let q = question c.args.moment c.args.request.now c.in-Ok.decision.question.credentials in
    let is = question_is c.in-Ok.decision.question c.args.moment c.args.request.now e.role e.request e.moment (e.site ∙ c.requires.site) e.shards in
    let ends = c.run-verdict.ensures.ends q c.args.table.now (g.W.Words.drawn c.args.random.now) (under_start q c.args.table.now (g.W.Words.drawn c.args.random.now) c.in-Ok.decision is e.stage e.few) in
    worn_of c.args.moment c.args.request.now c.args.table.now _ _ _ c.in-Ok.decision.question.credentials c.run-verdict.result e.credentials ends
