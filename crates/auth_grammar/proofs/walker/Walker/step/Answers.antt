use Rattle.auth_grammar.proofs.WalkLaws.{step_dead, step_go, step_end}
use Rattle.auth_grammar.proofs.walker.Walker.step.Goals as goal

pub returns-in-Dead : goal.returns-in-Dead
returns-in-Dead c = λ grammar fed s. step_dead grammar c.args.self fed c.args.b c.kind_at.result c.kind_at.ensures c.in-Dead.ensures s

pub returns-in-Go : goal.returns-in-Go
returns-in-Go c = λ grammar fed s. step_go grammar c.args.self fed c.args.b c.kind_at.result c.in-Go.position c.in-Go.field-1 c.kind_at.ensures c.in-Go.ensures s

pub returns-in-End : goal.returns-in-End
returns-in-End c = λ grammar fed s. step_end grammar c.args.self c.ended.result fed c.args.b c.kind_at.result c.kind_at.ensures c.in-End.ensures c.ended.ensures s
