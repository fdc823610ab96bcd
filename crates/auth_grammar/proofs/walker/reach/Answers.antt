use Rattle.std.proofs.Common.{[]}
use Rattle.auth_grammar.proofs.WalkLaws.{begun_walker, reach_whole, stands_one, stops_from_none}
use Rattle.auth_grammar.proofs.walker.reach.Goals as goal

pub returns-in-Ok-clause-reach : goal.returns-in-Ok-clause-reach
returns-in-Ok-clause-reach c = reach_whole c.args.grammar c.in-Ok.field-0 c.args.text.now (c.in-Ok.ensures c.args.grammar [] (begun_walker c.args.grammar c.new.result c.new.ensures))

pub returns-in-Ok-clause-one : goal.returns-in-Ok-clause-one
returns-in-Ok-clause-one c = stands_one c.args.grammar c.in-Ok.field-0 c.args.text.now (c.in-Ok.ensures c.args.grammar [] (begun_walker c.args.grammar c.new.result c.new.ensures))

pub returns-in-Err-clause-reach : goal.returns-in-Err-clause-reach
returns-in-Err-clause-reach c = (stops_from_none c.args.grammar c.args.text.now c.in-Err.at (c.in-Err.ensures c.args.grammar [] (begun_walker c.args.grammar c.new.result c.new.ensures))).reach

pub returns-in-Err-clause-one : goal.returns-in-Err-clause-one
returns-in-Err-clause-one c = λ x y h k. absurd ((stops_from_none c.args.grammar c.args.text.now c.in-Err.at (c.in-Err.ensures c.args.grammar [] (begun_walker c.args.grammar c.new.result c.new.ensures))).none x h)
