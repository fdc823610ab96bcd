use Rattle.auth_grammar.proofs.ReadLaws.{answers_credentials}
use Rattle.auth_grammar.proofs.read.read_credentials.Goals as goal

pub returns : goal.returns
returns c = answers_credentials c.args.text.now c.in_ok-x.x c.pop.new.self c.in-Some.group c.in_ok-unplaced_item-in-Some.field-0 c.in_ok-x.ensures.spelled c.in_ok-x.ensures.single c.in-Some.ensures.items c.in_ok-unplaced_item-in-Some.ensures
