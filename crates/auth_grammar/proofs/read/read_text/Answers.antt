use Rattle.auth_grammar.proofs.ReadLaws.{answers_challenges}
use Rattle.auth_grammar.proofs.read.read_text.Goals as goal

pub returns : goal.returns
returns c = answers_challenges c.args.text.now c.in_ok-x.x c.in_ok-unplaced_items.field-0 c.in_ok-x.ensures.spelled c.in_ok-x.ensures.single c.in_ok-unplaced_items.ensures
