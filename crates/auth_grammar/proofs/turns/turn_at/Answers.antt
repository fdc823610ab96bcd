use Rattle.auth_grammar.proofs.turns.turn_at.Goals as goal

pub returns-in-Start : goal.returns-in-Start
returns-in-Start c = rw c.in-Start.is c.at_start.ensures

pub returns-in_default : goal.returns-in_default
returns-in_default c = c.turn_behind.ensures c.in_default.not-Start c.args.params c.args.schemes
