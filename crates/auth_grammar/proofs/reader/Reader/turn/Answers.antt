use Rattle.std.proofs.Common.{Bool, subst}
use Rattle.auth_grammar.specs.Collecting.{takes_param, takes_scheme}
use Rattle.auth_grammar.specs.Positions.{Turns}
use Rattle.auth_grammar.specs.declared.position.Position.TheVariants.{Start}
use Rattle.auth_grammar.proofs.reader.Reader.turn.Goals as goal

pub returns-in-Start : goal.returns-in-Start
returns-in-Start c = rw c.in-Start.is (
    subst (λ (x : Bool). Turns Start c.args.kind x (takes_scheme c.args.self.now.collected) c.at_start.result) c.takes_param-params.ensures
    (subst (λ (x : Bool). Turns Start c.args.kind c.takes_param-params.result x c.at_start.result) c.takes_scheme-schemes.ensures c.at_start.ensures))

pub returns-in_default : goal.returns-in_default
returns-in_default c = c.turn_behind.ensures c.in_default.not-Start (takes_param c.args.self.now.collected) (takes_scheme c.args.self.now.collected)
