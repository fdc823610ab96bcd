use Rattle.std.proofs.Common.{get_or, subst}
use Rattle.auth_grammar.specs.declared.kinds.Kind.{Kind}
use Rattle.auth_grammar.specs.Positions.{Turns}
use Rattle.auth_grammar.specs.Collecting.{takes_param, takes_scheme}
use Rattle.auth_grammar.specs.Steps.{Does, Steps}
use Rattle.auth_grammar.proofs.ReaderSteps.{turns_to_end, if_ok_map}
use Rattle.auth_grammar.proofs.reader.Reader.step.Goals as goal

pub take_turn-requires-clause-ends : goal.take_turn-requires-clause-ends
take_turn-requires-clause-ends c =
    turns_to_end c.args.self.now.position (get_or c.args.rest.now 0 0) c.kind_at.result (takes_param c.args.self.now.collected) (takes_scheme c.args.self.now.collected) c.turn-turn.result c.args.self.now.kept c.kind_at.ensures c.turn-turn.ensures

pub returns : goal.returns
returns c = if_ok_map (λ count. Does c.turn-turn.result c.args.self.now c.args.at c.args.rest.now count c.take_turn.new.self)
    (λ count. Steps c.args.self.now c.args.at c.args.rest.now count c.take_turn.new.self) c.take_turn.result
    (λ count d. (
      c.turn-turn.result,
      subst (λ (k : Kind). Turns c.args.self.now.position k (takes_param c.args.self.now.collected) (takes_scheme c.args.self.now.collected) c.turn-turn.result) c.kind_at.ensures c.turn-turn.ensures,
      d,
    ))
    c.take_turn.ensures
