use Rattle.std.proofs.Common.{false, true, refl, sym, ◌∙◌}
use Rattle.auth_grammar.proofs.RepeatLaws.{repeats_at, searched, single_next}
use Rattle.auth_grammar.proofs.repeats.check_few.Goals as goal

pub returns-then-has_name-clause-refused : goal.returns-then-has_name-clause-refused
returns-then-has_name-clause-refused c = (
  c.index-params-i.result,
  repeats_at c.args.params.now c.loop-i.i c.index-params-i.result c.loop-i-test.true c.index-params-i.is c.loop-i.invariant
      (searched c.args.params.now c.loop-i.i c.bytes-name.result.now c.index-params-i.result.param.name c.has_name.result true c.has_name.ensures c.bytes-name.ensures c.if-has_name.true),
  refl,
  sym (c.in_ok-of.ensures ∙ c.bytes-name.ensures),
)

pub loop-i-preserved : goal.loop-i-preserved
loop-i-preserved c = single_next c.args.params.now c.loop-i.i c.index-params-i.result c.loop-i-test.true c.index-params-i.is c.loop-i.invariant
    (searched c.args.params.now c.loop-i.i c.bytes-name.result.now c.index-params-i.result.param.name c.has_name.result false c.has_name.ensures c.bytes-name.ensures c.if-has_name.false)
