use Rattle.std.proofs.Common.{false, true, refl, sym, ◌∙◌, take}
use Rattle.auth_grammar.specs.Items.{unplaced}
use Rattle.auth_grammar.proofs.RepeatLaws.{single_next, names_next, repeats_at, told, updated}
use Rattle.auth_grammar.proofs.repeats.check_many.Goals as goal

pub returns-then-not-branch-clause-refused : goal.returns-then-not-branch-clause-refused
returns-then-not-branch-clause-refused c = (
  c.placed-item.result,
  repeats_at c.args.params.now c.loop-placed.placed-index c.placed-item.result c.loop-placed-test.true c.placed-item.is c.loop-placed.invariant.single
      (told c.loop-placed.names (unplaced (take c.loop-placed.placed-index c.args.params.now)) c.bytes-name.result.now c.placed-item.result.param.name c.in_ok-add_name.field-0 false c.loop-placed.invariant.names c.in_ok-add_name.ensures.fresh c.bytes-name.ensures c.if-not-branch.true),
  refl,
  sym (c.in_ok-of.ensures ∙ c.bytes-name.ensures),
)

pub loop-placed-preserved : goal.loop-placed-preserved
loop-placed-preserved c = record {
  single = single_next c.args.params.now c.loop-placed.placed-index c.placed-item.result c.loop-placed-test.true c.placed-item.is c.loop-placed.invariant.single
      (told c.loop-placed.names (unplaced (take c.loop-placed.placed-index c.args.params.now)) c.bytes-name.result.now c.placed-item.result.param.name c.in_ok-add_name.field-0 true c.loop-placed.invariant.names c.in_ok-add_name.ensures.fresh c.bytes-name.ensures c.if-not-branch.false);
  names = names_next c.loop-placed.names c.add_name.new.names c.args.params.now c.loop-placed.placed-index c.placed-item.result c.loop-placed-test.true c.placed-item.is c.loop-placed.invariant.names
      (updated c.loop-placed.names c.add_name.new.names c.bytes-name.result.now c.placed-item.result.param.name c.bytes-name.ensures c.in_ok-add_name.ensures.names);
}
