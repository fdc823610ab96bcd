use Rattle.std.proofs.Common.{◌≡◌, false, ℕ, List, length, take, map, subst, ap, arith, ◌∙◌}
use Rattle.std.proofs.Math.Seq.{take-length}
use Rattle.std.proofs.lemmas.Result.{err_from_is_err_and}
use Rattle.auth_grammar.specs.declared.groups.Group.{Group}
use Rattle.auth_grammar.specs.declared.groups.Placed.{Placed}
use Rattle.auth_grammar.specs.Items.{unplaced}
use Rattle.auth_grammar.specs.Names.{has_repeat}
use Rattle.auth_grammar.specs.Repeats.{AreSingle, RefusesList, params_in}
use Rattle.auth_grammar.proofs.RepeatLaws.{refuses_group, single_group}
use Rattle.auth_grammar.proofs.repeats.check_groups.Goals as goal

pub returns-in_err-check_list-clause-refused : goal.returns-in_err-check_list-clause-refused
returns-in_err-check_list-clause-refused c =
    let p = err_from_is_err_and c.from_residual.result c.from_residual.ensures.1 in
    rw (p.1, p.2) (refuses_group c.args.groups.now c.loop-group.group-index c.group-item.result c.loop-group-test.true c.group-item.is c.loop-group.invariant c.in_err-check_list.field-0.0
    (subst (λ (y : List Placed). RefusesList y c.in_err-check_list.field-0.0) c.params.ensures c.in_err-check_list.ensures.refused))

pub loop-group-preserved : goal.loop-group-preserved
loop-group-preserved c = single_group c.args.groups.now c.loop-group.group-index c.group-item.result c.loop-group-test.true c.group-item.is c.loop-group.invariant
    (subst (λ (y : List Placed). has_repeat (unplaced y) ≡ false) c.params.ensures c.in_ok-check_list.ensures.single)

pub returns-clause-single : goal.returns-clause-single
returns-clause-single c =
    let e : c.loop-group.group-index ≡ length c.args.groups.now = omega arith in
    subst (λ (y : List Group). AreSingle (map params_in y)) (ap (λ (n : ℕ). take n c.args.groups.now) e ∙ take-length c.args.groups.now) c.loop-group.invariant
