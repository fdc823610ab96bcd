use Rattle.std.proofs.Common.{◌≡◌, false, List, map, subst}
use Rattle.std.proofs.lemmas.Result.{err_from_is_err_and}
use Rattle.auth_grammar.specs.declared.groups.Placed.{Placed}
use Rattle.auth_grammar.specs.declared.groups.Group.{Group}
use Rattle.auth_grammar.specs.Items.{unplaced}
use Rattle.auth_grammar.specs.Names.{has_repeat}
use Rattle.auth_grammar.specs.Repeats.{RefusesList, RefusesLists, params_in, lists_in}
use Rattle.auth_grammar.proofs.RepeatLaws.{refuses_first, refuses_rest, if_err_map}
use Rattle.auth_grammar.proofs.repeats.check_names.Goals as goal

pub returns-in_err-check_list-clause-refused : goal.returns-in_err-check_list-clause-refused
returns-in_err-check_list-clause-refused c =
    let p = err_from_is_err_and c.from_residual.result c.from_residual.ensures.1 in
    rw (p.1, p.2) (refuses_first c.args.x.now.params (map params_in c.args.x.now.groups) c.in_err-check_list.field-0.0
    (subst (λ (y : List Placed). RefusesList y c.in_err-check_list.field-0.0) c.as_slice.ensures c.in_err-check_list.ensures.refused))

pub returns-clause-refused : goal.returns-clause-refused
returns-clause-refused c =
    if_err_map (RefusesLists (map params_in c.as_slice-2.result.now)) (RefusesLists (lists_in c.args.x.now)) c.check_groups.result
    (λ e r. refuses_rest c.args.x.now.params (map params_in c.args.x.now.groups)
    (subst (λ (y : List Placed). has_repeat (unplaced y) ≡ false) c.as_slice.ensures c.in_ok-check_list.ensures.single) e
    (subst (λ (y : List Group). RefusesLists (map params_in y) e) c.as_slice-2.ensures r))
    c.check_groups.ensures.refused
