use Rattle.std.proofs.Common.{◌++◌, append_assoc, take, List, ℕ}
use Rattle.auth_grammar.specs.Writing.{param_text, params_text, separator_at}
use Rattle.auth_grammar.proofs.Joins.{parts_next}
use Rattle.auth_grammar.proofs.write.push_params.Goals as goal

pub loop-i-preserved : goal.loop-i-preserved
loop-i-preserved c =
    let next = parts_next (param_text c.args.quoting) c.args.params.now c.loop-i.i c.index-params-i.result c.loop-i-test.true c.index-params-i.is in
    let before : List ℕ = params_text c.args.quoting (take c.loop-i.i c.args.params.now) in
    let here : List ℕ = param_text c.args.quoting c.index-params-i.result in
    let a = append_assoc c.args.out.now before (separator_at c.loop-i.i ++ here) in
    let b = append_assoc (c.args.out.now ++ before) (separator_at c.loop-i.i) here in
    cc (next, a, b, c.loop-i.invariant, c.in_ok-push_separator.ensures, c.in_ok-push_param.ensures)
