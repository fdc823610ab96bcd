use Rattle.std.proofs.Common.{◌≡◌, ◌++◌, List, ℕ, ap, sym, subst, ◌∙◌}
use Rattle.auth_grammar.specs.Items.{SpellsParams}
use Rattle.auth_grammar.specs.Writing.{params_text}
use Rattle.auth_grammar.proofs.Written.{params_spelled}
use Rattle.auth_grammar.proofs.write.write_params.Goals as goal

pub returns-clause-spelled : goal.returns-clause-spelled
returns-clause-spelled c =
    let text : c.push_params.new.out ≡ params_text c.args.quoting c.args.params.now =
    c.in_ok-push_params.ensures ∙ ap (λ (t : List ℕ). t ++ params_text c.args.quoting c.as_slice.result.now) c.in_ok-out.ensures ∙ ap (params_text c.args.quoting) c.as_slice.ensures in
    λ valid. subst (λ (t : List ℕ). SpellsParams t c.args.params.now) (sym text) (params_spelled c.args.quoting c.args.params.now valid)
