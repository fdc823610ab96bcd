use Rattle.std.proofs.Common.{List, ℕ, subst, ◌∙◌}
use Rattle.std.specs.List.{join_with_byte}
use Rattle.auth_grammar.specs.declared.grammar.Grammar.TheVariants.{Params}
use Rattle.auth_grammar.specs.Items.{SpellsOnly}
use Rattle.auth_grammar.proofs.ReadLaws.{answers_params}
use Rattle.auth_grammar.proofs.read.read_params.Goals as goal

pub returns : goal.returns
returns c =
    answers_params (join_with_byte 44 c.args.lines.now) c.in_ok-x.x c.in_ok-unplaced.field-0
    (subst (λ (t : List ℕ). SpellsOnly Params t c.in_ok-x.x) (c.bytes.ensures ∙ c.in_ok-text.ensures) c.in_ok-x.ensures.spelled) c.in_ok-x.ensures.single c.in_ok-unplaced.ensures
