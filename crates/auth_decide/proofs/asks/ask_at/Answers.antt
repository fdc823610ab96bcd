use Rattle.std.proofs.Common.{◌∙◌, ap, sym}
use Rattle.auth_decide.specs.Asks.{ask_at}
use Rattle.auth_grammar.specs.declared.items.Item.{Item}
use Rattle.auth_decide.specs.declared.verdict.Ask.TheVariants.{Verdict}
use Rattle.auth_decide.specs.declared.verdict.Verdict.TheVariants.{Continue}
use Rattle.auth_decide.proofs.asks.ask_at.Goals as goal

pub returns-in_ok-verdict_with-in-Issued-clause-asked : goal.returns-in_ok-verdict_with-in-Issued-clause-asked
returns-in_ok-verdict_with-in-Issued-clause-asked c =
    ap Verdict c.in_ok-verdict_with-in-Issued.ensures
    ∙ ap (ask_at c.args.role c.args.moment c.args.shards c.args.space.now) (sym c.in-Issued.is)

pub returns-in_ok-continue_item-in-Continued-clause-asked : goal.returns-in_ok-continue_item-in-Continued-clause-asked
returns-in_ok-continue_item-in-Continued-clause-asked c =
    ap (λ (i : Item). Verdict (Continue i)) c.in_ok-continue_item-in-Continued.ensures
    ∙ ap (ask_at c.args.role c.args.moment c.args.shards c.args.space.now) (sym c.in-Continued.is)
