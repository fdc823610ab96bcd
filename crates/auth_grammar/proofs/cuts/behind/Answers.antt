use Rattle.auth_grammar.proofs.Stripping.{behind_some, behind_none}
use Rattle.auth_grammar.proofs.cuts.behind.Goals as goal

pub returns : goal.returns
returns c = record {
  some = behind_some c.args.text.now c.args.prefix.now c.strip_prefix.result c.strip_prefix.ensures.cases;
  none = behind_none c.args.text.now c.args.prefix.now c.strip_prefix.result c.strip_prefix.ensures.cases;
}
