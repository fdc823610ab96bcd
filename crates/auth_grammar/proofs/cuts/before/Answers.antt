use Rattle.auth_grammar.proofs.Stripping.{before_some, before_none}
use Rattle.auth_grammar.proofs.cuts.before.Goals as goal

pub returns : goal.returns
returns c = record {
  some = before_some c.args.text.now c.args.suffix.now c.strip_suffix.result c.strip_suffix.ensures.cases;
  none = before_none c.args.text.now c.args.suffix.now c.strip_suffix.result c.strip_suffix.ensures.cases;
}
