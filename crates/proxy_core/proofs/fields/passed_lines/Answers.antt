use Rattle.std.proofs.Common.{◌++◌, ◌∙◌, List, ap}
use Rattle.http_wire.specs.declared.pair.Pair.{Pair}
use Rattle.proxy_core.proofs.Lines.{kept, kept_all}
use Rattle.proxy_core.proofs.fields.passed_lines.Goals as goal

pub returns : goal.returns
returns c =
    kept_all c.args.way c.args.fields.now c.in_ok-pairs.pairs c.put_passed.new.lines c.in_ok-pairs.ensures.pairs
    (c.in_ok-put_passed.ensures ∙ ap (λ (l : List Pair). l ++ kept c.args.way c.args.fields.now c.in_ok-pairs.pairs) c.new-lines.ensures)
