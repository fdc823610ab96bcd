use Rattle.std.proofs.Common.{sym, ◌∙◌}
use Rattle.cred_store.proofs.Parts.{tail_more, tail_short}
use Rattle.cred_store.proofs.line.tail_parts.Goals as goal

pub returns-in_default-clause-none : goal.returns-in_default-clause-none
returns-in_default-clause-none c = tail_short c.args.version c.args.tail.now c.in_default.ensures.none

pub returns-then-contains-clause-none : goal.returns-then-contains-clause-none
returns-then-contains-clause-none c =
    tail_more c.args.version c.args.tail.now c.in-Some.flag.now c.in-Some.value.now c.in-Some.ensures.some c.in-Some.ensures.flag
    (sym c.contains.ensures.value ∙ c.if-contains.true)
