use Rattle.std.proofs.Common.{ℕ, subst}
use Rattle.httparse.specs.Spans.{ResponseOverflows}
use Rattle.http_wire.proofs.ResponseJudgingLemmas.{response_before, response_whole, response_none, response_overflows}
use Rattle.http_wire.proofs.response_head.parse.Goals as goal

pub returns-then-head-text : goal.returns-then-head-text
returns-then-head-text c =
    let found = rw c.in-Ok-Complete.field-0-is at c.in-Ok-Complete.ensures.complete in
    record {
      head = found.0;
      read = response_whole c.args.text.now found.0 c.in-Ok-Complete.head.len found.1.reads c.if-head-text.true c.requires.whole;
      spans = found.1;
      within = rw c.in-Ok-Complete.field-0-is at c.in-Ok-Complete.ensures.within;
    }

pub returns-else-head-text : goal.returns-else-head-text
returns-else-head-text c =
    let found = rw c.in-Ok-Complete.field-0-is at c.in-Ok-Complete.ensures.complete in
    let within = rw c.in-Ok-Complete.field-0-is at c.in-Ok-Complete.ensures.within in
    response_before c.args.text.now found.0 c.in-Ok-Complete.head.len found.1.reads within.section.len_fits c.if-head-text.false

pub returns-in-Ok-Partial : goal.returns-in-Ok-Partial
returns-in-Ok-Partial c = response_none c.args.text.now (rw c.in-Ok-Partial.field-0-is at c.in-Ok-Partial.ensures.partial)

pub returns-in-Err : goal.returns-in-Err
returns-in-Err c = response_overflows c.args.text.now (subst (λ (n : ℕ). ResponseOverflows n c.args.text.now) c.requires.room c.in-Err.ensures.no_room) c.requires.few
