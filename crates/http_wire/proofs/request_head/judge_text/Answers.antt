use Rattle.std.proofs.Common.{◌≤◌, length, Some, sym, ap, ◌∙◌, arith}
use Rattle.http_wire.specs.Lines.{line_feeds}
use Rattle.http_wire.specs.Fields.{fields_of}
use Rattle.http_wire.specs.RequestChecks.{judge_fields}
use Rattle.http_wire.proofs.FieldSizeLemmas.{size_read}
use Rattle.http_wire.proofs.JudgingLemmas.{judge_many, judge_none, judge_some}
use Rattle.http_wire.proofs.request_head.judge_text.Goals as goal

pub returns-then-count_lines-gt-LINE_LIMIT : goal.returns-then-count_lines-gt-LINE_LIMIT
returns-then-count_lines-gt-LINE_LIMIT c = judge_many c.args.text.now c.count_lines.result c.count_lines.ensures c.if-count_lines-gt-LINE_LIMIT.true

pub returns-in_default : goal.returns-in_default
returns-in_default c = let few : line_feeds c.args.text.now ≤ 66 = omega arith in judge_none c.args.text.now few c.in_default.ensures

pub returns-in-Some-2 : goal.returns-in-Some-2
returns-in-Some-2 c =
    let few : line_feeds c.args.text.now ≤ 66 = omega arith in
    let head = c.in-Some.ensures in
    let method = c.in_ok-method.ensures ∙ c.of.ensures ∙ head.spans.method in
    let target = c.in_ok-target.ensures ∙ c.of-3.ensures ∙ head.spans.path in
    let written = c.in_ok-fields.ensures ∙ ap fields_of head.spans.fields in
    c.check_fields.ensures
    ∙ (λ i. judge_fields (method i) (target i) (head.spans.version i) c.in-Some-2.fields)
    ∙ judge_some c.args.text.now head.head (Some c.in-Some-2.fields) few head.read (sym c.in-Some-2.is ∙ written)

pub returns-in-None : goal.returns-in-None
returns-in-None c =
    let few : line_feeds c.args.text.now ≤ 66 = omega arith in
    let head = c.in-Some.ensures in
    judge_some c.args.text.now head.head _ few head.read (sym c.in-None.is ∙ c.in_ok-fields.ensures ∙ ap fields_of head.spans.fields)

pub read-requires-clause-short : goal.read-requires-clause-short
read-requires-clause-short c =
    let head = c.in-Some.ensures in
    size_read _ head.head c.in-Some.head.len (length c.args.text.now) head.spans.fields head.spans.len head.within.section.len_fits c.requires.short
