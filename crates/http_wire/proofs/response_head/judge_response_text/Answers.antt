use Rattle.std.proofs.Common.{◌≤◌, length, ℕ, Some, sym, ap, ◌∙◌, arith}
use Rattle.http_wire.specs.Lines.{line_feeds}
use Rattle.http_wire.specs.Fields.{fields_of}
use Rattle.http_wire.specs.ResponseChecks.{judge_response_fields}
use Rattle.http_wire.proofs.FieldSizeLemmas.{size_response}
use Rattle.http_wire.proofs.ResponseJudgingLemmas.{response_many, response_unread, response_read}
use Rattle.http_wire.proofs.response_head.judge_response_text.Goals as goal

pub returns-then-count_lines-gt-LINE_LIMIT : goal.returns-then-count_lines-gt-LINE_LIMIT
returns-then-count_lines-gt-LINE_LIMIT c = response_many c.args.to_head c.args.text.now c.count_lines.result c.count_lines.ensures c.if-count_lines-gt-LINE_LIMIT.true

pub returns-in_default : goal.returns-in_default
returns-in_default c = let few : line_feeds c.args.text.now ≤ 66 = omega arith in response_unread c.args.to_head c.args.text.now few c.in_default.ensures

pub returns-in-Some-2 : goal.returns-in-Some-2
returns-in-Some-2 c =
    let few : line_feeds c.args.text.now ≤ 66 = omega arith in
    let head = c.in-Some.ensures in
    let written = c.in_ok-fields.ensures ∙ ap fields_of head.spans.fields in
    c.check_response.ensures
    ∙ ap (λ (code : ℕ). judge_response_fields c.args.to_head code c.in-Some-2.fields) head.spans.code
    ∙ response_read c.args.to_head c.args.text.now head.head (Some c.in-Some-2.fields) few head.read (sym c.in-Some-2.is ∙ written)

pub returns-in-None : goal.returns-in-None
returns-in-None c =
    let few : line_feeds c.args.text.now ≤ 66 = omega arith in
    let head = c.in-Some.ensures in
    response_read c.args.to_head c.args.text.now head.head _ few head.read (sym c.in-None.is ∙ c.in_ok-fields.ensures ∙ ap fields_of head.spans.fields)

pub read-requires-clause-short : goal.read-requires-clause-short
read-requires-clause-short c =
    let head = c.in-Some.ensures in
    size_response _ head.head c.in-Some.head.len (length c.args.text.now) head.spans.fields head.spans.len head.within.section.len_fits c.requires.short
