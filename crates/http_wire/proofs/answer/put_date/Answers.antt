use Rattle.std.proofs.Common.{◌++◌, List, ℕ, refl, sym, ap, ◌∙◌}
use Rattle.std.specs.Prelude.{codes}
use Rattle.httpdate.specs.Date.{date_text}
use Rattle.http_wire.specs.FieldLines.{crlf}
use Rattle.http_wire.proofs.DateLemmas.{date_is, date_line_some, three_more}
use Rattle.http_wire.proofs.answer.put_date.Goals as goal

pub returns : goal.returns
returns c =
    let old = c.args.out.now.items in
    let text = c.as_slice.ensures ∙ c.to_bytes.ensures in
    let one = c.in_ok-put.ensures in
    let two = c.in_ok-put-2.ensures ∙ (λ i. one i ++ text i) in
    let three = c.in_ok-put-3.ensures ∙ ap (λ (l : List ℕ). l ++ crlf) two in
    three ∙ three_more old (codes "Date: ") (date_text c.in-Ok.date) crlf
    ∙ ap (λ (l : List ℕ). old ++ l) (sym (date_line_some c.args.moment (date_text c.in-Ok.date) (c.in-Ok.ensures.succeeds.0 refl) (date_is c.in-Ok.date c.args.moment c.in-Ok.ensures.value)))
