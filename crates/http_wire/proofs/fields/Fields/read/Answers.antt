use Rattle.std.proofs.Common.{◌≡◌, sym, ap, ◌∙◌, subst, List, take, map, []}
use Rattle.http_header.specs.FieldName.{IsFieldName}
use Rattle.http_header.specs.Token.{lowercase}
use Rattle.httparse.specs.Spans.{header_bytes}
use Rattle.http_header.specs.HeaderMap.{append_all}
use Rattle.http_wire.specs.Fields.{Pairs, are_field_names, lowered}
use Rattle.std.proofs.lemmas.List.{take_all}
use Rattle.httparse.specs.declared.spans.HeaderSpan.{HeaderSpan}
use Rattle.http_wire.proofs.FieldSizeLemmas.{size_made}
use Rattle.http_wire.proofs.CheckLemmas.{fields_refused, fields_named, fields_made, fields_all}
use Rattle.http_wire.proofs.fields.Fields.read.Goals as goal

pub returns-in-Err-Invalid : goal.returns-in-Err-Invalid
returns-in-Err-Invalid c =
    sym (fields_refused c.args.text.now c.args.headers.now c.loop-header.header-index _ c.loop-header-test.true
    (λ is. let e = c.in-Err-Invalid.field-0-is in c.in-Err-Invalid.ensures.invalid.0 (cc) (subst IsFieldName (sym c.of.ensures) is)))

pub loop-header-preserved : goal.loop-header-preserved
loop-header-preserved c = record {
  named = fields_named c.args.text.now c.args.headers.now c.loop-header.header-index _ c.loop-header-test.true c.loop-header.invariant.named
      (λ not. let e = c.in-Ok.ensures.invalid.1 (λ is. not (subst IsFieldName c.of.ensures is)) in cc);
  made = fields_made c.args.text.now c.args.headers.now c.loop-header.header-index _ c.loop-header-test.true c.loop-header.map c.append.new.self c.in-Ok.name c.in_ok-value.value
      c.loop-header.invariant.made (c.in-Ok.ensures.ok ∙ ap lowercase c.of.ensures) (c.in_ok-value.ensures ∙ c.of-in-loop-header.ensures) c.in-Ok-append.ensures.ok;
}

pub returns : goal.returns
returns c =
    let all : take c.loop-header.header-index c.args.headers.now ≡ c.args.headers.now = take_all c.loop-header.header-index c.args.headers.now c.loop-header-test.false in
    let written = ap (map (header_bytes c.args.text.now)) all in
    fields_all (map (header_bytes c.args.text.now) c.args.headers.now) c.loop-header.map
    (ap are_field_names (sym written) ∙ c.loop-header.invariant.named) (c.loop-header.invariant.made ∙ ap (λ (w : Pairs). append_all [] (map lowered w)) written)

pub invariant_of-result : goal.invariant_of-result
invariant_of-result c =
    let all : take c.loop-header.header-index c.args.headers.now ≡ c.args.headers.now = take_all c.loop-header.header-index c.args.headers.now c.loop-header-test.false in
    let written = map (header_bytes c.args.text.now) c.args.headers.now in
    let made = c.loop-header.invariant.made ∙ ap (λ (w : List HeaderSpan). append_all [] (map lowered (map (header_bytes c.args.text.now) w))) all in
    size_made c.loop-header.map written made c.requires.short
