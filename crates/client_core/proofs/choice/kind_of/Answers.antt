use Rattle.std.proofs.Common.{Some, None, ap, sym, ◌∙◌, codes}
use Rattle.std.specs.Prelude.{option_copied}
use Rattle.auth_grammar.specs.Names.{value_of}
use Rattle.digest_fields.specs.Kind.{kind_named}
use Rattle.client_core.proofs.NamedKinds.{kind_told}
use Rattle.client_core.proofs.choice.kind_of.Goals as goal

pub returns-in-Some : goal.returns-in-Some
returns-in-Some c =
    let is = ap (value_of (codes "algorithm")) (sym c.params.ensures) ∙ sym c.value_of.ensures ∙ ap option_copied c.in-Some.is in
    kind_told c.args.item.now (Some c.in-Some.name.now) c.named.result is (c.named.ensures ∙ ap kind_named c.bytes.ensures)

pub returns-in-None : goal.returns-in-None
returns-in-None c =
    let is = ap (value_of (codes "algorithm")) (sym c.params.ensures) ∙ sym c.value_of.ensures ∙ ap option_copied c.in-None.is in
    kind_told c.args.item.now None c.named-in-None.result is c.named-in-None.ensures
