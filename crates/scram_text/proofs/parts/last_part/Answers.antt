use Rattle.std.proofs.Common.{◌+◌, List, ℕ, length, sym, subst}
use Rattle.scram_text.specs.Parts.{Ends, IsAttribute}
use Rattle.scram_text.specs.Reaching.{Halts}
use Rattle.scram_text.proofs.AttributeLaws.{attribute_whole, with_is}
use Rattle.scram_text.proofs.ExtensionLaws.{ends_off, ends_on}
use Rattle.scram_text.proofs.parts.last_part.Goals as goal

pub returns-in_default-clause-err : goal.returns-in_default-clause-err
returns-in_default-clause-err c = ends_off (IsAttribute c.args.attribute) (attribute_whole c.args.attribute) c.args.text.now c.first_part.result.0.now c.first_part.result.1.now c.reach.result c.first_part.ensures c.in_default.ensures.none c.reach.ensures.reach

pub returns-in-Some-extensions_fault-clause-err : goal.returns-in-Some-extensions_fault-clause-err
returns-in-Some-extensions_fault-clause-err c =
    let at = length c.first_part.result.0.now + c.in-Some-extensions_fault.at in
    let P : List ℕ → Type 0 = λ t. Halts (Ends (IsAttribute c.args.attribute)) t at in
    subst P (sym c.first_part.ensures.cut)
    (ends_on (IsAttribute c.args.attribute) (attribute_whole c.args.attribute) c.first_part.result.0.now c.first_part.result.1.now c.in-Some-extensions_fault.at (with_is c.args.attribute c.first_part.result.0.now c.in-Some.content.now c.in-Some.ensures.some) c.first_part.ensures.at_comma c.in-Some-extensions_fault.ensures.some)
