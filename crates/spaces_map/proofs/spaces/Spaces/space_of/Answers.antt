use Rattle.std.proofs.Common.{Option, [], sym, ap, ◌∙◌, subst}
use Rattle.std.specs.Prelude.{IfSome}
use Rattle.spaces_map.specs.Spaces.{space_of}
use Rattle.spaces_map.specs.declared.space.Space.{Space}
use Rattle.spaces_map.proofs.LookUps.{HasTerms, found_has, copied_has}
use Rattle.spaces_map.proofs.spaces.Spaces.space_of.Goals as goal

pub returns-clause-terms : goal.returns-clause-terms
returns-clause-terms c =
    let P : Option Space → Type 0 = λ found. IfSome found HasTerms in
    copied_has HasTerms c.space_of.result
    (subst P (sym (c.space_of.ensures ∙ ap (space_of c.args.path.now) c.as_slice.ensures)) (found_has c.args.path.now [] c.self.inside.list c.self.invariant.each))
