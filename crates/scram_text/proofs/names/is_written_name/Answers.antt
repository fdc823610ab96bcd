use Rattle.std.proofs.Common.{◌≡◌, true, false, [], sym, ◌∙◌}
use Rattle.scram_text.proofs.WrittenNames.{whole_name}
use Rattle.scram_text.proofs.names.is_written_name.Goals as goal

pub returns-in-Some : goal.returns-in-Some
returns-in-Some c = (
  λ wrong. absurd (let w : false ≡ true = wrong in cc),
  λ writes. absurd (let none : c.behind_name.result.now ≡ [] = whole_name c.args.text.now c.behind_name.ensures.0 c.behind_name.result.now writes.0 writes.1 c.behind_name.ensures.1 in
      let some = sym c.in-Some.ensures.some ∙ none in cc),
)
