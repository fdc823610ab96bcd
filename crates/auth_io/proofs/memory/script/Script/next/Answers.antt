use Rattle.std.proofs.Common.{◌<◌, ◌^◌, length, List, ◌∙◌, ap, subst}
use Rattle.auth_io.specs.Scripts.{given_at}
use Rattle.auth_io.proofs.Scripted.{given_next, gives_first}
use Rattle.auth_io.proofs.memory.script.Script.next.Goals as goal

pub returns-clause-shown : goal.returns-clause-shown
returns-clause-shown g c =
    given_next c.args.default c.args.self.now.answers.items c.args.self.now.given _ _ c.saturating_add-self.ensures
    (c.answer_at.ensures ∙ ap (λ (xs : List g.row.T.Denot). given_at c.args.default xs c.args.self.now.given) c.as_slice.ensures.value)

pub returns-clause-coming : goal.returns-clause-coming
returns-clause-coming g c =
    let P : List g.row.T.Denot → Type 0 = λ xs. length xs < 2 ^ 64 in
    gives_first c.args.default c.args.self.now.answers.items c.args.self.now.given _ _ (subst P c.as_slice.ensures.value c.as_slice.type_inv.0) c.saturating_add-self.ensures
    (c.answer_at.ensures ∙ ap (λ (xs : List g.row.T.Denot). given_at c.args.default xs c.args.self.now.given) c.as_slice.ensures.value)
