use Rattle.std.proofs.Common.{sym, ap, ◌∙◌, ◌∷◌, List, ℕ}
use Rattle.std.specs.Str.Lines.{lines}
use Rattle.cred_store.proofs.Pairs.{line_ended, line_open}
use Rattle.cred_store.proofs.htdigest.first_line.Goals as goal

pub returns-in-Some-clause-lines : goal.returns-in-Some-clause-lines
returns-in-Some-clause-lines c =
    line_ended c.args.text.now c.in-Some.line.now c.in-Some.rest.now c.in-Some.ensures.some c.in-Some.ensures.first
    ∙ ap (λ (l : List ℕ). l ∷ lines c.in-Some.rest.now) (sym c.without_return.ensures)

pub returns-in-None-clause-lines : goal.returns-in-None-clause-lines
returns-in-None-clause-lines c = line_open c.args.text.now c.requires c.in-None.ensures.none
