use Rattle.std.proofs.Common.{◌∷◌, List, ℕ, Option, Some, sym, ap, ◌∙◌}
use Rattle.atomic_table.specs.Table.{rest}
use Rattle.turn_table.proofs.steps.value.take_value.Goals as goal

pub exchange-requires : goal.exchange-requires
exchange-requires g c = let f = c.requires.full in
    (c.requires.table.same, (Some f.0, f.1 ∙ ap (λ (l : List (ℕ × Option g.row.O.Denot)). (0, Some f.0) ∷ rest l) (sym f.1)))
