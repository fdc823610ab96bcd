use Rattle.std.proofs.Common.{Option, ap, ◌∙◌}
use Rattle.atomic_table.specs.Seated.{TableId}
use Rattle.atomic_table.specs.Table.{Me}
use Rattle.turn_table.specs.declared.view.View.{View}
use Rattle.turn_table.specs.Passes.{PassFacts, joined_pass}
use Rattle.turn_table.specs.Views.{facts_of}
use Rattle.turn_table.proofs.table.TurnTable.join.Goals as goal

pub returns-clause-pass : goal.returns-clause-pass
returns-clause-pass g c =
    let M : Type 0 = Me (Option g.row.O.Denot) (View g.row.O-Call.Denot g.row.O-Setting.Denot) in
    let K : Type 0 = PassFacts g.row.O-Call.Denot g.row.O-Setting.Denot in
    let T = c.pass.inside.seat.table_id in
    let other = c.other.inside.seat in
    ap (λ (t : TableId). facts_of t c.look_again.new.seat.me.0) (c.look_again.ensures.table ∙ c.join_views.ensures.table)
    ∙ ap (λ (m : M). facts_of T m.0) c.look_again.ensures.looked.0
    ∙ ap (λ (m : M). facts_of T m.0) c.join_views.ensures.joined
    ∙ ap (λ (k : K). joined_pass k (facts_of other.table_id other.me.0)) c.pass.view_is
    ∙ ap (λ (k : K). joined_pass c.args.pass.now k) c.other.view_is
