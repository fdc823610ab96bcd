use Rattle.std.proofs.Common.{List, ◌<◌, length, Option, Some, inr, sym, ap, ◌∙◌, subst, arith}
use Rattle.atomic_table.specs.Table.{Me}
use Rattle.turn_table.specs.declared.object.TheConstants.{MOST_CALLS}
use Rattle.turn_table.specs.declared.view.View.{View}
use Rattle.turn_table.specs.History.{calls_in}
use Rattle.turn_table.proofs.HistoryFacts.{calls_snoc, calls_long}
use Rattle.turn_table.proofs.CallPath.{carried_is, made, given}
use Rattle.turn_table.proofs.turn.answer_in_turn.Goals as goal

pub give_back-requires-clause-empty : goal.give_back-requires-clause-empty
give_back-requires-clause-empty g c =
    let M : Type 0 = Me (Option g.row.O.Denot) (View g.row.O-Call.Denot g.row.O-Setting.Denot) in
    let h = c.requires.holds in
    ap (λ (m : M). m.1) (made c.args.seat.now.me c.take_value-object.new.seat.me c.commit.new.seat.me c.args.call.now h.log h.turn c.take_value-object.ensures.empty c.commit.ensures.committed)

pub end_turn-requires-clause-named : goal.end_turn-requires-clause-named
end_turn-requires-clause-named g c =
    let M : Type 0 = Me (Option g.row.O.Denot) (View g.row.O-Call.Denot g.row.O-Setting.Denot) in
    let h = c.requires.holds in
    let e = made c.args.seat.now.me c.take_value-object.new.seat.me c.commit.new.seat.me c.args.call.now h.log h.turn c.take_value-object.ensures.empty c.commit.ensures.committed in
    ap (λ (m : M). m.0.named) (given c.args.seat.now.me c.commit.new.seat.me c.give_back.new.seat.me c.args.call.now h.log _ e c.give_back.ensures.full) ∙ c.requires.named

pub end_turn-requires-clause-can : goal.end_turn-requires-clause-can
end_turn-requires-clause-can g c =
    let M : Type 0 = Me (Option g.row.O.Denot) (View g.row.O-Call.Denot g.row.O-Setting.Denot) in
    let h = c.requires.holds in
    let e = made c.args.seat.now.me c.take_value-object.new.seat.me c.commit.new.seat.me c.args.call.now h.log h.turn c.take_value-object.ensures.empty c.commit.ensures.committed in
    let f = given c.args.seat.now.me c.commit.new.seat.me c.give_back.new.seat.me c.args.call.now h.log _ e c.give_back.ensures.full in
    let o = carried_is _ _ _ h.out c.take_value-object.ensures.object in
    let stands = subst (λ (x : g.row.O.Denot). g.O.Object.stands_for x (calls_in h.log)) o h.stands_is in
    let room : length (calls_in h.log) < MOST_CALLS = let r = h.room in omega (arith, calls_long h.log) in
    inr (
      _,
      _,
      ap (λ (m : M). m.0.turn) f,
      ap (λ (m : M). m.1) f,
      subst (λ (l : List g.row.O-Call.Denot). g.O.Object.stands_for c.apply-reply.new.self l) (sym (calls_snoc h.log _)) (c.apply-reply.ensures.stands _ stands room),
      ap (λ (m : M). m.0.setting) f ∙ h.setting_is ∙ ap (λ (x : g.row.O.Denot). Some (g.O.Object.setting x)) o ∙ ap Some (sym c.apply-reply.ensures.setting),
    )
