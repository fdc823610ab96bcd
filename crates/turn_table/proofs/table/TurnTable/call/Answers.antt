use Rattle.std.proofs.Common.{[], ◌∷◌, ◌++◌, Option, sym, ap, ◌∙◌, subst, arith, ◌<◌}
use Rattle.atomic_table.specs.Seated.{TableId}
use Rattle.atomic_table.specs.Table.{Me}
use Rattle.turn_table.specs.declared.object.TheConstants.{MOST_CALLS}
use Rattle.turn_table.specs.declared.view.View.{View}
use Rattle.turn_table.specs.History.{GrownByOthers}
use Rattle.turn_table.specs.Passes.{PassFacts}
use Rattle.turn_table.specs.Views.{facts_of}
use Rattle.turn_table.proofs.CallPath.{answered}
use Rattle.turn_table.proofs.table.TurnTable.call.Goals as goal

pub invariant_of-pass-2 : goal.invariant_of-pass-2
invariant_of-pass-2 g c =
    let M : Type 0 = Me (Option g.row.O.Denot) (View g.row.O-Call.Denot g.row.O-Setting.Denot) in
    let t = c.begin_turn-calls.ensures.counted.0 c.if-calls-ge-MOST_CALLS.false in
    let e = answered c.pass.inside.seat.me c.begin_turn-calls.new.seat.me c.answer_in_turn.new.seat.me c.args.call.now t.log t.object t.me c.answer_in_turn.ensures.made in (
      record {
        named = ap (λ (m : M). m.0.named) e ∙ c.pass.invariant.0.named;
        was = ap (λ (m : M). m.0.was) e ∙ sym (ap (λ (m : M). m.0.seen) e);
        heard = ap (λ (m : M). m.0.heard) e;
        turn = ap (λ (m : M). m.0.turn) e;
      },
      ap (λ (m : M). m.1) e,
    )

pub returns-clause-ok : goal.returns-clause-ok
returns-clause-ok g c =
    let M : Type 0 = Me (Option g.row.O.Denot) (View g.row.O-Call.Denot g.row.O-Setting.Denot) in
    let K : Type 0 = PassFacts g.row.O-Call.Denot g.row.O-Setting.Denot in
    let t = c.begin_turn-calls.ensures.counted.0 c.if-calls-ge-MOST_CALLS.false in
    let e = answered c.pass.inside.seat.me c.begin_turn-calls.new.seat.me c.answer_in_turn.new.seat.me c.args.call.now t.log t.object t.me c.answer_in_turn.ensures.made in
    let v = c.pass.view_is in
    let T = c.pass.inside.seat.table_id in
    let setting = g.O.Object.setting t.object in
    record {
      before = t.log;
      setting = setting;
      own = subst (λ (k : K). GrownByOthers t.log k.owner k.seen) v t.own;
      room = let found : c.begin_turn-calls.result < MOST_CALLS = c.if-calls-ge-MOST_CALLS.false in let long = t.long in omega arith;
      setting_is = sym (ap (λ (k : K). k.setting) v) ∙ t.setting_is;
      reply_is = c.answer_in_turn.ensures.reply t.log setting (ap (λ (m : M). m.0.turn) t.me) (ap (λ (m : M). m.0.setting) t.me ∙ t.setting_is);
      seen_is = ap (λ (i : TableId). facts_of i c.answer_in_turn.new.seat.me.0) (c.answer_in_turn.ensures.table ∙ c.begin_turn-calls.ensures.table)
          ∙ ap (λ (m : M). facts_of T m.0) e
          ∙ ap (λ (k : K). record k { seen = t.log ++ (k.owner, c.args.call.now) ∷ [] }) v;
    }
