use Rattle.std.proofs.Common.{◌≡◌, append_assoc, take, List, ℕ, length, ap, sym, subst, ◌∙◌, arith}
use Rattle.std.proofs.Math.Seq.{take-length}
use Rattle.auth_grammar.specs.Items.{SpellsChallenges}
use Rattle.auth_grammar.proofs.Written.{challenges_written}
use Rattle.auth_grammar.specs.Writing.{item_text, items_text, separator_at}
use Rattle.auth_grammar.proofs.Joins.{parts_next}
use Rattle.auth_grammar.proofs.write.write_items.Goals as goal

pub loop-i-preserved : goal.loop-i-preserved
loop-i-preserved c =
    let next = parts_next (item_text c.args.quoting) c.as_slice-item-items.result.now c.loop-i.i c.item-item.result c.loop-i-test.true c.item-item.is in
    let before : List ℕ = items_text c.args.quoting (take c.loop-i.i c.as_slice-item-items.result.now) in
    let a = append_assoc before (separator_at c.loop-i.i) (item_text c.args.quoting c.item-item.result) in
    cc (next, a, c.loop-i.invariant, c.in_ok-push_separator.ensures, c.in_ok-push_item.ensures)

pub returns-clause-spelled : goal.returns-clause-spelled
returns-clause-spelled c =
    let e : c.loop-i.i ≡ length c.as_slice-item-items.result.now = omega arith in
    let text : c.loop-i.out ≡ items_text c.args.quoting c.args.items.now =
    c.loop-i.invariant ∙ ap (items_text c.args.quoting) (ap (λ (n : ℕ). take n c.as_slice-item-items.result.now) e ∙ take-length c.as_slice-item-items.result.now ∙ c.as_slice-item-items.ensures) in
    λ valid. subst (λ (t : List ℕ). SpellsChallenges t c.args.items.now) (sym text) (challenges_written c.args.quoting c.args.items.now valid)
