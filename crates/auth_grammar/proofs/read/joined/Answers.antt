use Rattle.std.proofs.Common.{◌≡◌, [], ◌∷◌, arith, append_assoc}
use Rattle.auth_grammar.proofs.Joins.{join_first, join_later}
use Rattle.auth_grammar.proofs.read.joined.Goals as goal
use Rattle.auth_grammar.proofs.read.joined.Goals.{then-i-gt0+in_ok-push, else-i-gt0}

pub loop-i-preserved : goal.loop-i-preserved
loop-i-preserved c =
    elim c.if-i-gt0.branch [
      | then-i-gt0+in_ok-push w ↦ (
          let e = join_later (44 ∷ []) c.as_slice-line-items.result.now c.loop-i.i c.line-item.result c.loop-i-test.true c.line-item.is w.if-i-gt0.true in
          let a = append_assoc c.loop-i.text (44 ∷ []) c.bytes.result.now in
          cc (a, e, w.text-is, w.in_ok-push.ensures.ok, c.in_ok-extend.ensures.ok, c.bytes.ensures, c.loop-i.invariant))
      | else-i-gt0 w ↦ (
          let none : c.loop-i.i ≡ 0 = omega (arith, w.if-i-gt0.false) in
          let e = join_first (44 ∷ []) c.as_slice-line-items.result.now c.loop-i.i c.line-item.result c.loop-i-test.true c.line-item.is none in
          cc (e, w.text-is, c.in_ok-extend.ensures.ok, c.bytes.ensures, c.loop-i.invariant))
    ]
