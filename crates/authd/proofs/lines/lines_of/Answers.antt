use Rattle.std.proofs.Common.{◌∷◌, [], ◌∙◌, sym, ap, append_assoc}
use Rattle.std.specs.Str.Lines.{lines}
use Rattle.std.proofs.lemmas.List.{append-nil}
use Rattle.authd.proofs.Cuts.{lines_first, lines_last, lines_none}
use Rattle.authd.proofs.lines.lines_of.Goals as goal
use Rattle.authd.proofs.lines.lines_of.Goals.{then-not-is_empty+in_ok-of-2+in_ok-push-2, else-not-is_empty}

pub loop-line-preserved : goal.loop-line-preserved
loop-line-preserved c =
    let first = lines_first c.in-Some.line.now c.in-Some.behind.now c.in-Some.ensures.first in
    let cut = c.in-Some.ensures.some in
    let here = ap lines cut in
    let added = c.in_ok-push.ensures.ok in
    let all = append_assoc c.loop-line.list (c.without_return.result.now ∷ []) (lines c.in-Some.behind.now) in
    cc (first, here, added, all, c.in_ok-of.ensures, c.without_return.ensures, c.loop-line.invariant)

pub returns : goal.returns
returns c =
    elim c.if-not-is_empty.branch [
      | then-not-is_empty+in_ok-of-2+in_ok-push-2 w ↦ (
          let none = rw c.in_default.is at c.cut_at.ensures.none in
          let last = lines_last c.loop-line.rest.now (sym c.is_empty.ensures ∙ w.if-not-is_empty.true) none in
          cc (last, w.list-is, w.in_ok-push-2.ensures.ok, w.in_ok-of-2.ensures, c.loop-line.invariant))
      | else-not-is_empty w ↦ (
          let last = lines_none c.loop-line.rest.now (sym c.is_empty.ensures ∙ w.if-not-is_empty.false) in
          let all = append-nil c.loop-line.list in
          cc (last, all, w.list-is, c.loop-line.invariant))
    ]
