use Rattle.std.proofs.Common.{◌≡◌, ℕ, List, ◌++◌, length, take, ap, sym, subst, ◌∙◌, arith}
use Rattle.std.proofs.lemmas.List.{append-nil}
use Rattle.std.proofs.Math.Seq.{take-length}
use Rattle.auth_grammar.specs.Walks.{Stands}
use Rattle.auth_grammar.proofs.WalkLaws.{walked_on, walked_err}
use Rattle.auth_grammar.proofs.walker.Walker.walk.Goals as goal

pub loop-i-init : goal.loop-i-init
loop-i-init c = λ grammar fed s. subst (λ (x : List ℕ). Stands grammar c.args.self x) (sym (append-nil fed)) s

pub returns-in-None : goal.returns-in-None
returns-in-None c = λ grammar fed s.
    let here = c.loop-i.invariant grammar fed s in
    walked_err grammar c.loop-i.walker fed c.args.piece.now c.loop-i.i c.loop-i-test.true here (c.in-None.ensures grammar (fed ++ take c.loop-i.i c.args.piece.now) here)

pub loop-i-preserved : goal.loop-i-preserved
loop-i-preserved c = λ grammar fed s.
    walked_on grammar c.in-Some.next fed c.args.piece.now c.loop-i.i c.loop-i-test.true (c.in-Some.ensures grammar (fed ++ take c.loop-i.i c.args.piece.now) (c.loop-i.invariant grammar fed s))

pub returns : goal.returns
returns c = λ grammar fed s.
    let e : c.loop-i.i ≡ length c.args.piece.now = omega arith in
    subst (λ (x : List ℕ). Stands grammar c.loop-i.walker (fed ++ x)) (ap (λ (n : ℕ). take n c.args.piece.now) e ∙ take-length c.args.piece.now) (c.loop-i.invariant grammar fed s)
