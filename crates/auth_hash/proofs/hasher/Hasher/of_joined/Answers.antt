use Rattle.std.proofs.Common.{ℕ, List, Bor, subst}
use Rattle.auth_hash.specs.Hasher.{Holding}
use Rattle.auth_hash.proofs.Joins.{joined_next, joined_first}
use Rattle.auth_hash.proofs.hasher.Hasher.of_joined.Goals as goal
use Rattle.auth_hash.proofs.hasher.Hasher.of_joined.Goals.{then-at-gt0, else-at-gt0}

pub loop-at-preserved : goal.loop-at-preserved
loop-at-preserved c =
    let now : Bor (List ℕ) → List ℕ = λ text. text.now in
    let P : List ℕ → Type 0 = λ m. Holding c.add-in-loop-at.new.self c.args.algorithm m in
    elim c.if-at-gt0.branch [
      | then-at-gt0 w ↦
          let behind = w.add.ensures c.args.algorithm _ c.loop-at.invariant in
          subst P (joined_next now c.args.texts.now _ c.loop-at.at c.loop-at-test.true w.if-at-gt0.true)
          (c.add-in-loop-at.ensures c.args.algorithm _ (rw w.hasher-is behind))
      | else-at-gt0 w ↦
          subst P (joined_first now c.args.texts.now _ c.loop-at.at c.loop-at-test.true w.if-at-gt0.false)
          (c.add-in-loop-at.ensures c.args.algorithm _ (rw w.hasher-is c.loop-at.invariant))
    ]
