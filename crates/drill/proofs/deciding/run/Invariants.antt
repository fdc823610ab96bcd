use Rattle.std.proofs.Common.{◌≡◌, ◌≤◌, ℕ, List, Option}
use Rattle.auth_decide.specs.Decisions.{asks_left}
use Rattle.auth_decide.specs.Stages.{Question}
use Rattle.nonce_shard.specs.Journal.{Journal}
use Rattle.nonce_shard.specs.Sizes.{single_sizes}
use Rattle.drill.specs.Deciding.{IsUnderWay}
use Rattle.drill.proofs.deciding.run.Given as goal

-- what was done so far is what the decision asked for
abbrev pub invariant-loop-verdict : goal.invariant-loop-verdict
invariant-loop-verdict g l = record {
  goes : (q : Question) (before : Journal) (told : Option (List (List ℕ))) → IsUnderWay q before l.initial.table told (g.W.Words.drawn l.initial.random) l.initial.decision
      → IsUnderWay q before l.table told (g.W.Words.drawn l.random) l.decision;
  shards : l.decision.question.shards ≡ 1;
  sizes : l.table.sizes ≡ single_sizes;
  later : g.W.Words.faults l.initial.random ≤ g.W.Words.faults l.random;
}

abbrev pub decreases-loop-verdict : goal.decreases-loop-verdict
decreases-loop-verdict g l = asks_left l.decision.stage
