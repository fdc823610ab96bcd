use Rattle.std.proofs.Common.{◌≡◌, ◌∙◌, List, ℕ, IfOk, Result, Ok, Err}
use Rattle.std.proofs.Math.Logic.{∥∥₁_map}
use Rattle.scram_text.specs.ServerFirstAnswers.{AnswersServerFirst, server_first_parts}
use Rattle.scram_text.specs.declared.server_first.ServerFirst.{ServerFirst}
use Rattle.scram_text.proofs.ServerFirstLaws.{written_is}
use Rattle.scram_text.proofs.server_first.ServerFirst.write.Goals as goal

written : {E : Type 0} (m : ServerFirst) (bytes : List ℕ) (r : Result (List ℕ) E) → bytes ≡ m.text → IfOk r (λ t. t ≡ bytes) → IfOk r (λ t. ∥ AnswersServerFirst t (Ok m) ∥₁)
written m bytes (Ok t) is same = ∥∥₁_map m.spelled (written_is m.text t (server_first_parts m) (same ∙ is))
written m bytes (Err e) is same = tt

pub returns-clause-reads_back : goal.returns-clause-reads_back
returns-clause-reads_back c = written c.args.self.now c.bytes.result.now c.of.result c.bytes.ensures c.of.ensures
