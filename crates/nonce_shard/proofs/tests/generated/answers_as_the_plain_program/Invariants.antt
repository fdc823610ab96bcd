use Rattle.std.proofs.Common.{◌≡◌, List, length}
use Rattle.nonce_shard.specs.declared.calls.Call.{Call}
use Rattle.nonce_shard.specs.Shard.{StandsFor}
use Rattle.nonce_shard.proofs.tests.generated.answers_as_the_plain_program.Given as goal

abbrev pub invariant-loop-step : goal.invariant-loop-step
invariant-loop-step g l = (calls : List Call) × StandsFor l.shard calls × (length calls ≡ l.step)
