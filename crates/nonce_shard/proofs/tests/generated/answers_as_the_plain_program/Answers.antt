use Rattle.std.proofs.Common.{[], ◌∷◌, ◌++◌, length-append, arith}
use Rattle.nonce_shard.proofs.tests.generated.answers_as_the_plain_program.Goals as goal

pub loop-step-preserved : goal.loop-step-preserved
loop-step-preserved g c =
    let h = c.loop-step.invariant in
    let call = c.call-call.result in
    (h.0 ++ call ∷ [], c.apply.ensures.stands h.0 h.1, omega (arith, h.2, length-append h.0 (call ∷ [])))
