use Rattle.std.proofs.Common.{Ok, Err}
use Rattle.origin_core.proofs.Plans.{answers, gives_up_as}
use Rattle.origin_core.proofs.serving.answer.Goals as goal

pub returns-in_err-verdict-clause-answers : goal.returns-in_err-verdict-clause-answers
returns-in_err-verdict-clause-answers g c = gives_up_as _ _ _ _ _ _ _ c.from_residual.ensures.1 c.in_err-verdict.ensures.decided

pub returns-in-Ok-clause-answers : goal.returns-in-Ok-clause-answers
returns-in-Ok-clause-answers g c = answers _ _ _ _ _ _ c.in_ok-verdict.verdict _ (Ok c.in-Ok.response) c.bytes.ensures c.in_ok-verdict.ensures.decided c.in-Ok.ensures

pub returns-in-Err-clause-answers : goal.returns-in-Err-clause-answers
returns-in-Err-clause-answers g c = answers _ _ _ _ _ _ c.in_ok-verdict.verdict _ (Err c.in-Err.field-0) c.bytes.ensures c.in_ok-verdict.ensures.decided c.in-Err.ensures
