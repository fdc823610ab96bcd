use Rattle.origin_core.proofs.Plans.{no_plan}
use Rattle.origin_core.proofs.carrying.reply_for.Goals as goal

pub returns-in_err-plan : goal.returns-in_err-plan
returns-in_err-plan g c = no_plan _ _ _ _ _ c.from_residual.ensures.0
