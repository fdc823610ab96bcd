use Rattle.origin_core.proofs.Plans.{refuses}
use Rattle.origin_core.proofs.carrying.carry_out.Goals as goal

pub returns-in-Refuse : goal.returns-in-Refuse
returns-in-Refuse g c = refuses _ _ _ _ _ c.in-Refuse.refusal _ c.in-Refuse.is c.status.ensures.value c.status_reply.ensures
