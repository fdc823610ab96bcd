use Rattle.origin_core.proofs.Plans.{replaced}
use Rattle.origin_core.proofs.carrying.store_file.Goals as goal

pub returns : goal.returns
returns g c =
    let e = c.replace-answer.ensures in
    replaced _ _ _ _ _ _ c.replace-answer.result _ c.bytes.ensures e.says e.later e.cause c.replaced_reply.ensures.reply c.replaced_reply.ensures.memory
