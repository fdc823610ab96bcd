use Rattle.origin_core.proofs.Plans.{read}
use Rattle.origin_core.proofs.carrying.send_file.Goals as goal

pub returns : goal.returns
returns g c =
    let e = c.read-answer.ensures in
    read _ _ _ _ _ c.read-answer.result _ e.answer e.contents e.asked e.later e.cause c.found_reply.ensures.reply c.found_reply.ensures.memory
