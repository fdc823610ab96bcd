use Rattle.client_core.proofs.SaidLaws.{info_says}
use Rattle.client_core.proofs.reading.read_info.Goals as goal

pub returns-in-Ok-clause-says : goal.returns-in-Ok-clause-says
returns-in-Ok-clause-says c =
    info_says c.args.lines.now c.in-Ok.params c.read_params.result c.is_empty.result c.if-is_empty.false c.is_empty.ensures c.read_params.ensures c.in-Ok.is
