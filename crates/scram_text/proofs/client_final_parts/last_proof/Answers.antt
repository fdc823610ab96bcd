use Rattle.scram_text.proofs.TailLaws.{tail_halts, tail_stops}
use Rattle.scram_text.proofs.client_final_parts.last_proof.Goals as goal

pub returns-in-None-clause-err : goal.returns-in-None-clause-err
returns-in-None-clause-err c =
    tail_halts c.args.text.now c.args.rest.now c.farther.result c.requires.before
    (tail_stops c.args.rest.now c.args.at c.reach.result c.farther.result c.farther.ensures.first c.farther.ensures.second c.farther.ensures.one c.requires.off c.reach.ensures.reach c.in-None.ensures.none)
