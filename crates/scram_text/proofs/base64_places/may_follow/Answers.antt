use Rattle.std.proofs.Common.{length, sym, ◌∙◌}
use Rattle.std.proofs.lemmas.Bool.{ne_eqb}
use Rattle.scram_text.proofs.Base64Steps.{walk_short, walk_whole}
use Rattle.scram_text.proofs.base64_places.may_follow.Goals as goal

pub returns-then-at-text : goal.returns-then-at-text
returns-then-at-text c = c.may_end.ensures ∙ sym (walk_whole c.args.from c.walk-at.result.1 c.args.text.now c.walk-at.result.0 c.walk-at.ensures.walks c.if-at-text.true)

pub returns-else-at-text : goal.returns-else-at-text
returns-else-at-text c =
    ne_eqb c.walk-at.result.0 (length c.args.text.now) c.if-at-text.false ∙ sym (walk_short c.args.from c.walk-at.result.1 c.args.text.now c.walk-at.result.0 c.walk-at.ensures.walks c.if-at-text.false)
