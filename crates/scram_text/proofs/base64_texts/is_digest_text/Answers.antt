use Rattle.std.proofs.Common.{sym, ◌∙◌}
use Rattle.scram_text.proofs.Base64Texts.{digest_from, digest_to}
use Rattle.scram_text.proofs.base64_texts.is_digest_text.Goals as goal

pub returns : goal.returns
returns c = (λ yes. digest_from c.args.text.now (sym c.may_follow.ensures ∙ yes), λ is. c.may_follow.ensures ∙ digest_to c.args.text.now is)
