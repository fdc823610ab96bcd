use Rattle.std.proofs.Common.{sym, ◌∙◌}
use Rattle.scram_text.proofs.Base64Texts.{salt_from, salt_to}
use Rattle.scram_text.proofs.base64_texts.is_salt_text.Goals as goal

pub returns : goal.returns
returns c = (λ yes. salt_from c.args.text.now (sym c.may_follow.ensures ∙ yes), λ is. c.may_follow.ensures ∙ salt_to c.args.text.now is)
