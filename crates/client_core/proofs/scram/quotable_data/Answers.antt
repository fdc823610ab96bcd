use Rattle.std.proofs.Common.{arith}
use Rattle.client_core.proofs.QuotableTexts.{base64_quotable, when_ok}
use Rattle.client_core.proofs.scram.quotable_data.Goals as goal

pub returns-clause-quotable : goal.returns-clause-quotable
returns-clause-quotable c = when_ok _ (base64_quotable c.args.message.now (λ i. omega (arith, c.type_inv.message i)))
