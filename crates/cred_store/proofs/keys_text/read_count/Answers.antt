use Rattle.std.proofs.Common.{arith, ◌∙◌}
use Rattle.cred_store.proofs.KeyTexts.{same_wide}
use Rattle.cred_store.proofs.keys_text.read_count.Goals as goal

pub returns-in_default-clause-none : goal.returns-in_default-clause-none
returns-in_default-clause-none c i low high same = absurd (omega (arith, same_wide i c.in-Some.number (omega arith) (omega arith) (same ∙ c.in-Some.ensures.some)))

pub returns-in_default-2-clause-none : goal.returns-in_default-2-clause-none
returns-in_default-2-clause-none c i low high same = absurd (omega (arith, same_wide i c.in-Some.number (omega arith) (omega arith) (same ∙ c.in-Some.ensures.some)))
