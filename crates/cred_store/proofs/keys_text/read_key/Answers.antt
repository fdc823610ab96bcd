use Rattle.std.proofs.Common.{ap, length, sym, ◌∙◌}
use Rattle.cred_store.proofs.KeyTexts.{same_bytes}
use Rattle.cred_store.proofs.keys_text.read_key.Goals as goal

pub returns-then-len-ne32-clause-none : goal.returns-then-len-ne32-clause-none
returns-then-len-ne32-clause-none c key is same =
    let one = same_bytes key c.in-Some.bytes.items is.bytes c.in-Some.ensures.bytes (same ∙ sym c.in-Some.ensures.some) in
    c.if-len-ne32.true (c.len.ensures.value ∙ sym (ap length one) ∙ is.long)
