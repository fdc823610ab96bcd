use Rattle.std.proofs.Common.{ap, arith, length, sym, ◌∙◌}
use Rattle.cred_store.proofs.KeyTexts.{same_bytes, some_length}
use Rattle.cred_store.proofs.keys_text.read_salt.Goals as goal

pub returns-then-is_empty-clause-none : goal.returns-then-is_empty-clause-none
returns-then-is_empty-clause-none c salt bytes some short same =
    let one = same_bytes salt c.in-Some.salt.items bytes c.in-Some.ensures.bytes (same ∙ sym c.in-Some.ensures.some) in
    some_length (length c.in-Some.salt.items) (sym c.is_empty.ensures ∙ c.if-is_empty.true) (omega (arith, ap length one))
