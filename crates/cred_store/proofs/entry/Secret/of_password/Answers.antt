use Rattle.std.proofs.Common.{length, ap, sym, ◌∙◌}
use Rattle.cred_store.proofs.Digests.{length_hash}
use Rattle.cred_store.proofs.entry.Secret.of_password.Goals as goal

pub prove-unreachable-requires : goal.prove-unreachable-requires
prove-unreachable-requires c =
    c.if-prove.true (ap length (c.bytes.ensures.value ∙ c.ha1-ha1.ensures) ∙ length_hash c.args.alg _ ∙ sym c.digits.ensures)
