use Rattle.std.proofs.Common.{ℕ, List, sym, subst}
use Rattle.digest_fields.specs.Name.{IsName}
use Rattle.client_core.proofs.HashNames.{hash_name}
use Rattle.client_core.proofs.digest.user_name.Goals as goal

pub returns-clause-form : goal.returns-clause-form
returns-clause-form c =
    let P : List ℕ → Type 0 = λ name. IsName name in
    subst P (sym (c.in_ok-of.ensures {u = tt})) (subst P (sym c.bytes-3.ensures.value) (hash_name c.user_hash-hash.result c.bytes-3.ensures.form))
