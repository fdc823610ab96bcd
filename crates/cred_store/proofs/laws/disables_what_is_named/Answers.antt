use Rattle.cred_store.proofs.Changed.{scram_off, secret_off}
use Rattle.cred_store.proofs.laws.disables_what_is_named.Goals as goal

pub returns-clause-secrets : goal.returns-clause-secrets
returns-clause-secrets c = secret_off

pub returns-clause-keys : goal.returns-clause-keys
returns-clause-keys c = scram_off
