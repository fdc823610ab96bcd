use Rattle.cred_store.proofs.Changed.{scram_put, scram_without, secret_put, secret_without}
use Rattle.cred_store.proofs.laws.changes_what_is_named.Goals as goal

pub returns-clause-put : goal.returns-clause-put
returns-clause-put c = secret_put

pub returns-clause-put_keys : goal.returns-clause-put_keys
returns-clause-put_keys c = scram_put

pub returns-clause-without : goal.returns-clause-without
returns-clause-without c = secret_without

pub returns-clause-without_keys : goal.returns-clause-without_keys
returns-clause-without_keys c = scram_without
