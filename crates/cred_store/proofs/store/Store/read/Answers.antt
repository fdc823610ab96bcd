use Rattle.std.proofs.Common.{inl, inr, refl}
use Rattle.std.proofs.lemmas.Result.{err_from_is_err_and}
use Rattle.cred_store.proofs.StoreTexts.{sound}
use Rattle.cred_store.proofs.store.Store.read.Goals as goal

pub returns-in-Err-clause-refused : goal.returns-in-Err-clause-refused
returns-in-Err-clause-refused c = sound c.args.text.now _ (inl (c.in-Err.why, refl, c.in-Err.ensures.err))

pub returns-in_err-entries-clause-refused : goal.returns-in_err-entries-clause-refused
returns-in_err-entries-clause-refused c =
    let p = err_from_is_err_and c.from_residual.result c.from_residual.ensures.1 in
    rw (p.1, p.2) (sound c.args.text.now _ (inr (c.in-Ok.read.0, rw c.in-Ok.ensures.ok c.in_err-entries.ensures.err)))
