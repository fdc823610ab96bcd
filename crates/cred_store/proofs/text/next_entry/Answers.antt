use Rattle.std.proofs.lemmas.Result.{err_from_is_err_and}
use Rattle.cred_store.proofs.text.next_entry.Goals as goal

pub returns-in_err-check_order-clause-err : goal.returns-in_err-check_order-clause-err
returns-in_err-check_order-clause-err c =
    let p = err_from_is_err_and c.from_residual.result c.from_residual.ensures.1 in
    rw (p.1, p.2) (c.in_err-check_order.ensures.err c.args.text.now _ c.in-Ok.ensures.entry c.in-Ok.ensures.text)
