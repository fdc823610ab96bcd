use Rattle.std.proofs.Common.{sym}
use Rattle.std.proofs.lemmas.Result.{err_from_is_err_and}
use Rattle.authd.proofs.Sites.{store_refused}
use Rattle.authd.proofs.loading.store_in.Goals as goal

pub returns-in_err-read-in-Ok : goal.returns-in_err-read-in-Ok
returns-in_err-read-in-Ok c =
    let from = c.from_residual in
    let failed = err_from_is_err_and from.result from.ensures.1 in
    store_refused c.args.text c.in-Ok.text _ c.in_err-read-in-Ok.field-0.0 failed.0 from.result (sym c.in-Ok.is) c.bytes.ensures c.in_err-read-in-Ok.ensures.fault failed.1 failed.2
