use Rattle.std.proofs.Common.{Err, inr, refl}
use Rattle.std.proofs.lemmas.Result.{err_from_is_err_and}
use Rattle.authd.proofs.pipe.serve.Goals as goal

pub returns-in_err-serve_alone-clause-serves : goal.returns-in_err-serve_alone-clause-serves
returns-in_err-serve_alone-clause-serves g c =
    let from = c.from_residual-in_err-serve_alone in
    let p = err_from_is_err_and from.result from.ensures.1 in
    rw (p.1, p.2) (inr (c.in_ok-table.table, c.serve_alone.new.table, c.in_ok-table.ensures.ok, Err c.in_err-serve_alone.field-0.0, c.in_err-serve_alone.ensures.serves, c.in_err-serve_alone.ensures.never_worn, refl))
