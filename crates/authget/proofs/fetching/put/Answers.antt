use Rattle.std.proofs.Common.{◌∙◌, inl, inr, refl}
use Rattle.std.proofs.lemmas.Result.{err_from_is_err_and}
use Rattle.authget.proofs.Places.{front_same, written_whole}
use Rattle.authget.proofs.fetching.put.Goals as goal

pub returns-in_err-line-clause-puts : goal.returns-in_err-line-clause-puts
returns-in_err-line-clause-puts g c =
    let p = err_from_is_err_and c.from_residual-in_err-line.result c.from_residual-in_err-line.ensures.1 in
    rw p.1 (written_whole _ _ _ _ c.bytes.ensures c.in_ok-write_all.ensures.ok, inr refl)

pub returns-in_err-tell-clause-puts : goal.returns-in_err-tell-clause-puts
returns-in_err-tell-clause-puts g c =
    let p = err_from_is_err_and c.from_residual-in_err-tell.result c.from_residual-in_err-tell.ensures.1 in
    let cut = front_same _ _ _ _ (c.bytes-2.ensures ∙ c.in_ok-line.ensures) c.in_err-tell.ensures.err in
    rw p.1 (written_whole _ _ _ _ c.bytes.ensures c.in_ok-write_all.ensures.ok, inl (cut.0, c.in_err-tell.ensures.err_open, cut.1))
