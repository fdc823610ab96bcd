use Rattle.std.proofs.Common.{Ok, Err, ◌∙◌, ap, refl}
use Rattle.std.proofs.lemmas.Result.{err_from_is_err_and}
use Rattle.connection_loop.specs.Account.{link_of}
use Rattle.authd.proofs.passwd.set_password.Goals as goal

pub returns-in_err-password-clause-sets : goal.returns-in_err-password-clause-sets
returns-in_err-password-clause-sets g c =
    let p = err_from_is_err_and c.from_residual.result c.from_residual.ensures.1 in (
      link_of g.L.Link.left g.L.Link.given g.L.Link.written g.L.Link.reads c.read_password.new.link,
      Err c.in_err-password.field-0.0,
      c.in_err-password.ensures.password,
      c.in_err-password.ensures.written,
      (refl, refl, refl, p.1 ∙ ap Err p.2),
    )

pub returns-clause-sets : goal.returns-clause-sets
returns-clause-sets g c = (
  link_of g.L.Link.left g.L.Link.given g.L.Link.written g.L.Link.reads c.read_password.new.link,
  Ok c.in_ok-password.password,
  c.in_ok-password.ensures.password,
  c.in_ok-password.ensures.written,
  rw c.bytes.ensures at c.set_secret.ensures.sets,
)
