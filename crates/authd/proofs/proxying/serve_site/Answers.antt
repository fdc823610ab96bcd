use Rattle.std.proofs.Common.{◌∙◌, sym, arith}
use Rattle.authd.proofs.Crews.{at_fault, at_worn}
use Rattle.authd.proofs.proxying.serve_site.Goals as goal

pub returns-clause-accept_fault : goal.returns-clause-accept_fault
returns-clause-accept_fault g c = λ is.
    let there = c.serve_proxied-end.ensures.accept_fault (at_fault c.serve_proxied-end.result.0 (sym c.status_of.ensures ∙ is)) in
    (there.0, omega (arith, there.1), there.2)

pub returns-clause-worn : goal.returns-clause-worn
returns-clause-worn g c = λ is.
    let there = c.serve_proxied-end.ensures.worn (at_worn c.serve_proxied-end.result.0 (sym c.status_of.ensures ∙ is)) in
    (there.0, omega (arith, there.1, c.requires.as_many), there.2)
