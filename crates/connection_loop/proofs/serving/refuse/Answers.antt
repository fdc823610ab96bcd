use Rattle.std.proofs.Common.{◌≡◌, [], ℕ, List, refl, ◌∙◌, subst}
use Rattle.std.proofs.lemmas.Result.{err_from_is_err_and}
use Rattle.connection_loop.specs.Session.{refusal}
use Rattle.connection_loop.specs.Account.{link_of}
use Rattle.connection_loop.specs.Steps.{SendsText}
use Rattle.connection_loop.proofs.Passing.{LinkPassed_none, wrote_text}
use Rattle.connection_loop.proofs.serving.refuse.Goals as goal

pub returns-in_err-text-clause-refused : goal.returns-in_err-text-clause-refused
returns-in_err-text-clause-refused g c =
    let p = err_from_is_err_and c.from_residual.result c.from_residual.ensures.1 in
    rw (p.1, p.2) ([], c.now-shown.result, LinkPassed_none _, c.now-shown.ensures.shown, (tt, (refusal c.args.status c.now-shown.result, refl)))

pub returns-clause-refused : goal.returns-clause-refused
returns-clause-refused g c =
    let at = link_of g.L.Link.left g.L.Link.given g.L.Link.written g.L.Link.reads in
    let text : c.bytes.result.now ≡ refusal c.args.status c.now-shown.result = c.bytes.ensures ∙ c.in_ok-text.ensures in
    let sent = wrote_text (at c.args.link.now) (at c.write_all.new.link) c.bytes.result.now c.write_all.result c.write_all.ensures.left c.write_all.ensures.given c.write_all.ensures.reads c.write_all.ensures.ok c.write_all.ensures.err c.write_all.ensures.kind in
    (sent.0, c.now-shown.result, sent.1, c.now-shown.ensures.shown, subst (λ (l : List ℕ). SendsText l sent.0 c.write_all.result) text sent.2)
