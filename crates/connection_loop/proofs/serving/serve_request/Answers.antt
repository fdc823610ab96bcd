use Rattle.std.proofs.Common.{[], take}
use Rattle.std.proofs.lemmas.Result.{err_from_is_err_and}
use Rattle.connection_loop.proofs.Passing.{LinkPassed_wrote, LinkPassed_none}
use Rattle.connection_loop.proofs.Steps.{request_unwritten, request_unsaid}
use Rattle.connection_loop.proofs.serving.serve_request.Goals as goal

pub returns-in-Err-OutOfMemory-clause-served : goal.returns-in-Err-OutOfMemory-clause-served
returns-in-Err-OutOfMemory-clause-served g c =
    let have = rw c.in-Err-OutOfMemory.field-0-is at c.in-Err-OutOfMemory.ensures.responds in
    ([], c.now-moment.result, have.0, LinkPassed_none _, c.now-moment.ensures.shown, have.1, request_unsaid g.R.Responder.machine _ _ c.now-moment.result have.0 have.2)

pub returns-in_err-write_all-clause-served : goal.returns-in_err-write_all-clause-served
returns-in_err-write_all-clause-served g c =
    let p = err_from_is_err_and c.from_residual.result c.from_residual.ensures.1 in
    let have = c.in-Ok.ensures.responds in
    let moment = c.now-moment.result in
    let wrote = rw c.bytes.ensures at c.in_err-write_all.ensures.err in
    rw (p.1, p.2) (
      take wrote.0 c.in-Ok.response.text,
      moment,
      have.0,
      LinkPassed_wrote _ _ (take wrote.0 c.in-Ok.response.text) c.write_all.ensures.left c.write_all.ensures.given c.write_all.ensures.reads wrote.1,
      c.now-moment.ensures.shown,
      have.1,
      request_unwritten g.R.Responder.machine (g.R.Responder.lacked c.args.responder.now c.respond.new.self) _ _ _ moment wrote.0 c.in-Ok.response have.0 c.in_err-write_all.field-0.0 c.in_err-write_all.ensures.kind have.2,
    )
