use Rattle.std.proofs.Common.{◌++◌, length-append, arith}
use Rattle.std.proofs.lemmas.Result.{err_from_is_err_and}
use Rattle.auth_io.proofs.Passing.{Consumes_trans}
use Rattle.authd.proofs.Pieces.{piece_failed}
use Rattle.authd.proofs.input.read_input.Goals as goal

pub returns-in_err-read_piece-clause-input : goal.returns-in_err-read_piece-clause-input
returns-in_err-read_piece-clause-input g c =
    let p = err_from_is_err_and c.from_residual.result c.from_residual.ensures.1 in
    let piece = c.in_err-read_piece.ensures.piece in
    rw (p.1, p.2) (
      c.loop-link.input ++ piece.0,
      Consumes_trans _ _ _ c.loop-link.input piece.0 c.loop-link.invariant.read piece.1,
      omega (arith, length-append c.loop-link.input piece.0, piece.2),
      piece_failed c.loop-link.input c.read_piece.new.input piece.0 (c.loop-link.input ++ piece.0) (g.L.Link.left c.read_piece.new.link) c.in_err-read_piece.field-0.0 piece.3,
    )
