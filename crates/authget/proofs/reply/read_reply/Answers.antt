use Rattle.std.proofs.Common.{◌++◌, ◌∙◌, sym, subst, arith}
use Rattle.std.proofs.lemmas.Result.{err_from_is_err_and}
use Rattle.auth_io.proofs.Passing.{Consumes_trans}
use Rattle.http_wire.specs.declared.response.NextResponse.TheVariants as next
use Rattle.authget.specs.Replies.{IsPiece, IsReply}
use Rattle.authget.proofs.Replying.{holds_piece, told_early, told_late}
use Rattle.authget.proofs.reply.read_reply.Goals as goal

pub returns-in-Message-clause-reply : goal.returns-in-Message-clause-reply
returns-in-Message-clause-reply g c =
    let have = c.reply.invariant.0 in
    (have.0, have.1, told_early _ _ have.0 c.reply.feed c.next.new.self (next.Message c.in-Message.response) have.1 have.2 c.reply.invariant.1 c.in-Message.ensures (λ e. cc))

pub returns-in-Bad-clause-reply : goal.returns-in-Bad-clause-reply
returns-in-Bad-clause-reply g c =
    let have = c.reply.invariant.0 in
    (have.0, have.1, told_early _ _ have.0 c.reply.feed c.next.new.self (next.Bad _) have.1 have.2 c.reply.invariant.1 c.in-Bad.ensures (λ e. cc))

pub returns-in_err-read_piece-in-NeedMore-clause-reply : goal.returns-in_err-read_piece-in-NeedMore-clause-reply
returns-in_err-read_piece-in-NeedMore-clause-reply g c =
    let have = c.reply.invariant.0 in
    let took = c.in_err-read_piece-in-NeedMore.ensures.piece in
    let p = err_from_is_err_and c.from_residual.result c.from_residual.ensures.1 in
    rw p.1 (have.0 ++ took.0, Consumes_trans _ _ _ have.0 took.0 have.1 took.1, tt)

pub returns-then-not-branch-clause-reply : goal.returns-then-not-branch-clause-reply
returns-then-not-branch-clause-reply g c =
    let have = c.reply.invariant.0 in
    let took = c.in_ok-read_piece-in-NeedMore.ensures.piece in
    let stays = c.in-NeedMore.ensures.1 in
    let pushes = took.2.0 in
    let read = Consumes_trans _ _ _ have.0 took.0 have.1 took.1 in
    let ended = subst (IsPiece (g.L.Link.left c.read_piece.new.link) took.0) c.if-not-branch.true took.2.3 in
    let holds = holds_piece c.reply.feed c.next.new.self c.read_piece.new.feed have.0 took.0 _ have.2 stays pushes in
    let to_head = pushes.to_head ∙ stays.to_head ∙ c.reply.invariant.1 in (
      have.0 ++ took.0,
      read,
      subst (IsReply (g.L.Link.left c.args.link.now) (have.0 ++ took.0)) (sym c.reply_of.ensures)
          (told_late _ _ (have.0 ++ took.0) c.read_piece.new.feed c.finish.new.self c.finish.result read ended.1 holds to_head c.finish.ensures),
    )

pub reply-smaller : goal.reply-smaller
reply-smaller g c =
    let took = c.in_ok-read_piece-in-NeedMore.ensures.piece in
    let some = subst (IsPiece (g.L.Link.left c.read_piece.new.link) took.0) c.if-not-branch.false took.2.3 in
    omega (arith, took.2.1, took.2.2, some)

pub reply-preserved : goal.reply-preserved
reply-preserved g c =
    let have = c.reply.invariant.0 in
    let took = c.in_ok-read_piece-in-NeedMore.ensures.piece in
    let stays = c.in-NeedMore.ensures.1 in
    let pushes = took.2.0 in (
      (have.0 ++ took.0, Consumes_trans _ _ _ have.0 took.0 have.1 took.1, holds_piece c.reply.feed c.next.new.self c.read_piece.new.feed have.0 took.0 _ have.2 stays pushes),
      pushes.to_head ∙ stays.to_head ∙ c.reply.invariant.1,
      pushes.within,
      c.read_piece.ensures.written ∙ c.reply.invariant.3,
      c.read_piece.ensures.write_faults ∙ c.reply.invariant.4,
      c.in_ok-read_piece-in-NeedMore.ensures.kept ∙ c.reply.invariant.5,
    )
