use Rattle.std.proofs.Common.{◌∷◌, [], ◌++◌, length, take, arith, rules}
use Rattle.std.proofs.lemmas.Result.{err_from_is_err_and}
use Rattle.http_wire.specs.Answers.{continue_text}
use Rattle.connection_loop.specs.Account.{link_of}
use Rattle.connection_loop.proofs.Arrivals.{reading_none, reading_wrote, reading_read, kept_none, found_message, message_within, found_bad, found_waiting, due_front, kept_continue, continue_front, kept_piece, waiting_still, continue_error, read_error, piece_within}
use Rattle.connection_loop.proofs.reading.next_message.Goals as goal

pub message-init : goal.message-init
message-init g c =
    let at = link_of g.L.Link.left g.L.Link.given g.L.Link.written g.L.Link.reads in (
      ([], [], [], reading_none (at c.args.link.now) c.args.feed.now.rest, kept_none c.args.feed.now c.requires.between),
      record { read = search rules; write = search rules; within = c.requires.within },
    )

pub returns-in-Message-clause-reads : goal.returns-in-Message-clause-reads
returns-in-Message-clause-reads g c =
    let have = c.message.invariant.0 in
    (have.0, have.1, have.2, have.3.link, have.3.each, found_message c.args.feed.now c.message.feed c.next.new.self have.0 have.1 c.in-Message.request have.4 c.in-Message.ensures)

pub returns-in-Message-clause-within : goal.returns-in-Message-clause-within
returns-in-Message-clause-within g c = message_within c.message.feed c.next.new.self c.in-Message.request _ c.in-Message.ensures c.message.invariant.1.within

pub returns-in-Bad-clause-reads : goal.returns-in-Bad-clause-reads
returns-in-Bad-clause-reads g c =
    let have = c.message.invariant.0 in
    (have.0, have.1, have.2, have.3.link, have.3.each, found_bad c.args.feed.now c.message.feed c.next.new.self have.0 have.1 _ _ have.4 c.in-Bad.ensures)

pub returns-in-OutOfMemory-clause-reads : goal.returns-in-OutOfMemory-clause-reads
returns-in-OutOfMemory-clause-reads g c =
    let have = c.message.invariant.0 in
    (have.0, have.1, have.2, have.3.link, have.3.each, due_front c.args.feed.now c.message.feed have.0 have.1 have.4)

pub message-preserved-in_ok-write_all-in-Continue : goal.message-preserved-in_ok-write_all-in-Continue
message-preserved-in_ok-write_all-in-Continue g c =
    let at = link_of g.L.Link.left g.L.Link.given g.L.Link.written g.L.Link.reads in
    let have = c.message.invariant.0 in
    let later = c.message.invariant.1 in
    let told = c.in-Continue.ensures in
    let wrote = rw c.continue_text.ensures at c.in_ok-write_all-in-Continue.ensures.ok in (
      (
        have.0,
        have.1 ++ continue_text,
        have.2,
        reading_wrote (at c.args.link.now) (at c.message.link) (at c.write_all.new.link) c.args.feed.now.rest have.0 have.1 continue_text have.2 have.3
            c.write_all.ensures.left c.write_all.ensures.given c.write_all.ensures.reads wrote,
        kept_continue c.args.feed.now c.message.feed c.next.new.self have.0 have.1 have.4 told,
      ),
      record {
        read = omega (arith, later.read, c.write_all.ensures.read_faults);
        write = omega (arith, later.write, c.write_all.ensures.later);
        within = rw told.2 (omega (arith, later.within, c.write_all.ensures.given));
      },
    )

pub returns-in_err-write_all-in-Continue-clause-reads : goal.returns-in_err-write_all-in-Continue-clause-reads
returns-in_err-write_all-in-Continue-clause-reads g c =
    let at = link_of g.L.Link.left g.L.Link.given g.L.Link.written g.L.Link.reads in
    let have = c.message.invariant.0 in
    let p = err_from_is_err_and c.from_residual.result c.from_residual.ensures.1 in
    let wrote = rw c.continue_text.ensures at c.in_err-write_all-in-Continue.ensures.err in
    let text = take wrote.0 continue_text in
    let now = reading_wrote (at c.args.link.now) (at c.message.link) (at c.write_all.new.link) c.args.feed.now.rest have.0 have.1 text have.2 have.3
    c.write_all.ensures.left c.write_all.ensures.given c.write_all.ensures.reads wrote.1 in
    rw (p.1, p.2) (
      have.0,
      have.1 ++ text,
      have.2,
      now.link,
      now.each,
      continue_error (c.args.feed.now.rest ++ have.0) c.args.feed.now.at (have.1 ++ text) c.next.new.self (g.L.Link.left c.write_all.new.link) c.in_err-write_all-in-Continue.field-0.0 c.in_err-write_all-in-Continue.ensures.kind
          (continue_front c.args.feed.now c.message.feed c.next.new.self have.0 have.1 wrote.0 have.4 c.in-Continue.ensures),
    )

pub returns-in_err-read_piece-in-NeedMore-clause-reads : goal.returns-in_err-read_piece-in-NeedMore-clause-reads
returns-in_err-read_piece-in-NeedMore-clause-reads g c =
    let at = link_of g.L.Link.left g.L.Link.given g.L.Link.written g.L.Link.reads in
    let have = c.message.invariant.0 in
    let from = c.from_residual-in_err-read_piece-in-NeedMore in
    let p = err_from_is_err_and from.result from.ensures.1 in
    let waiting = found_waiting c.args.feed.now c.message.feed c.next.new.self have.0 have.1 have.4 c.in-NeedMore.ensures in
    rw (p.1, p.2)
    (read_error (at c.args.link.now) (at c.message.link) (at c.read_piece.new.link) c.next.new.self c.read_piece.new.feed c.args.feed.now.rest have.0 have.1 have.2 c.args.feed.now.at c.in_err-read_piece-in-NeedMore.field-0.0
    have.3 waiting c.in_err-read_piece-in-NeedMore.ensures.piece)

pub returns-then-not-branch-clause-reads : goal.returns-then-not-branch-clause-reads
returns-then-not-branch-clause-reads g c =
    let at = link_of g.L.Link.left g.L.Link.given g.L.Link.written g.L.Link.reads in
    let have = c.message.invariant.0 in
    let took = c.in_ok-read_piece-in-NeedMore.ensures.piece in
    let waiting = found_waiting c.args.feed.now c.message.feed c.next.new.self have.0 have.1 have.4 c.in-NeedMore.ensures in
    let none = took.3 c.if-not-branch.true in
    let now = reading_read (at c.args.link.now) (at c.message.link) (at c.read_piece.new.link) c.args.feed.now.rest have.0 have.1 took.0 have.2 have.3 took.1.linked waiting in
    let kept = kept_piece c.args.feed.now c.message.feed c.next.new.self c.read_piece.new.feed have.0 have.1 took.0 have.4 c.in-NeedMore.ensures.3 took.1.feed in
    (have.0 ++ took.0, have.1, have.2 ++ (length have.0, length have.1) ∷ [], now.link, now.each, (waiting_still c.args.feed.now.rest have.0 have.1 took.0 waiting none.0, kept.all, kept.place, none.1))

pub message-preserved : goal.message-preserved
message-preserved g c =
    let at = link_of g.L.Link.left g.L.Link.given g.L.Link.written g.L.Link.reads in
    let have = c.message.invariant.0 in
    let later = c.message.invariant.1 in
    let took = c.in_ok-read_piece-in-NeedMore.ensures.piece in
    let waiting = found_waiting c.args.feed.now c.message.feed c.next.new.self have.0 have.1 have.4 c.in-NeedMore.ensures in
    let now = reading_read (at c.args.link.now) (at c.message.link) (at c.read_piece.new.link) c.args.feed.now.rest have.0 have.1 took.0 have.2 have.3 took.1.linked waiting in
    let kept = kept_piece c.args.feed.now c.message.feed c.next.new.self c.read_piece.new.feed have.0 have.1 took.0 have.4 c.in-NeedMore.ensures.3 took.1.feed in (
      (have.0 ++ took.0, have.1, have.2 ++ (length have.0, length have.1) ∷ [], now, kept),
      record {
        read = omega (arith, later.read, c.read_piece.ensures.read_later);
        write = omega (arith, later.write, c.read_piece.ensures.write_faults);
        within = piece_within c.message.feed c.next.new.self c.read_piece.new.feed took.0 _ _ later.within c.in-NeedMore.ensures.3 took.1.feed took.1.linked.counted;
      },
    )
