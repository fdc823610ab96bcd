use Rattle.http_wire.proofs.RequestFeedLemmas.{slice_short, settled_sound, settled_faulty, settled_short, settled_long}
use Rattle.http_wire.proofs.request_feed.look.Goals as goal

pub returns-in-Sound : goal.returns-in-Sound
returns-in-Sound c = settled_sound c.args.bytes.now c.window-first.result.now c.window-first.ensures c.in-Found.start c.in-Found.end c.in-Sound.head c.in_ok-head-in-Found.field-0
    c.in-Found.ensures c.in_ok-head-in-Found.ensures c.in-Sound.is

pub returns-in-Faulty : goal.returns-in-Faulty
returns-in-Faulty c = settled_faulty c.args.bytes.now c.window-first.result.now c.window-first.ensures c.in-Found.start c.in-Found.end c.in-Faulty.status c.in_ok-head-in-Found.field-0
    c.in-Found.ensures c.in_ok-head-in-Found.ensures c.in-Faulty.is

pub returns-then-bytes-lt-HEAD_LIMIT : goal.returns-then-bytes-lt-HEAD_LIMIT
returns-then-bytes-lt-HEAD_LIMIT c = settled_short c.args.bytes.now c.window-first.result.now c.window-first.ensures c.in-Unfound.place c.in-Unfound.ensures c.if-bytes-lt-HEAD_LIMIT.true

pub returns-else-bytes-lt-HEAD_LIMIT : goal.returns-else-bytes-lt-HEAD_LIMIT
returns-else-bytes-lt-HEAD_LIMIT c = settled_long c.args.bytes.now c.window-first.result.now c.window-first.ensures c.in-Unfound.place c.in-Unfound.ensures c.if-bytes-lt-HEAD_LIMIT.false

pub judge_text-requires-clause-short : goal.judge_text-requires-clause-short
judge_text-requires-clause-short c = slice_short c.args.bytes.now c.window-first.result.now c.window-first.ensures c.in-Found.start c.in-Found.end
