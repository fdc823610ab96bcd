use Rattle.std.proofs.Common.{sym, ◌∙◌}
use Rattle.cred_store.proofs.Puts.{put_free, put_there}
use Rattle.cred_store.proofs.changes.put.Goals as goal

pub returns-in-Ok-clause-ok : goal.returns-in-Ok-clause-ok
returns-in-Ok-clause-ok c =
    sym (put_there c.args.entry c.args.entries.now.items c.in-Ok.at (rw c.as_slice.ensures.value at c.in-Ok.ensures.found_bound) c.requires
    (rw (c.as_slice.ensures.value, c.bytes.ensures, c.bytes-2.ensures, c.kind.ensures) at c.in-Ok.ensures.found))

pub returns-in_ok-insert-in-Err-clause-ok : goal.returns-in_ok-insert-in-Err-clause-ok
returns-in_ok-insert-in-Err-clause-ok c =
    c.in_ok-insert-in-Err.ensures.items
    ∙ sym (put_free c.args.entry c.args.entries.now.items c.in-Err.at (rw c.as_slice.ensures.value at c.in-Err.ensures.free_bound)
    (rw (c.as_slice.ensures.value, c.bytes.ensures, c.bytes-2.ensures, c.kind.ensures) at c.in-Err.ensures.free))
