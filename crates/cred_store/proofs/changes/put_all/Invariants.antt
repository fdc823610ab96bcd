use Rattle.std.proofs.Common.{◌≡◌, vec_len}
use Rattle.cred_store.specs.Changes.{put_all}
use Rattle.cred_store.specs.Keys.{IsRising}
use Rattle.cred_store.proofs.changes.put_all.Given as goal

abbrev pub invariant-loop-entry : goal.invariant-loop-entry
invariant-loop-entry l = record {
  rising : IsRising l.entries.items;
  same : put_all l.more.items l.entries.items ≡ put_all l.fn.more.items l.fn.entries.items;
}

abbrev pub decreases-loop-entry : goal.decreases-loop-entry
decreases-loop-entry l = vec_len l.more
