use Rattle.std.proofs.Common.{sym, ap, ◌∙◌, List}
use Rattle.cred_store.specs.Changes.{put_all}
use Rattle.cred_store.specs.declared.entry.Entry.{Entry}
use Rattle.cred_store.proofs.Puts.{put_all_more, rising_put}
use Rattle.cred_store.proofs.changes.put_all.Goals as goal

pub loop-entry-preserved : goal.loop-entry-preserved
loop-entry-preserved c = rw c.in_ok-put.ensures.ok (record {
  rising = rising_put c.in-Some.entry c.loop-entry.entries.items c.loop-entry.invariant.rising;
  same =
      sym (put_all_more c.pop.new.self.items c.in-Some.entry c.loop-entry.entries.items)
      ∙ ap (λ (l : List Entry). put_all l c.loop-entry.entries.items) (sym c.in-Some.ensures.items)
      ∙ c.loop-entry.invariant.same;
})
