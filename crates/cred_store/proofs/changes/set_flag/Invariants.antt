use Rattle.std.proofs.Common.{◌≡◌, ◌++◌, drop, map, take}
use Rattle.cred_store.specs.Changes.{switched}
use Rattle.cred_store.proofs.changes.set_flag.Given as goal

abbrev pub invariant-loop-entry : goal.invariant-loop-entry
invariant-loop-entry l =
    l.entry-items ≡ map (switched l.name l.realm l.on) (take l.entry-index l.fn.entries.items) ++ drop l.entry-index l.fn.entries.items
