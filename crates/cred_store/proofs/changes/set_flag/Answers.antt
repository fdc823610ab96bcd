use Rattle.std.proofs.Common.{List, ℕ, add-one, ap, arith, get_or, length, set, sym, ◌∙◌}
use Rattle.cred_store.specs.Changes.{switched}
use Rattle.cred_store.specs.declared.entry.Entry.{Entry}
use Rattle.cred_store.proofs.Flags.{front, front_next}
use Rattle.cred_store.proofs.changes.set_flag.Goals as goal

pub loop-entry-preserved : goal.loop-entry-preserved
loop-entry-preserved c =
    let change = switched c.args.name.now c.args.realm.now c.args.on in
    let at = c.loop-entry.entry-index in
    let entry = c.entry-item.result in
    ap (set c.loop-entry.entry-items at) c.switch.ensures
    ∙ ap (λ (l : List Entry). set l at (change (get_or l at entry))) c.loop-entry.invariant
    ∙ front_next change c.args.entries.now.items at entry (omega (arith, ap length c.deref_mut-entry-items.ensures.value))
    ∙ ap (λ (n : ℕ). front change n c.args.entries.now.items) (sym (add-one at))
