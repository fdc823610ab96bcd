use Rattle.std.proofs.Common.{arith, not}
use Rattle.std.proofs.lemmas.List.Sums.{count_by-le-length, length-filter}
use Rattle.cred_store.specs.LookUps.{is_of}
use Rattle.cred_store.specs.declared.entry.Entry.{Entry}
use Rattle.cred_store.proofs.Puts.{without_store}
use Rattle.cred_store.proofs.store.Store.remove.Goals as goal

pub invariant_of-self : goal.invariant_of-self
invariant_of-self c =
    let others = λ (e : Entry). not (is_of c.args.name.now c.args.realm.now e) in
    rw c.take_out.ensures.left (
      without_store c.args.name.now c.args.realm.now c.self.inside.entries.items c.self.invariant.0,
      omega (arith, c.self.invariant.1, length-filter others c.self.inside.entries.items, count_by-le-length others c.self.inside.entries.items),
    )
