use Rattle.std.proofs.Common.{arith, ap, count_by, ◌∙◌}
use Rattle.cred_store.specs.LookUps.{is_of}
use Rattle.cred_store.proofs.Flags.{flag_count, flag_length, flag_store}
use Rattle.cred_store.proofs.store.Store.set_enabled.Goals as goal

pub invariant_of-self : goal.invariant_of-self
invariant_of-self c =
    let xs = c.self.inside.entries.items in
    rw c.set_flag.ensures (
      flag_store c.args.name.now c.args.realm.now c.args.on xs c.self.invariant.0,
      omega (arith, flag_length c.args.name.now c.args.realm.now c.args.on xs, c.self.invariant.1),
    )

pub returns-clause-count : goal.returns-clause-count
returns-clause-count c =
    c.count_of.ensures ∙ ap (count_by (is_of c.args.name.now c.args.realm.now)) (c.as_slice.ensures.value ∙ c.set_flag.ensures)
    ∙ flag_count c.args.name.now c.args.realm.now c.args.on c.self.inside.entries.items ∙ ap (count_by (is_of c.args.name.now c.args.realm.now)) c.self.view_is
