use Rattle.std.proofs.Common.{arith, sym, ap, ◌∙◌, ◌≡◌, ◌&&◌, true, subst, length}
use Rattle.auth_grammar.specs.Plain.{is_plain_name}
use Rattle.cred_store.specs.Kinds.{IsSecret}
use Rattle.cred_store.specs.Texts.{IsEntry}
use Rattle.cred_store.specs.declared.version.Version.TheVariants.{Two}
use Rattle.cred_store.proofs.Bytes.{both_first, both_second}
use Rattle.cred_store.proofs.Puts.{length_put, put_store}
use Rattle.cred_store.proofs.store.Store.set.Goals as goal

pub invariant_of-self-2 : goal.invariant_of-self-2
invariant_of-self-2 c =
    let plain : is_plain_name c.args.name.now && is_plain_name c.args.realm.now ≡ true = sym c.are_plain.ensures ∙ c.if-not-are_plain.false in
    let is_entry = subst (IsEntry Two) (sym c.in_ok-entry.ensures) (record {
      name = both_first _ _ plain;
      realm = both_second (is_plain_name c.args.name.now) _ plain;
      secret = subst IsSecret (sym c.copy.ensures) c.requires.form;
      flag = tt;
    }) in
    rw c.in_ok-put.ensures.ok (
      put_store c.in_ok-entry.entry c.self.inside.entries.items is_entry c.self.invariant.0,
      omega (arith, length_put c.in_ok-entry.entry c.self.inside.entries.items, ap length c.self.view_is, c.requires.room),
    )
