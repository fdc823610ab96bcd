use Rattle.std.proofs.Common.{sym, ◌∙◌, ap, subst, ◌++◌, ◌∷◌, [], List}
use Rattle.cred_store.specs.declared.kind.SecretKind.{SecretKind}
use Rattle.cred_store.specs.Keys.{IsRising, key_at, key_cmp, key_of}
use Rattle.cred_store.specs.Texts.{entry_at}
use Rattle.cred_store.specs.declared.entry.Entry.{Entry}
use Rattle.cred_store.proofs.Order.{rising_one, rising_push}
use Rattle.cred_store.proofs.Searches.{no_last, last_is}
use Rattle.cred_store.proofs.text.check_order.Goals as goal

pub returns-in_default-clause-rising : goal.returns-in_default-clause-rising
returns-in_default-clause-rising c up =
    let next = entry_at c.args.line.now.name.now c.args.line.now.realm.now c.args.line.now.secret c.args.line.now.on in
    subst IsRising (ap (λ (l : List Entry). l ++ next ∷ []) (sym (no_last c.args.entries.now (sym c.in_default.ensures.value)))) (rising_one next)

pub returns-in-Less-clause-rising : goal.returns-in-Less-clause-rising
returns-in-Less-clause-rising c up =
    let next = entry_at c.args.line.now.name.now c.args.line.now.realm.now c.args.line.now.secret c.args.line.now.on in
    let split = last_is c.args.entries.now c.in-Some.last.now (sym c.in-Some.ensures.value) in
    subst IsRising (ap (λ (l : List Entry). l ++ next ∷ []) (sym split.1))
    (rising_push split.0 c.in-Some.last.now next (subst IsRising split.1 up)
    (ap (λ (a : SecretKind). key_cmp (key_of c.in-Some.last.now) (key_at c.args.line.now.name.now c.args.line.now.realm.now a)) (sym c.kind.ensures) ∙ sym c.in-Less.ensures))
