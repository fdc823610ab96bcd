use Rattle.std.proofs.Common.{Some, ap, sym, ◌∙◌}
use Rattle.cred_store.specs.Keys.{key_at}
use Rattle.cred_store.specs.LookUps.{is_keyed}
use Rattle.cred_store.proofs.Order.{keyed}
use Rattle.cred_store.proofs.Searches.{find_alike, find_free, find_there, has_key}
use Rattle.cred_store.proofs.entries.entry_of.Goals as goal

-- no other entry has the key
pub returns-in-Ok : goal.returns-in-Ok
returns-in-Ok c =
    let k = key_at c.args.name.now c.args.realm.now c.args.kind in
    let e = c.index-entries-at.result in
    ap Some c.index-entries-at.is
    ∙ sym (find_alike (is_keyed c.args.name.now c.args.realm.now c.args.kind) (has_key k) (keyed c.args.name.now c.args.realm.now c.args.kind) c.args.entries.now
    ∙ find_there k c.args.entries.now c.in-Ok.at e c.requires c.in-Ok.ensures.found_bound (c.in-Ok.ensures.found e))

pub returns-in-Err : goal.returns-in-Err
returns-in-Err c =
    let k = key_at c.args.name.now c.args.realm.now c.args.kind in
    sym (find_alike (is_keyed c.args.name.now c.args.realm.now c.args.kind) (has_key k) (keyed c.args.name.now c.args.realm.now c.args.kind) c.args.entries.now
    ∙ find_free k c.args.entries.now _ c.in-Err.ensures.free)
