use Rattle.std.proofs.Common.{rules}
use Rattle.std.proofs.lemmas.Fn.{always_returns_same}
use Rattle.cred_store.specs.Keys.{key_at, key_cmp, key_of}
use Rattle.cred_store.proofs.Searches.{searched}
use Rattle.cred_store.proofs.entries.place_of.Goals as goal

-- the closure compares an entry's key with the one that is looked for
pub returns-clause-found : goal.returns-clause-found
returns-clause-found c =
    let k = key_at c.args.name.now c.args.realm.now c.args.kind in
    (searched k c.args.entries.now c.requires _ c.binary_search_by.ensures.bound
    (c.binary_search_by.ensures.position (λ e. key_cmp (key_of e) k) (always_returns_same _ _ _ (λ a r g called. search rules)))).0

pub returns-clause-free : goal.returns-clause-free
returns-clause-free c =
    let k = key_at c.args.name.now c.args.realm.now c.args.kind in
    (searched k c.args.entries.now c.requires _ c.binary_search_by.ensures.bound
    (c.binary_search_by.ensures.position (λ e. key_cmp (key_of e) k) (always_returns_same _ _ _ (λ a r g called. search rules)))).1
