use Rattle.std.proofs.Common.{sym}
use Rattle.cred_store.proofs.KeyTexts.{key_parts_are, keys_parts}
use Rattle.cred_store.proofs.keys_text.read_keys.Goals as goal

pub returns-in_default-clause-none : goal.returns-in_default-clause-none
returns-in_default-clause-none c keys is same = c.in_default.ensures.none _ _ _ _ (keys_parts c.args.text.now keys is (sym same))

pub returns-in_default-read_count-clause-none : goal.returns-in_default-read_count-clause-none
returns-in_default-read_count-clause-none c keys is same =
    let are = key_parts_are c.args.text.now _ _ _ _ _ _ _ _ (keys_parts c.args.text.now keys is (sym same)) c.in-Some.ensures.some in
    c.in_default-read_count.ensures.none keys.i is.some_count is.count_fits are.0

pub returns-in_default-read_salt-clause-none : goal.returns-in_default-read_salt-clause-none
returns-in_default-read_salt-clause-none c keys is same =
    let are = key_parts_are c.args.text.now _ _ _ _ _ _ _ _ (keys_parts c.args.text.now keys is (sym same)) c.in-Some.ensures.some in
    c.in_default-read_salt.ensures.none keys.salt.items is.salt_bytes is.some_salt is.short_salt are.1

pub returns-in_default-read_key-clause-none : goal.returns-in_default-read_key-clause-none
returns-in_default-read_key-clause-none c keys is same =
    let are = key_parts_are c.args.text.now _ _ _ _ _ _ _ _ (keys_parts c.args.text.now keys is (sym same)) c.in-Some.ensures.some in
    c.in_default-read_key.ensures.none keys.stored is.stored are.2

pub returns-in_default-read_key-2-clause-none : goal.returns-in_default-read_key-2-clause-none
returns-in_default-read_key-2-clause-none c keys is same =
    let are = key_parts_are c.args.text.now _ _ _ _ _ _ _ _ (keys_parts c.args.text.now keys is (sym same)) c.in-Some.ensures.some in
    c.in_default-read_key-2.ensures.none keys.server is.server are.3
