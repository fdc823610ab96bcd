use Rattle.std.proofs.Common.{◌≡◌, ◌%◌, ◌<◌, true, Some, vec_len, slice_get, sym, ◌∙◌, ap, arith}
use Rattle.std.proofs.lemmas.Option.{slice_get-get_or}
use Rattle.std.proofs.lemmas.Nat.{mod_below}
use Rattle.nonce_shard.specs.Nonces.{is_live, is_fresh, nonce_in, admitted, first_prime}
use Rattle.nonce_shard.specs.NonceRing.{IsUsed, counts_after, prime_after}
use Rattle.nonce_shard.proofs.NonceCalls.{dull_uses_none}
use Rattle.nonce_shard.proofs.NonceRings.{live_used, used, quiet_nonces}
use Rattle.nonce_shard.proofs.nonce_ring.NonceRing.use_nonce.Goals as goal

pub use_count-requires-clause-room : goal.use_count-requires-clause-room
use_count-requires-clause-room c =
    let slots = c.args.self.now.slots.items in
    let slot = c.index_mut.result.now in
    let low : c.args.name.now.serial % vec_len c.args.self.now.slots < vec_len c.args.self.now.slots = mod_below c.args.name.now.serial (vec_len c.args.self.now.slots) c.requires.some in
    let at : slice_get slots c.in-Some.place ≡ Some slot = slice_get-get_or slots c.in-Some.place slot (omega (arith, c.in-Some.ensures.place, c.args.self.now.slots.ok.0)) ∙ ap Some (sym c.index_mut.ensures.value) in
    c.in-Some.ensures.room slot at

pub returns-in-Some-clause-reply : goal.returns-in-Some-clause-reply
returns-in-Some-clause-reply c past holds =
    let a = c.args in
    let w = a.wanted.now in
    let live : is_live a.setting.now.sizes a.setting.now.number past a.name.now w.kind w.space w.time ≡ true = sym (c.in-Some.ensures.live past holds) in
    let used_before = live_used a.setting.now a.self.now past a.name.now w.kind w.space w.time c.in-Some.place c.index_mut.result.now holds c.requires.some c.index_mut.ensures.value live c.in-Some.ensures.place in
    rw live (c.use_count.ensures.reply (admitted past a.name.now) (first_prime past a.name.now) used_before)

pub returns-in-Some-clause-holds : goal.returns-in-Some-clause-holds
returns-in-Some-clause-holds c past b holds what time is =
    let a = c.args in
    let w = a.wanted.now in
    let slot = c.use_count.new.self in
    let counts = admitted past a.name.now in
    let prime = first_prime past a.name.now in
    let live : is_live a.setting.now.sizes a.setting.now.number past a.name.now w.kind w.space w.time ≡ true = sym (c.in-Some.ensures.live past holds) in
    let used_before = live_used a.setting.now a.self.now past a.name.now w.kind w.space w.time c.in-Some.place c.index_mut.result.now holds c.requires.some c.index_mut.ensures.value live c.in-Some.ensures.place in
    let used_now : IsUsed slot (counts_after counts a.count b.reply) (prime_after prime a.given.now b.reply) = rw is (c.use_count.ensures.used counts prime used_before) in
    used a.setting.now a.self.now past b a.name.now w.kind w.space w.time a.count a.given.now c.in-Some.place c.index_mut.result.now slot holds c.requires.some c.index_mut.ensures.value live c.in-Some.ensures.place what c.use_count.ensures.nonce used_now

pub returns-in-None-clause-holds : goal.returns-in-None-clause-holds
returns-in-None-clause-holds c past a holds what time is =
    quiet_nonces c.args.setting.now c.args.self.now past a (ap (λ w. nonce_in w a.time) what) (λ name. dull_uses_none c.args.name.now name c.args.wanted.now.kind c.args.wanted.now.space c.args.count c.args.given.now a.call.what a.reply what (ap is_fresh is)) holds
