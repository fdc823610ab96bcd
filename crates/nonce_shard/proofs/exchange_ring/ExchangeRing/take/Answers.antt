use Rattle.std.proofs.Common.{◌≡◌, ◌++◌, ◌∷◌, [], true, is_some, sym, ◌∙◌, ap, subst}
use Rattle.nonce_shard.specs.Exchanges.{opening_in, opening, progress, take_reply}
use Rattle.nonce_shard.specs.ExchangeRing.{progress_after}
use Rattle.nonce_shard.proofs.ExchangeCalls.{Leaves, other_take, gone_leaves, progress_taken}
use Rattle.nonce_shard.proofs.ExchangeRings.{in_slot, quiet_exchanges, moved}
use Rattle.nonce_shard.proofs.exchange_ring.ExchangeRing.take.Goals as goal

pub returns-in-Some-clause-reply : goal.returns-in-Some-clause-reply
returns-in-Some-clause-reply c past holds =
    let a = c.args in
    let slot = c.index_mut.result.now in
    let there : is_some (opening a.setting.now.sizes a.setting.now.number past a.sid.now a.space) ≡ true = sym (c.in-Some.ensures.there past holds) in
    let h = in_slot a.setting.now a.self.now past a.sid.now a.space c.in-Some.place slot holds c.requires.some c.index_mut.ensures.value there c.in-Some.ensures.inside in
    rw h.opening_is (c.take.ensures.reply ∙ ap (λ p. take_reply a.setting.now.sizes a.now slot.opening p) h.progress_is)

pub returns-in-Some-clause-holds : goal.returns-in-Some-clause-holds
returns-in-Some-clause-holds c past b holds what time is =
    let a = c.args in
    let slot = c.index_mut.result.now in
    let there : is_some (opening a.setting.now.sizes a.setting.now.number past a.sid.now a.space) ≡ true = sym (c.in-Some.ensures.there past holds) in
    let h = in_slot a.setting.now a.self.now past a.sid.now a.space c.in-Some.place slot holds c.requires.some c.index_mut.ensures.value there c.in-Some.ensures.inside in
    let reply : b.reply ≡ take_reply a.setting.now.sizes a.now slot.opening (progress past a.sid.now) = is ∙ c.take.ensures.reply ∙ ap (λ p. take_reply a.setting.now.sizes a.now slot.opening p) h.progress_is in
    let progress_is : c.take.new.self.progress ≡ progress (past ++ b ∷ []) a.sid.now =
    c.take.ensures.progress ∙ ap (λ p. progress_after p a.now c.take.result) h.progress_is ∙ ap (λ t. progress_after (progress past a.sid.now) t c.take.result) (sym time) ∙ ap (progress_after (progress past a.sid.now) b.time) (sym is)
    ∙ sym (progress_taken past b a.sid.now a.space a.setting.now.sizes a.now slot.opening what reply) in
    moved a.setting.now a.self.now past b a.sid.now a.space c.in-Some.place slot c.take.new.self holds c.requires.some c.index_mut.ensures.value there c.in-Some.ensures.inside (ap (λ w. opening_in w b.time) what)
    (λ other apart. subst (λ w. Leaves other w b.reply b.time) (sym what) (other_take a.sid.now other a.space b.reply b.time apart)) c.take.ensures.opening progress_is

pub returns-in-None-clause-holds : goal.returns-in-None-clause-holds
returns-in-None-clause-holds c past b holds what time is =
    quiet_exchanges c.args.setting.now c.args.self.now past b (ap (λ w. opening_in w b.time) what) (λ name. subst (λ r. Leaves name b.call.what r b.time) (sym is) (gone_leaves name b.call.what b.time)) holds
