use Rattle.std.proofs.Common.{◌≡◌, true, is_some, sym, ◌∙◌, ap}
use Rattle.nonce_shard.specs.Exchanges.{opening, recall_reply}
use Rattle.nonce_shard.proofs.ExchangeRings.{in_slot}
use Rattle.nonce_shard.proofs.exchange_ring.ExchangeRing.recall.Goals as goal

pub returns-in-Some : goal.returns-in-Some
returns-in-Some c past holds =
    let a = c.args in
    let slot = c.index-slot.result.now in
    let there : is_some (opening a.setting.now.sizes a.setting.now.number past a.sid.now a.space) ≡ true = sym (c.in-Some.ensures.there past holds) in
    let h = in_slot a.setting.now a.self.now past a.sid.now a.space c.in-Some.place slot holds c.requires.some c.index-slot.ensures there c.in-Some.ensures.inside in
    rw h.opening_is (c.reply_to_recall.ensures ∙ ap (recall_reply a.setting.now.sizes a.now slot.opening) h.progress_is)
