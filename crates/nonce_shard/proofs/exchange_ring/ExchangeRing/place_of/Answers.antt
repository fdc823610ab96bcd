use Rattle.std.proofs.Common.{◌≡◌, Some, vec_len, sym, ◌∙◌, ap}
use Rattle.nonce_shard.specs.Ring.{place_of}
use Rattle.nonce_shard.proofs.ExchangeRings.{there_where}
use Rattle.nonce_shard.proofs.exchange_ring.ExchangeRing.place_of.Goals as goal

pub returns-then-is_named-clause-there : goal.returns-then-is_named-clause-there
returns-then-is_named-clause-there c past holds =
    let a = c.args in
    let place : Some c.in_ok-place.place ≡ place_of a.name.now.serial a.self.now.opened (vec_len a.self.now.slots) = c.in_ok-place.ensures ∙ ap (place_of a.name.now.serial a.self.now.opened) c.len.ensures in
    sym (there_where a.setting.now a.self.now past a.name.now a.space c.in_ok-place.place c.index.result.now holds c.requires.some c.index.ensures place ∙ sym c.is_named.ensures ∙ c.if-is_named.true)

pub returns-else-is_named-clause-there : goal.returns-else-is_named-clause-there
returns-else-is_named-clause-there c past holds =
    let a = c.args in
    let place : Some c.in_ok-place.place ≡ place_of a.name.now.serial a.self.now.opened (vec_len a.self.now.slots) = c.in_ok-place.ensures ∙ ap (place_of a.name.now.serial a.self.now.opened) c.len.ensures in
    sym (there_where a.setting.now a.self.now past a.name.now a.space c.in_ok-place.place c.index.result.now holds c.requires.some c.index.ensures place ∙ sym c.is_named.ensures ∙ c.if-is_named.false)
