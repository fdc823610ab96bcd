use Rattle.std.proofs.Common.{◌≡◌, Some, vec_len, sym, ◌∙◌, ap}
use Rattle.nonce_shard.specs.Ring.{place_of}
use Rattle.nonce_shard.proofs.NonceRings.{live_where}
use Rattle.nonce_shard.proofs.nonce_ring.NonceRing.live_place.Goals as goal

pub returns-then-serves-clause-live : goal.returns-then-serves-clause-live
returns-then-serves-clause-live c past holds =
    let a = c.args in
    let w = a.wanted.now in
    let place : Some c.in_ok-place.place ≡ place_of a.name.now.serial a.self.now.issued (vec_len a.self.now.slots) = c.in_ok-place.ensures ∙ ap (place_of a.name.now.serial a.self.now.issued) c.len.ensures in
    sym (live_where a.setting.now a.self.now past a.name.now w.kind w.space w.time c.in_ok-place.place c.index.result.now holds c.requires.some c.index.ensures place ∙ sym c.serves.ensures.served ∙ c.if-serves.true)

pub returns-else-serves-clause-live : goal.returns-else-serves-clause-live
returns-else-serves-clause-live c past holds =
    let a = c.args in
    let w = a.wanted.now in
    let place : Some c.in_ok-place.place ≡ place_of a.name.now.serial a.self.now.issued (vec_len a.self.now.slots) = c.in_ok-place.ensures ∙ ap (place_of a.name.now.serial a.self.now.issued) c.len.ensures in
    sym (live_where a.setting.now a.self.now past a.name.now w.kind w.space w.time c.in_ok-place.place c.index.result.now holds c.requires.some c.index.ensures place ∙ sym c.serves.ensures.served ∙ c.if-serves.false)
