use Rattle.std.proofs.Common.{◌≡◌, true, sym, ◌∙◌, ap}
use Rattle.nonce_shard.specs.declared.calls.Reply.TheVariants.{Prime}
use Rattle.nonce_shard.specs.declared.calls.NonceKind.TheVariants.{Digest}
use Rattle.nonce_shard.specs.Nonces.{is_live}
use Rattle.nonce_shard.proofs.NonceRings.{live_used}
use Rattle.nonce_shard.proofs.nonce_ring.NonceRing.peek.Goals as goal

pub returns-in-Some : goal.returns-in-Some
returns-in-Some c past holds =
    let a = c.args in
    let live : is_live a.setting.now.sizes a.setting.now.number past a.name.now Digest a.space a.now ≡ true = sym (c.in-Some.ensures.live past holds) in
    let used = live_used a.setting.now a.self.now past a.name.now Digest a.space a.now c.in-Some.place c.index.result.now holds c.requires.some c.index.ensures live c.in-Some.ensures.place in
    rw live (ap Prime (c.copy_optional_prime.ensures ∙ used.prime_is))
