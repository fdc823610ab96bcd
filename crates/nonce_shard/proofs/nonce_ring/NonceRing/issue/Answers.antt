use Rattle.std.proofs.Common.{◌∙◌, ap}
use Rattle.nonce_shard.specs.declared.calls.What.TheVariants.{Issue}
use Rattle.nonce_shard.specs.Nonces.{nonce_in}
use Rattle.nonce_shard.proofs.NonceRings.{issued}
use Rattle.nonce_shard.proofs.nonce_ring.NonceRing.issue.Goals as goal

pub returns-clause-holds : goal.returns-clause-holds
returns-clause-holds c setting past a holds what time is =
    let self = c.args.self.now in
    rw c.len.ensures (issued setting self past a c.args.nonce c.new.result holds c.requires.some (ap (λ w. nonce_in w a.time) what ∙ ap (nonce_in (Issue c.args.nonce.kind c.args.nonce.space c.args.nonce.random)) time) c.new.ensures.nonce c.new.ensures.unused)
