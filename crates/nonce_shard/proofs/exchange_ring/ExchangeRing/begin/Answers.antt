use Rattle.std.proofs.Common.{◌∙◌, ap, refl}
use Rattle.nonce_shard.specs.declared.calls.What.TheVariants.{Open}
use Rattle.nonce_shard.specs.declared.exchanges.Progress.TheVariants.{Untried}
use Rattle.nonce_shard.specs.Exchanges.{opening_in}
use Rattle.nonce_shard.proofs.ExchangeRings.{opened}
use Rattle.nonce_shard.proofs.exchange_ring.ExchangeRing.begin.Goals as goal

pub returns-clause-holds : goal.returns-clause-holds
returns-clause-holds c setting past a holds what time is =
    rw c.len.ensures (opened setting c.args.self.now past a c.args.opening (record { opening = c.args.opening; progress = Untried }) holds c.requires.some (ap (λ w. opening_in w a.time) what ∙ ap (opening_in (Open c.args.opening.space c.args.opening.random c.args.opening.exchange)) time) refl refl)
