use Rattle.std.proofs.Common.{◌≡◌, refl, sym, ◌∙◌, ap, subst}
use Rattle.nonce_shard.specs.declared.calls.What.TheVariants.{Open}
use Rattle.nonce_shard.specs.Nonces.{nonce_in, fresh_count}
use Rattle.nonce_shard.specs.Exchanges.{opening_in}
use Rattle.nonce_shard.proofs.NonceRings.{quiet_nonces}
use Rattle.nonce_shard.proofs.ExchangeCalls.{Leaves}
use Rattle.nonce_shard.proofs.ExchangeRings.{quiet_exchanges}
use Rattle.nonce_shard.proofs.shard.Shard.answer.Goals as goal

pub returns-in-Issue-clause-nonces : goal.returns-in-Issue-clause-nonces
returns-in-Issue-clause-nonces c past a holds what time is = c.issue.ensures.holds c.args.self.now.setting past a holds (what ∙ c.in-Issue.is) time is

pub returns-in-Issue-clause-exchanges : goal.returns-in-Issue-clause-exchanges
returns-in-Issue-clause-exchanges c past a holds what time is =
    let asked : a.call.what ≡ _ = what ∙ c.in-Issue.is in
    quiet_exchanges c.args.self.now.setting c.args.self.now.exchanges past a (ap (λ w. opening_in w a.time) asked) (λ name. subst (λ w. Leaves name w a.reply a.time) (sym asked) (record { no_take = refl; no_keep = refl })) holds

pub returns-in-Peek-clause-nonces : goal.returns-in-Peek-clause-nonces
returns-in-Peek-clause-nonces c past a holds what time is =
    let asked : a.call.what ≡ _ = what ∙ c.in-Peek.is in
    quiet_nonces c.args.self.now.setting c.args.self.now.nonces past a (ap (λ w. nonce_in w a.time) asked) (λ name. ap (λ w. fresh_count name w a.reply) asked) holds

pub returns-in-Peek-clause-exchanges : goal.returns-in-Peek-clause-exchanges
returns-in-Peek-clause-exchanges c past a holds what time is =
    let asked : a.call.what ≡ _ = what ∙ c.in-Peek.is in
    quiet_exchanges c.args.self.now.setting c.args.self.now.exchanges past a (ap (λ w. opening_in w a.time) asked) (λ name. subst (λ w. Leaves name w a.reply a.time) (sym asked) (record { no_take = refl; no_keep = refl })) holds

pub returns-in-Use-clause-exchanges : goal.returns-in-Use-clause-exchanges
returns-in-Use-clause-exchanges c past a holds what time is =
    let asked : a.call.what ≡ _ = what ∙ c.in-Use.is in
    quiet_exchanges c.args.self.now.setting c.args.self.now.exchanges past a (ap (λ w. opening_in w a.time) asked) (λ name. subst (λ w. Leaves name w a.reply a.time) (sym asked) (record { no_take = refl; no_keep = refl })) holds

pub returns-in-Open-clause-nonces : goal.returns-in-Open-clause-nonces
returns-in-Open-clause-nonces c past a holds what time is =
    let asked : a.call.what ≡ _ = what ∙ c.in-Open.is in
    quiet_nonces c.args.self.now.setting c.args.self.now.nonces past a (ap (λ w. nonce_in w a.time) asked) (λ name. ap (λ w. fresh_count name w a.reply) asked) holds

pub returns-in-Open-clause-exchanges : goal.returns-in-Open-clause-exchanges
returns-in-Open-clause-exchanges c past a holds what time is =
    c.begin.ensures.holds c.args.self.now.setting past a holds (what ∙ c.in-Open.is ∙ ap (Open c.in-Open.space c.in-Open.random) (sym c.copy.ensures)) time is

pub returns-in-Take-clause-nonces : goal.returns-in-Take-clause-nonces
returns-in-Take-clause-nonces c past a holds what time is =
    let asked : a.call.what ≡ _ = what ∙ c.in-Take.is in
    quiet_nonces c.args.self.now.setting c.args.self.now.nonces past a (ap (λ w. nonce_in w a.time) asked) (λ name. ap (λ w. fresh_count name w a.reply) asked) holds

pub returns-in-Keep-clause-nonces : goal.returns-in-Keep-clause-nonces
returns-in-Keep-clause-nonces c past a holds what time is =
    let asked : a.call.what ≡ _ = what ∙ c.in-Keep.is in
    quiet_nonces c.args.self.now.setting c.args.self.now.nonces past a (ap (λ w. nonce_in w a.time) asked) (λ name. ap (λ w. fresh_count name w a.reply) asked) holds

pub returns-in-Recall-clause-nonces : goal.returns-in-Recall-clause-nonces
returns-in-Recall-clause-nonces c past a holds what time is =
    let asked : a.call.what ≡ _ = what ∙ c.in-Recall.is in
    quiet_nonces c.args.self.now.setting c.args.self.now.nonces past a (ap (λ w. nonce_in w a.time) asked) (λ name. ap (λ w. fresh_count name w a.reply) asked) holds

pub returns-in-Recall-clause-exchanges : goal.returns-in-Recall-clause-exchanges
returns-in-Recall-clause-exchanges c past a holds what time is =
    let asked : a.call.what ≡ _ = what ∙ c.in-Recall.is in
    quiet_exchanges c.args.self.now.setting c.args.self.now.exchanges past a (ap (λ w. opening_in w a.time) asked) (λ name. subst (λ w. Leaves name w a.reply a.time) (sym asked) (record { no_take = refl; no_keep = refl })) holds
