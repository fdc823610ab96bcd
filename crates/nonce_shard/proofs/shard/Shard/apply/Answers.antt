use Rattle.std.proofs.Common.{◌≡◌, ◌+◌, [], ◌∷◌, ◌++◌, cond, max, refl, sym, ◌∙◌, ap, subst, arith}
use Rattle.nonce_shard.specs.declared.shard.Shard.{Shard}
use Rattle.nonce_shard.specs.History.{time_at}
use Rattle.nonce_shard.specs.Nonces.{is_fresh}
use Rattle.nonce_shard.specs.Replies.{reply_to}
use Rattle.nonce_shard.specs.Totals.{is_repeated}
use Rattle.nonce_shard.specs.Shard.{past_of, StandsFor}
use Rattle.nonce_shard.proofs.Shards.{time_at-max, few, stands_next}
use Rattle.nonce_shard.proofs.shard.Shard.apply.Goals as goal

pub answer-reply-requires-clause-issued : goal.answer-reply-requires-clause-issued
answer-reply-requires-clause-issued c =
    let h = c.requires.stands in
    omega (arith, h.2, (few c.args.self.now h.0 h.1).issued_few)

pub answer-reply-requires-clause-opened : goal.answer-reply-requires-clause-opened
answer-reply-requires-clause-opened c =
    let h = c.requires.stands in
    omega (arith, h.2, (few c.args.self.now h.0 h.1).opened_few)

pub count-requires-clause-calls : goal.count-requires-clause-calls
count-requires-clause-calls c =
    let h = c.requires.stands in
    omega (arith, h.2, (few c.args.self.now h.0 h.1).calls_few, ap (λ (s : Shard). s.calls) c.answer-reply.ensures.rest)

pub count-requires-clause-admitted : goal.count-requires-clause-admitted
count-requires-clause-admitted c =
    let h = c.requires.stands in
    omega (arith, h.2, (few c.args.self.now h.0 h.1).admitted_few, ap (λ (s : Shard). s.admitted) c.answer-reply.ensures.rest)

pub count-requires-clause-repeated : goal.count-requires-clause-repeated
count-requires-clause-repeated c =
    let h = c.requires.stands in
    omega (arith, h.2, (few c.args.self.now h.0 h.1).repeated_few, ap (λ (s : Shard). s.repeated) c.answer-reply.ensures.rest)

pub returns-clause-reply : goal.returns-clause-reply
returns-clause-reply c calls stands =
    let s = c.args.self.now in
    let past = past_of s.setting calls in
    let now : c.max-now.result ≡ time_at past c.args.call.now.moment = c.max-now.ensures ∙ ap (λ l. max l c.args.call.now.moment) stands.latest_is ∙ sym (time_at-max past c.args.call.now.moment) in
    c.answer-reply.ensures.reply past stands.rings ∙ ap (λ t. reply_to s.setting.sizes s.setting.number past t c.args.call.now.what) now

pub returns-clause-stands : goal.returns-clause-stands
returns-clause-stands c calls stands =
    let s = c.args.self.now in
    let past = past_of s.setting calls in
    let r = c.answer-reply.ensures in
    let reply = c.answer-reply.result in
    let now : c.max-now.result ≡ time_at past c.args.call.now.moment = c.max-now.ensures ∙ ap (λ l. max l c.args.call.now.moment) stands.latest_is ∙ sym (time_at-max past c.args.call.now.moment) in
    let next = stands_next s c.answer-reply.new.self.nonces c.answer-reply.new.self.exchanges calls c.args.call.now c.max-now.result reply stands now (r.reply past stands.rings)
    (r.nonces past _ stands.rings.nonces refl refl refl) (r.exchanges past _ stands.rings.exchanges refl refl refl) in
    let new = c.count.ensures ∙ ap (λ (t : Shard). record t { latest = c.max-now.result; calls = t.calls + 1; admitted = t.admitted + cond (is_fresh reply) 1 0; repeated = t.repeated + cond (is_repeated reply) 1 0 }) r.rest in
    subst (λ (t : Shard). StandsFor t (calls ++ c.args.call.now ∷ [])) (sym new) next
