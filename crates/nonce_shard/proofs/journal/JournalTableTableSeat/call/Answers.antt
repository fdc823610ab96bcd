use Rattle.std.proofs.Common.{Result, Ok, Err, IfOk, OnOk, IfErr, OnErr}
use Rattle.std.proofs.lemmas.Result.{IfOk-weaker, IfErr-weaker}
use Rattle.nonce_shard.proofs.Once.{comes_once}
use Rattle.nonce_shard.proofs.JournalSeat.{journal_grows, journal_worn}
use Rattle.nonce_shard.proofs.journal.JournalTableTableSeat.call.Goals as goal

both_ok : {A E : Type 0} (r : Result A E) (P R : A → Type 0) (Q : Type 0) → ((v : A) → P v → Q → R v) → IfOk r P → OnOk r Q → IfOk r R
both_ok (Ok v) P R Q f p q = f v p q
both_ok (Err e) P R Q f p q = p

err_and : {A E : Type 0} (r : Result A E) (P : E → Type 0) (Q : Type 0) → IfErr r P → OnErr r Q → IfErr r (λ e. P e × Q)
err_and (Ok v) P Q p q = p
err_and (Err e) P Q p q = (p, q)

pub returns-clause-ok : goal.returns-clause-ok
returns-clause-ok c = both_ok c.keep.result _ _ _ (λ v p q. rw p (journal_grows c.args.self.now c.keep.new.self c.args.shard c.args.call.now c.requires.in_range q)) c.keep.ensures.reply c.keep.ensures.kept

pub returns-clause-worn : goal.returns-clause-worn
returns-clause-worn c =
    let r = c.keep.ensures in
    IfErr-weaker c.keep.result _ _ (λ w h. journal_worn c.args.self.now c.keep.new.self c.args.shard w.calls h.0.0 h.0.1 h.1) (err_and _ _ _ (err_and _ _ _ r.worn r.at_limit) r.unchanged)

pub returns-clause-once : goal.returns-clause-once
returns-clause-once c = IfOk-weaker c.keep.result _ _ (λ r h. rw h (comes_once c.args.self.now.sizes 0 c.args.self.now.calls c.args.call.now)) c.keep.ensures.reply
