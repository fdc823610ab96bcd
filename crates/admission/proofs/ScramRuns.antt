-- How the steps of an exchange go on to a verdict.
use Rattle.std.proofs.Common.{◌≡◌, ℕ, ◌+◌, false, List, [], ◌∷◌, length, Option, Some, None, IfSome, refl, sym, ap, ◌∙◌, subst}
use Rattle.std.specs.Option.{option_map_or}
use Rattle.count_window.specs.Window.{high}
use Rattle.count_window.specs.declared.window.TheConstants.{WIDTH}
use Rattle.std.proofs.Common.{nat_le, ◌==◌}
use Rattle.std.specs.List.{list_any}
use Rattle.nonce_shard.specs.Exchanges.{keep_reply, opening, progress}
use Rattle.nonce_shard.specs.History.{time_at}
use Rattle.nonce_shard.specs.Nonces.{is_live}
use Rattle.nonce_shard.specs.Replies.{answered, reply}
use Rattle.nonce_shard.specs.declared.calls.Call.{Call}
use Rattle.nonce_shard.specs.declared.calls.Exchange.{Exchange}
use Rattle.nonce_shard.specs.declared.calls.NonceKind.TheVariants.{Scram}
use Rattle.nonce_shard.specs.declared.calls.Reply.{Reply}
use Rattle.nonce_shard.specs.declared.calls.Reply.TheVariants as replies
use Rattle.nonce_shard.specs.declared.exchanges.Opening.{Opening}
use Rattle.nonce_shard.specs.declared.exchanges.Progress.{Progress}
use Rattle.nonce_shard.specs.declared.exchanges.Progress.TheVariants.{Untried, Tried, Finished}
use Rattle.nonce_shard.specs.declared.names.TableName.{TableName}
use Rattle.nonce_shard.specs.declared.sizes.Sizes.{Sizes}
use Rattle.spaces_map.specs.declared.space.Space.{Space}
use Rattle.auth_decide.specs.Asks.{keep_of, open_of, recall_of, reuse_of, scram_admission, take_of}
use Rattle.auth_decide.specs.Challenges.{continue_item}
use Rattle.auth_decide.specs.Exchanges.{recalled_user, taken_user}
use Rattle.auth_decide.specs.Stages.{Question, Replied, keeping_stage, proved_stage, reusing_stage, shard_for, sid_name, stage_after, stage_after_keep, stage_after_open, stage_after_recall, stage_after_reuse, stage_after_take, stale_scram}
use Rattle.auth_decide.specs.declared.challenges.Stale.TheVariants as stales
use Rattle.auth_decide.specs.declared.scram_exchange.Attempt.{Attempt}
use Rattle.auth_decide.specs.declared.scram_exchange.NewExchange.{NewExchange}
use Rattle.auth_decide.specs.declared.scram_exchange.ScramUser.{ScramUser}
use Rattle.auth_decide.specs.declared.scram_message.Again.{Again}
use Rattle.auth_decide.specs.declared.stages.Purpose.TheVariants as purpose
use Rattle.auth_decide.specs.declared.stages.Stage.{Stage}
use Rattle.auth_decide.specs.declared.stages.Stage.TheVariants as stage
use Rattle.auth_decide.specs.declared.verdict.Ask.TheVariants as asks
use Rattle.auth_decide.specs.declared.verdict.Verdict.{Verdict}
use Rattle.auth_decide.specs.declared.verdict.Verdict.TheVariants.{Continue}
use Rattle.admission.specs.Exchanges.{IsSrLive}
use Rattle.admission.specs.Outcomes.{Admits, IsUnusedBehind, counts_behind}
use Rattle.admission.specs.Steps.{Step, Drew, Called, calls_before_first, is_use}
use Rattle.admission.proofs.Proofs.{IsUser}
use Rattle.admission.proofs.Runs.{Run, ask_in, at_call, challenged, drawing, ended, mismatched}
use Rattle.admission.proofs.UseTests.{behind_is, fresh_tests, repeated_is, tests_fresh}

-- nobody is admitted
abbrev pub AdmitsNobody : Verdict → Type 0
AdmitsNobody verdict = (user : List ℕ) → Admits user verdict → ⊥

pub stale_challenged : (sizes : Sizes) (q : Question) (space : Space) (steps : List Step) (verdict : Verdict) → Run sizes q space stale_scram steps verdict → AdmitsNobody verdict
stale_challenged sizes q space steps verdict run user a =
    let i = drawing sizes q space (purpose.Challenge stales.Scram) steps verdict run in
    subst (λ (v : Verdict). Admits user v) i.is a

-- a call behind these calls, and what comes of its reply
pub record Calling (sizes : Sizes) (q : Question) (space : Space) (s : Stage) (shard : ℕ) (call : Call) (steps : List Step) (verdict : Verdict) : Type 0 where
  pub before : List Call
  pub rest : List Step
  pub is : steps ≡ Called shard before call ∷ rest
  pub run : Run sizes q space (stage_after q s (Replied (reply sizes shard before call))) rest verdict

pub calling : (sizes : Sizes) (q : Question) (space : Space) (s : Stage) (shard : ℕ) (call : Call) (steps : List Step) (verdict : Verdict) → ask_in q space s ≡ asks.Table shard call
    → Run sizes q space s steps verdict → Calling sizes q space s shard call steps verdict
calling sizes q space s shard call [] verdict is run = absurd (let no : asks.Table shard call ≡ asks.Verdict verdict = sym is ∙ run in cc)
calling sizes q space s shard call (step ∷ rest) verdict is run =
    let P : List Step → Type 0 = λ l. Run sizes q space s l verdict → Calling sizes q space s shard call l verdict in
    at_call P shard call step rest (sym is ∙ run.0) (λ before next. record { before = before; rest = rest; is = refl; run = next.1 }) run

-- ---- a new exchange admits nobody

after_open : (sizes : Sizes) (q : Question) (space : Space) (e : NewExchange) (words : List ℕ) (r : Reply) (rest : List Step) (verdict : Verdict)
    → Run sizes q space (stage_after_open q.shards e words r) rest verdict → AdmitsNobody verdict
after_open sizes q space e words (replies.Opened serial) rest verdict run user a =
    let s = stage_after_open q.shards e words (replies.Opened serial) in
    subst (λ (v : Verdict). Admits user v) (ended sizes q space s (Continue (continue_item e (sid_name q.shards words serial))) refl rest verdict run).1 a
after_open sizes q space e words _ rest verdict run user a = (mismatched sizes q space rest verdict run).1 user a

pub begins_none : (sizes : Sizes) (q : Question) (space : Space) (e : NewExchange) (steps : List Step) (verdict : Verdict) → Run sizes q space (stage.Beginning e) steps verdict → AdmitsNobody verdict
begins_none sizes q space e [] verdict run user a = absurd (let no : asks.Draw ≡ asks.Verdict verdict = run in cc)
begins_none sizes q space e (Called shard before call ∷ rest) verdict run user a = absurd (let no : asks.Draw ≡ asks.Table shard call = run.0 in cc)
begins_none sizes q space e (Drew words ∷ rest) verdict run user a =
    let c = calling sizes q space (stage.Opening e words) (shard_for q.shards words) (open_of q.moment space e words) rest verdict refl run.1 in
    after_open sizes q space e words (reply sizes (shard_for q.shards words) c.before (open_of q.moment space e words)) c.rest verdict c.run user a

-- ---- a try

-- the one try was taken and the exchange kept, and this user is admitted
pub record AreKept (q : Question) (space : Space) (u : ScramUser) (steps : List Step) (verdict : Verdict) : Type 0 where
  pub kept : List Call
  pub is : steps ≡ Called u.sid.shard kept (keep_of q.moment space u.sid) ∷ []
  pub verdict_is : verdict ≡ scram_admission u

keep_admits : (sizes : Sizes) (shard : ℕ) (before : List Call) (moment : ℕ) (space : Space) (u : ScramUser) → stage_after_keep u (reply sizes shard before (keep_of moment space u.sid)) ≡ stage.Authenticated u
keep_admits sizes shard before moment space u = by (opening sizes shard (answered sizes shard before) u.sid space.number) (progress (answered sizes shard before) u.sid)
  where
    by : (o : Option Opening) (p : Progress) → stage_after_keep u (option_map_or (λ x. keep_reply p) o replies.Gone) ≡ stage.Authenticated u
    by None p = refl
    by (Some x) Untried = refl
    by (Some x) Tried = refl
    by (Some x) (Finished time) = refl

keeping : (sizes : Sizes) (q : Question) (space : Space) (u : ScramUser) (steps : List Step) (verdict : Verdict) → Run sizes q space (stage.Keeping u) steps verdict → AreKept q space u steps verdict
keeping sizes q space u steps verdict run =
    let c = calling sizes q space (stage.Keeping u) u.sid.shard (keep_of q.moment space u.sid) steps verdict refl run in
    let last = subst (λ (s : Stage). Run sizes q space s c.rest verdict) (keep_admits sizes u.sid.shard c.before q.moment space u) c.run in
    let e = ended sizes q space (stage.Authenticated u) (scram_admission u) refl c.rest verdict last in
    record { kept = c.before; is = c.is ∙ ap (λ (l : List Step). Called u.sid.shard c.before (keep_of q.moment space u.sid) ∷ l) e.0; verdict_is = e.1 }

-- A user is admitted where the reply gave an exchange in which it has proved itself, and then the exchange was kept.
pub record IsTryOf (q : Question) (space : Space) (a : Attempt) (r : Reply) (rest : List Step) (verdict : Verdict) : Type 0 where
  pub admits : (user : List ℕ) (e : Exchange) → r ≡ replies.Taken e → IsUser (taken_user q.site.store a e) user → Admits user verdict
  pub kept : (user : List ℕ) → Admits user verdict → (e : Exchange) × (r ≡ replies.Taken e) × (u : ScramUser) × (taken_user q.site.store a e ≡ Some u) × (u.name ≡ user) × AreKept q space u rest verdict

rejects : (q : Question) (space : Space) (a : Attempt) (r : Reply) (rest : List Step) (verdict : Verdict) → ((e : Exchange) → r ≡ replies.Taken e → ⊥) → AdmitsNobody verdict → IsTryOf q space a r rest verdict
rejects q space a r rest verdict other nobody = record { admits = λ user e is found. absurd (other e is); kept = λ user admitted. absurd (nobody user admitted) }

taken : (sizes : Sizes) (q : Question) (space : Space) (a : Attempt) (e : Exchange) (rest : List Step) (verdict : Verdict)
    → Run sizes q space (keeping_stage (taken_user q.site.store a e)) rest verdict → IsTryOf q space a (replies.Taken e) rest verdict
taken sizes q space a e rest verdict run = by (taken_user q.site.store a e) refl run
  where
    one : (f : Exchange) → replies.Taken e ≡ replies.Taken f → e ≡ f
    one f is = cc

    by : (o : Option ScramUser) → taken_user q.site.store a e ≡ o → Run sizes q space (keeping_stage o) rest verdict → IsTryOf q space a (replies.Taken e) rest verdict
    by None is run = record {
      admits = λ user f same found.
          let at : taken_user q.site.store a f ≡ None = ap (taken_user q.site.store a) (sym (one f same)) ∙ is in
          absurd (let no : ◌≡◌ {A = Option ScramUser} None (Some found.0) = sym at ∙ found.1 in cc);
      kept = λ user admitted. absurd ((challenged sizes q space false rest verdict run).1 user admitted);
    }
    by (Some u) is run =
        let k = keeping sizes q space u rest verdict run in record {
          admits = λ user f same found.
              let at : Some u ≡ Some found.0 = sym is ∙ ap (taken_user q.site.store a) (one f same) ∙ found.1 in
              let u_is : u ≡ found.0 = cc in
              subst (λ (v : Verdict). Admits user v) (sym k.verdict_is) (ap (λ (x : ScramUser). x.name) u_is ∙ found.2);
          kept = λ user admitted. (e, refl, u, is, subst (λ (v : Verdict). Admits user v) k.verdict_is admitted, k);
        }

after_take : (sizes : Sizes) (q : Question) (space : Space) (a : Attempt) (r : Reply) (rest : List Step) (verdict : Verdict)
    → Run sizes q space (stage_after_take q.site.store a r) rest verdict → IsTryOf q space a r rest verdict
after_take sizes q space a (replies.Taken e) rest verdict run = taken sizes q space a e rest verdict run
after_take sizes q space a replies.Gone rest verdict run = rejects q space a replies.Gone rest verdict (λ e is. cc) (challenged sizes q space false rest verdict run).1
after_take sizes q space a _ rest verdict run = rejects q space a _ rest verdict (λ e is. cc) (mismatched sizes q space rest verdict run).1

-- the one try is taken behind these calls, and what comes of it
pub record TakesTry (sizes : Sizes) (q : Question) (space : Space) (a : Attempt) (steps : List Step) (verdict : Verdict) : Type 0 where
  pub before : List Call
  pub rest : List Step
  pub is : steps ≡ Called a.sid.shard before (take_of q.moment space a.sid) ∷ rest
  pub leads : IsTryOf q space a (reply sizes a.sid.shard before (take_of q.moment space a.sid)) rest verdict

pub taking : (sizes : Sizes) (q : Question) (space : Space) (a : Attempt) (steps : List Step) (verdict : Verdict) → Run sizes q space (stage.Taking a) steps verdict → TakesTry sizes q space a steps verdict
taking sizes q space a steps verdict run =
    let c = calling sizes q space (stage.Taking a) a.sid.shard (take_of q.moment space a.sid) steps verdict refl run in
    record { before = c.before; rest = c.rest; is = c.is; leads = after_take sizes q space a (reply sizes a.sid.shard c.before (take_of q.moment space a.sid)) c.rest verdict c.run }

-- ---- a use of an `sr`

abbrev pub reuse_reply : Sizes → Question → Space → TableName → ℕ → List Call → Reply
reuse_reply sizes q space sr count before = reply sizes sr.shard before (reuse_of q.moment space sr count)

-- the count of the `sr` is used behind these calls: its user is admitted where it was new
pub record AreReused (sizes : Sizes) (q : Question) (space : Space) (u : ScramUser) (sr : TableName) (count : ℕ) (steps : List Step) (verdict : Verdict) : Type 0 where
  pub before : List Call
  pub rest : List Step
  pub is : steps ≡ Called sr.shard before (reuse_of q.moment space sr count) ∷ rest
  pub admits : (number : ℕ) → reuse_reply sizes q space sr count before ≡ replies.Fresh number → Admits u.name verdict
  pub fresh : (user : List ℕ) → Admits user verdict → (number : ℕ) × (reuse_reply sizes q space sr count before ≡ replies.Fresh number) × (u.name ≡ user) × (rest ≡ [])

record IsReuseOf (u : ScramUser) (r : Reply) (rest : List Step) (verdict : Verdict) : Type 0 where
  admits : (number : ℕ) → r ≡ replies.Fresh number → Admits u.name verdict
  fresh : (user : List ℕ) → Admits user verdict → (number : ℕ) × (r ≡ replies.Fresh number) × (u.name ≡ user) × (rest ≡ [])

reuse_rejects : (u : ScramUser) (r : Reply) (rest : List Step) (verdict : Verdict) → ((number : ℕ) → r ≡ replies.Fresh number → ⊥) → AdmitsNobody verdict → IsReuseOf u r rest verdict
reuse_rejects u r rest verdict other nobody = record { admits = λ number is. absurd (other number is); fresh = λ user admitted. absurd (nobody user admitted) }

after_reuse : (sizes : Sizes) (q : Question) (space : Space) (u : ScramUser) (r : Reply) (rest : List Step) (verdict : Verdict) → Run sizes q space (stage_after_reuse u r) rest verdict → IsReuseOf u r rest verdict
after_reuse sizes q space u (replies.Fresh uses) rest verdict run =
    let e = ended sizes q space (stage.Authenticated u) (scram_admission u) refl rest verdict run in record {
      admits = λ number is. subst (λ (v : Verdict). Admits u.name v) (sym e.1) refl;
      fresh = λ user admitted. (uses, refl, subst (λ (v : Verdict). Admits user v) e.1 admitted, e.0);
    }
after_reuse sizes q space u replies.Gone rest verdict run = reuse_rejects u replies.Gone rest verdict (λ n e. cc) (stale_challenged sizes q space rest verdict run)
after_reuse sizes q space u (replies.Behind top) rest verdict run = reuse_rejects u (replies.Behind top) rest verdict (λ n e. cc) (stale_challenged sizes q space rest verdict run)
after_reuse sizes q space u replies.Repeated rest verdict run = reuse_rejects u replies.Repeated rest verdict (λ n e. cc) (stale_challenged sizes q space rest verdict run)
after_reuse sizes q space u replies.OtherSession rest verdict run = reuse_rejects u replies.OtherSession rest verdict (λ n e. cc) (challenged sizes q space false rest verdict run).1
after_reuse sizes q space u _ rest verdict run = reuse_rejects u _ rest verdict (λ n e. cc) (mismatched sizes q space rest verdict run).1

pub reusing : (sizes : Sizes) (q : Question) (space : Space) (u : ScramUser) (sr : TableName) (count : ℕ) (steps : List Step) (verdict : Verdict)
    → Run sizes q space (stage.Reusing u sr count) steps verdict → AreReused sizes q space u sr count steps verdict
reusing sizes q space u sr count steps verdict run =
    let c = calling sizes q space (stage.Reusing u sr count) sr.shard (reuse_of q.moment space sr count) steps verdict refl run in
    let leads = after_reuse sizes q space u (reuse_reply sizes q space sr count c.before) c.rest verdict c.run in
    record { before = c.before; rest = c.rest; is = c.is; admits = leads.admits; fresh = leads.fresh }

-- ---- a use is answered Fresh where the `sr` is live and the count unused

pub fresh_good : (sizes : Sizes) (q : Question) (space : Space) (sr : TableName) (count : ℕ) (before : List Call) (number : ℕ) → reuse_reply sizes q space sr count before ≡ replies.Fresh number
    → IsSrLive sizes q space sr before × IsUnusedBehind sizes sr count before
fresh_good sizes q space sr count before number fresh =
    let past = answered sizes sr.shard before in
    let counts : List ℕ = counts_behind sizes sr before in
    let t = fresh_tests (is_live sizes sr.shard past sr Scram space.number (time_at past q.moment)) (nat_le (count + WIDTH) (high counts)) (list_any (λ x. x == count) counts) false (high counts) (length counts + 1) number fresh in
    (t.0, record { in_window = (behind_is count (high counts)).0 t.1; new = (repeated_is count counts).0 t.2 })

pub good_fresh : (sizes : Sizes) (q : Question) (space : Space) (sr : TableName) (count : ℕ) (before : List Call) → IsSrLive sizes q space sr before → IsUnusedBehind sizes sr count before
    → reuse_reply sizes q space sr count before ≡ replies.Fresh (length (counts_behind sizes sr before) + 1)
good_fresh sizes q space sr count before live unused =
    let past = answered sizes sr.shard before in
    let counts : List ℕ = counts_behind sizes sr before in
    tests_fresh (is_live sizes sr.shard past sr Scram space.number (time_at past q.moment)) (nat_le (count + WIDTH) (high counts)) (list_any (λ x. x == count) counts) false (high counts) (length counts + 1)
    live ((behind_is count (high counts)).1 unused.in_window) ((repeated_is count counts).1 unused.new) refl

-- ---- a recall

-- the table may have the `sr`, and where its count is used it is live and the count unused
pub record IsGoodSr (sizes : Sizes) (q : Question) (space : Space) (again : Again) (steps : List Step) : Type 0 where
  pub sr : TableName
  pub is : again.sr ≡ Some sr
  pub live : IfSome (calls_before_first is_use steps) (λ before. IsSrLive sizes q space sr before)
  pub unused : IfSome (calls_before_first is_use steps) (λ before. IsUnusedBehind sizes sr again.count before)

-- A user is admitted where the reply gave a finished exchange in which it has proved itself, by a good `sr`.
pub record IsRecallOf (sizes : Sizes) (q : Question) (space : Space) (a : Attempt) (again : Again) (r : Reply) (rest : List Step) (verdict : Verdict) : Type 0 where
  pub admits : (user : List ℕ) (e : Exchange) → r ≡ replies.Session e → IsUser (recalled_user q.site.store a e) user → IsGoodSr sizes q space again rest → Admits user verdict
  pub proved : (user : List ℕ) → Admits user verdict → (e : Exchange) × (r ≡ replies.Session e) × IsUser (recalled_user q.site.store a e) user × IsGoodSr sizes q space again rest
  pub reused : (user : List ℕ) → Admits user verdict → (u : ScramUser) × (sr : TableName) × (again.sr ≡ Some sr) × AreReused sizes q space u sr again.count rest verdict

recall_rejects : (sizes : Sizes) (q : Question) (space : Space) (a : Attempt) (again : Again) (r : Reply) (rest : List Step) (verdict : Verdict)
    → ((user : List ℕ) (e : Exchange) → r ≡ replies.Session e → IsUser (recalled_user q.site.store a e) user → IsGoodSr sizes q space again rest → ⊥) → AdmitsNobody verdict → IsRecallOf sizes q space a again r rest verdict
recall_rejects sizes q space a again r rest verdict never nobody = record {
  admits = λ user e is found good. absurd (never user e is found good);
  proved = λ user admitted. absurd (nobody user admitted);
  reused = λ user admitted. absurd (nobody user admitted);
}

-- what is said of the calls before the first use
put_before : (P : List Call → Type 0) (shard : ℕ) (before : List Call) (moment : ℕ) (space : Space) (sr : TableName) (count : ℕ) (steps rest : List Step) → steps ≡ Called shard before (reuse_of moment space sr count) ∷ rest → P before
    → IfSome (calls_before_first is_use steps) P
put_before P shard before moment space sr count steps rest is holds = subst (λ (l : List Step). IfSome (calls_before_first is_use l) P) (sym is) holds

from_before : (P : List Call → Type 0) (shard : ℕ) (before : List Call) (moment : ℕ) (space : Space) (sr : TableName) (count : ℕ) (steps rest : List Step) → steps ≡ Called shard before (reuse_of moment space sr count) ∷ rest
    → IfSome (calls_before_first is_use steps) P → P before
from_before P shard before moment space sr count steps rest is holds = subst (λ (l : List Step). IfSome (calls_before_first is_use l) P) is holds

session_of : (e f : Exchange) → replies.Session e ≡ replies.Session f → e ≡ f
session_of e f is = cc

recalled : (sizes : Sizes) (q : Question) (space : Space) (a : Attempt) (again : Again) (e : Exchange) (rest : List Step) (verdict : Verdict)
    → Run sizes q space (proved_stage again (recalled_user q.site.store a e)) rest verdict → IsRecallOf sizes q space a again (replies.Session e) rest verdict
recalled sizes q space a again e rest verdict run = by (recalled_user q.site.store a e) refl run
  where
    with_sr : (u : ScramUser) → recalled_user q.site.store a e ≡ Some u → (o : Option TableName) → again.sr ≡ o → Run sizes q space (reusing_stage u again.count o) rest verdict
        → IsRecallOf sizes q space a again (replies.Session e) rest verdict
    with_sr u is None none run = recall_rejects sizes q space a again (replies.Session e) rest verdict
        (λ user f same found good. (let no : ◌≡◌ {A = Option TableName} None (Some good.sr) = sym none ∙ good.is in cc)) (stale_challenged sizes q space rest verdict run)
    with_sr u is (Some sr) has run =
        let used = reusing sizes q space u sr again.count rest verdict run in record {
          admits = λ user f same found good.
              let at : Some u ≡ Some found.0 = sym is ∙ ap (recalled_user q.site.store a) (session_of e f same) ∙ found.1 in
              let u_is : u ≡ found.0 = cc in
              let srs : Some sr ≡ Some good.sr = sym has ∙ good.is in
              let sr_is : good.sr ≡ sr = cc in
              let live = subst (λ (n : TableName). IsSrLive sizes q space n used.before) sr_is
              (from_before (λ before. IsSrLive sizes q space good.sr before) sr.shard used.before q.moment space sr again.count rest used.rest used.is good.live) in
              let unused = subst (λ (n : TableName). IsUnusedBehind sizes n again.count used.before) sr_is
              (from_before (λ before. IsUnusedBehind sizes good.sr again.count before) sr.shard used.before q.moment space sr again.count rest used.rest used.is good.unused) in
              subst (λ (n : List ℕ). Admits n verdict) (ap (λ (x : ScramUser). x.name) u_is ∙ found.2)
              (used.admits (length (counts_behind sizes sr used.before) + 1) (good_fresh sizes q space sr again.count used.before live unused));
          proved = λ user admitted.
              let f = used.fresh user admitted in
              let good = fresh_good sizes q space sr again.count used.before f.0 f.1 in (
                e,
                refl,
                (u, is, f.2),
                record {
                  sr = sr;
                  is = has;
                  live = put_before (λ before. IsSrLive sizes q space sr before) sr.shard used.before q.moment space sr again.count rest used.rest used.is good.0;
                  unused = put_before (λ before. IsUnusedBehind sizes sr again.count before) sr.shard used.before q.moment space sr again.count rest used.rest used.is good.1;
                },
              );
          reused = λ user admitted. (u, sr, has, used);
        }

    by : (o : Option ScramUser) → recalled_user q.site.store a e ≡ o → Run sizes q space (proved_stage again o) rest verdict → IsRecallOf sizes q space a again (replies.Session e) rest verdict
    by None is run = recall_rejects sizes q space a again (replies.Session e) rest verdict
        (λ user f same found good.
        let at : recalled_user q.site.store a f ≡ None = ap (recalled_user q.site.store a) (sym (session_of e f same)) ∙ is in
        let no : ◌≡◌ {A = Option ScramUser} None (Some found.0) = sym at ∙ found.1 in
        cc)
        (challenged sizes q space false rest verdict run).1
    by (Some u) is run = with_sr u is again.sr refl run

after_recall : (sizes : Sizes) (q : Question) (space : Space) (a : Attempt) (again : Again) (r : Reply) (rest : List Step) (verdict : Verdict)
    → Run sizes q space (stage_after_recall q.site.store a again r) rest verdict → IsRecallOf sizes q space a again r rest verdict
after_recall sizes q space a again (replies.Session e) rest verdict run = recalled sizes q space a again e rest verdict run
after_recall sizes q space a again replies.Gone rest verdict run = recall_rejects sizes q space a again replies.Gone rest verdict (λ user e is found good. cc) (challenged sizes q space false rest verdict run).1
after_recall sizes q space a again _ rest verdict run = recall_rejects sizes q space a again _ rest verdict (λ user e is found good. cc) (mismatched sizes q space rest verdict run).1

-- the finished exchange is looked up behind these calls, and what comes of it
pub record LooksUp (sizes : Sizes) (q : Question) (space : Space) (a : Attempt) (again : Again) (steps : List Step) (verdict : Verdict) : Type 0 where
  pub before : List Call
  pub rest : List Step
  pub is : steps ≡ Called a.sid.shard before (recall_of q.moment space a.sid) ∷ rest
  pub leads : IsRecallOf sizes q space a again (reply sizes a.sid.shard before (recall_of q.moment space a.sid)) rest verdict

pub recalling : (sizes : Sizes) (q : Question) (space : Space) (a : Attempt) (again : Again) (steps : List Step) (verdict : Verdict)
    → Run sizes q space (stage.Recalling a again) steps verdict → LooksUp sizes q space a again steps verdict
recalling sizes q space a again steps verdict run =
    let c = calling sizes q space (stage.Recalling a again) a.sid.shard (recall_of q.moment space a.sid) steps verdict refl run in
    record { before = c.before; rest = c.rest; is = c.is; leads = after_recall sizes q space a again (reply sizes a.sid.shard c.before (recall_of q.moment space a.sid)) c.rest verdict c.run }
