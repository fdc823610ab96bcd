-- How many calls of the table a decision may still make.
use Rattle.std.proofs.Common.{ℕ, zero, suc, ◌≤◌, min, fold, Bool, true, false, nat_lt, List, [], ◌∷◌, ◌++◌, Option, Some, None, arith}
use Rattle.std.specs.Prelude.{if◌then◌else◌}
use Rattle.cred_store.specs.declared.entry.Entry.{Entry}
use Rattle.digest_fields.specs.Credentials.{Credentials}
use Rattle.http_wire.specs.declared.request.Request.{Request}
use Rattle.nonce_shard.specs.declared.calls.Reply.{Reply}
use Rattle.nonce_shard.specs.declared.calls.Reply.TheVariants as reply
use Rattle.nonce_shard.specs.declared.names.TableName.{TableName}
use Rattle.spaces_map.specs.declared.space.Mode.{Mode}
use Rattle.spaces_map.specs.declared.space.Mode.TheVariants as mode
use Rattle.spaces_map.specs.declared.space.Space.{Space}
use Rattle.auth_decide.specs.Asks.{ask_in, asked}
use Rattle.auth_decide.specs.Candidates.{candidate_of}
use Rattle.auth_decide.specs.Credentials.{presented}
use Rattle.auth_decide.specs.Paths.{correspond}
use Rattle.auth_decide.specs.Responses.{is_right}
use Rattle.std.specs.List.{ends_with}
use Rattle.std.specs.Prelude.{nat_eq}
use Rattle.cred_store.specs.LookUps.{scram_of}
use Rattle.nonce_shard.specs.Names.{name_text}
use Rattle.scram_proof.specs.declared.keys.ScramKeys.{ScramKeys}
use Rattle.auth_decide.specs.Challenges.{offers_scram}
use Rattle.auth_decide.specs.Exchanges.{recalled_user, taken_user}
use Rattle.auth_decide.specs.declared.credentials.RequestCredentials.{RequestCredentials}
use Rattle.auth_decide.specs.declared.scram_exchange.Attempt.{Attempt}
use Rattle.auth_decide.specs.declared.scram_exchange.NewExchange.{NewExchange}
use Rattle.auth_decide.specs.declared.scram_exchange.ScramUser.{ScramUser}
use Rattle.auth_decide.specs.declared.scram_message.Again.{Again}
use Rattle.auth_decide.specs.declared.scram_message.FinalMessage.{FinalMessage}
use Rattle.auth_decide.specs.declared.scram_message.FirstMessage.{FirstMessage}
use Rattle.auth_decide.specs.declared.scram_message.ScramMessage.{ScramMessage}
use Rattle.auth_decide.specs.declared.scram_message.ScramMessage.TheVariants as message
use Rattle.auth_decide.specs.Stages.{Answer, Question, Replied, Words, admitted_stage, again_stage, candidate_stage, challenge_stage, digest_stage, final_stage, first_stage, first_stage_in, keeping_stage, keyed_stage, message_stage, mode_stage, name_within, presented_stage, protection_space, proved_stage, response_stage, reusing_stage, right_stage, scram_stage, stage_after, stage_after_issue, stage_after_keep, stage_after_open, stage_after_peek, stage_after_recall, stage_after_reuse, stage_after_take, stage_after_use, taken_stage, takes_realm}
use Rattle.auth_decide.specs.VerifiedCredentials.{VerifiedCredentials, verified}
use Rattle.auth_decide.specs.declared.candidate.Candidate.{Candidate}
use Rattle.auth_decide.specs.declared.credentials.Presented.{Presented}
use Rattle.auth_decide.specs.declared.credentials.Presented.TheVariants as presents
use Rattle.auth_decide.specs.declared.stages.Purpose.{Purpose}
use Rattle.auth_decide.specs.declared.stages.Purpose.TheVariants.{Next}
use Rattle.auth_decide.specs.declared.stages.Stage.{Stage}
use Rattle.auth_decide.specs.declared.stages.Stage.TheVariants as stage
use Rattle.auth_decide.specs.declared.stages.TheConstants.{NEXT_NONCE_USES}
use Rattle.auth_decide.specs.declared.verdict.Ask.{Ask}
use Rattle.auth_decide.specs.declared.verdict.Ask.TheVariants.{Draw, Table, Verdict}
use Rattle.auth_decide.specs.declared.verdict.Why.TheVariants as why

-- How many calls may come after these answers, of so many at first. Behind the draw there is one, which brings the nonce.
abbrev pub calls_left : List Answer → ℕ → ℕ
calls_left [] n = n
calls_left (Words w ∷ []) n = min 1 n
calls_left (Words w ∷ a ∷ rest) n = 0
calls_left (Replied r ∷ rest) zero = 0
calls_left (Replied r ∷ rest) (suc n) = calls_left rest n

-- no answer brings more
pub left_falls : (answers : List Answer) (answer : Answer) (n : ℕ) → calls_left (answers ++ answer ∷ []) n ≤ calls_left answers n
left_falls [] (Words w) n = omega arith
left_falls [] (Replied r) zero = omega arith
left_falls [] (Replied r) (suc n) = omega arith
left_falls (Words w ∷ []) answer n = omega arith
left_falls (Words w ∷ a ∷ rest) answer n = omega arith
left_falls (Replied r ∷ rest) answer zero = omega arith
left_falls (Replied r ∷ rest) answer (suc n) = left_falls rest answer n

abbrev pub IsCall : Ask → Type 0
IsCall Draw = ⊥
IsCall (Table shard call) = Unit {0}
IsCall (Verdict verdict) = ⊥

-- where a call is asked for, any answer leaves fewer
abbrev pub Pays : ℕ → List Answer → Ask → Type 0
Pays n answers ask = IsCall ask → (answer : Answer) → suc (calls_left (answers ++ answer ∷ []) n) ≤ calls_left answers n

-- ---- by stages

-- how many may come from a stage on
abbrev calls_at : Stage → ℕ
calls_at (stage.Peeking c nonce) = 3
calls_at (stage.Using v nonce) = 2
calls_at (stage.Drawing purpose) = 1
calls_at (stage.Issuing purpose words) = 1
calls_at (stage.Recalling a again) = 3
calls_at (stage.Taking a) = 3
calls_at (stage.Keeping user) = 2
calls_at (stage.Reusing user sr count) = 2
calls_at (stage.Beginning e) = 1
calls_at (stage.Opening e words) = 1
calls_at _ = 0

-- a stage that no words lead to
abbrev IsBeforeWords : Stage → Type 0
IsBeforeWords (stage.Issuing purpose words) = ⊥
IsBeforeWords (stage.Opening e words) = ⊥
IsBeforeWords _ = Unit {0}

-- such a stage, from which at most so many calls may come
record CallsAtMost (n : ℕ) (s : Stage) : Type 0 where
  few : calls_at s ≤ n
  before : IsBeforeWords s

more : (m n : ℕ) (s : Stage) → m ≤ n → CallsAtMost m s → CallsAtMost n s
more m n s less a = (let few = a.few in record { few = omega (arith, few, less); before = a.before })

response_calls : (request : Request) (c : Candidate) (prime : List ℕ) (nonce : Option TableName) → CallsAtMost 2 (response_stage request c prime nonce)
response_calls request c prime nonce = by (is_right request c prime) nonce
  where
    by : (right : Bool) (o : Option TableName) → CallsAtMost 2 (if right then right_stage (verified c prime) o else challenge_stage false)
    by true None = record { few = omega arith; before = tt }
    by true (Some name) = record { few = omega arith; before = tt }
    by false o = record { few = omega arith; before = tt }

peek_calls : (request : Request) (c : Candidate) (nonce : TableName) (r : Reply) → CallsAtMost 2 (stage_after_peek request c nonce r)
peek_calls request c nonce (reply.Prime (Some prime)) = response_calls request c prime.items (Some nonce)
peek_calls request c nonce (reply.Prime None) = response_calls request c c.credentials.cnonce (Some nonce)
peek_calls request c nonce reply.Gone = response_calls request c c.credentials.cnonce None
peek_calls request c nonce _ = record { few = omega arith; before = tt }

admitted_calls : (v : VerifiedCredentials) (uses : ℕ) → CallsAtMost 1 (admitted_stage v uses)
admitted_calls v uses = by (nat_lt uses NEXT_NONCE_USES)
  where
    by : (few : Bool) → CallsAtMost 1 (if few then stage.Admitted v else stage.Drawing (Next v))
    by true = record { few = omega arith; before = tt }
    by false = record { few = omega arith; before = tt }

use_calls : (v : VerifiedCredentials) (r : Reply) → CallsAtMost 1 (stage_after_use v r)
use_calls v (reply.Fresh uses) = admitted_calls v uses
use_calls v reply.Gone = record { few = omega arith; before = tt }
use_calls v (reply.Behind high) = record { few = omega arith; before = tt }
use_calls v reply.Repeated = record { few = omega arith; before = tt }
use_calls v reply.OtherSession = record { few = omega arith; before = tt }
use_calls v _ = record { few = omega arith; before = tt }

issue_calls : (shards : ℕ) (purpose : Purpose) (words : List ℕ) (r : Reply) → calls_at (stage_after_issue shards purpose words r) ≤ 0
issue_calls shards purpose words (reply.Issued serial) = omega arith
issue_calls shards purpose words _ = omega arith

open_calls : (shards : ℕ) (e : NewExchange) (words : List ℕ) (r : Reply) → calls_at (stage_after_open shards e words r) ≤ 0
open_calls shards e words (reply.Opened serial) = omega arith
open_calls shards e words _ = omega arith

keeping_calls : (o : Option ScramUser) → CallsAtMost 2 (keeping_stage o)
keeping_calls None = record { few = omega arith; before = tt }
keeping_calls (Some user) = record { few = omega arith; before = tt }

take_calls : (store : List Entry) (a : Attempt) (r : Reply) → CallsAtMost 2 (stage_after_take store a r)
take_calls store a (reply.Taken e) = keeping_calls (taken_user store a e)
take_calls store a reply.Gone = record { few = omega arith; before = tt }
take_calls store a _ = record { few = omega arith; before = tt }

keep_calls : (user : ScramUser) (r : Reply) → CallsAtMost 0 (stage_after_keep user r)
keep_calls user reply.Kept = record { few = omega arith; before = tt }
keep_calls user reply.Gone = record { few = omega arith; before = tt }
keep_calls user _ = record { few = omega arith; before = tt }

proved_calls : (again : Again) (o : Option ScramUser) → CallsAtMost 2 (proved_stage again o)
proved_calls again None = record { few = omega arith; before = tt }
proved_calls again (Some user) = by again.sr
  where
    by : (o : Option TableName) → CallsAtMost 2 (reusing_stage user again.count o)
    by None = record { few = omega arith; before = tt }
    by (Some sr) = record { few = omega arith; before = tt }

recall_calls : (store : List Entry) (a : Attempt) (again : Again) (r : Reply) → CallsAtMost 2 (stage_after_recall store a again r)
recall_calls store a again (reply.Session e) = proved_calls again (recalled_user store a e)
recall_calls store a again reply.Gone = record { few = omega arith; before = tt }
recall_calls store a again _ = record { few = omega arith; before = tt }

reuse_calls : (user : ScramUser) (r : Reply) → CallsAtMost 1 (stage_after_reuse user r)
reuse_calls user (reply.Fresh uses) = record { few = omega arith; before = tt }
reuse_calls user reply.Gone = record { few = omega arith; before = tt }
reuse_calls user (reply.Behind high) = record { few = omega arith; before = tt }
reuse_calls user reply.Repeated = record { few = omega arith; before = tt }
reuse_calls user reply.OtherSession = record { few = omega arith; before = tt }
reuse_calls user _ = record { few = omega arith; before = tt }

-- no call comes any more
abbrev IsOver : Stage → Type 0
IsOver s = calls_at s ≤ 0

over_stays : (q : Question) (s : Stage) (a : Answer) → IsOver s → IsOver (stage_after q s a)
over_stays q stage.Open (Words w) over = over
over_stays q stage.Open (Replied r) over = over
over_stays q (stage.Bad why) (Words w) over = over
over_stays q (stage.Bad why) (Replied r) over = over
over_stays q (stage.Issued purpose nonce) (Words w) over = over
over_stays q (stage.Issued purpose nonce) (Replied r) over = over
over_stays q (stage.Admitted v) (Words w) over = over
over_stays q (stage.Admitted v) (Replied r) over = over
over_stays q stage.Mismatched (Words w) over = over
over_stays q stage.Mismatched (Replied r) over = over
over_stays q (stage.Continued e sid) (Words w) over = over
over_stays q (stage.Continued e sid) (Replied r) over = over
over_stays q (stage.Authenticated user) (Words w) over = over
over_stays q (stage.Authenticated user) (Replied r) over = over
over_stays q (stage.Beginning e) a over = absurd (omega (arith, over))
over_stays q (stage.Opening e words) a over = absurd (omega (arith, over))
over_stays q (stage.Taking attempt) a over = absurd (omega (arith, over))
over_stays q (stage.Keeping user) a over = absurd (omega (arith, over))
over_stays q (stage.Recalling attempt again) a over = absurd (omega (arith, over))
over_stays q (stage.Reusing user sr count) a over = absurd (omega (arith, over))
over_stays q (stage.Drawing purpose) a over = absurd (omega (arith, over))
over_stays q (stage.Issuing purpose words) a over = absurd (omega (arith, over))
over_stays q (stage.Peeking c nonce) a over = absurd (omega (arith, over))
over_stays q (stage.Using v nonce) a over = absurd (omega (arith, over))

over_all : (q : Question) (answers : List Answer) (s : Stage) → IsOver s → IsOver (fold (stage_after q) s answers)
over_all q [] s over = over
over_all q (a ∷ answers) s over = over_all q answers (stage_after q s a) (over_stays q s a over)

no_call : (q : Question) (o : Option Space) (s : Stage) → IsOver s → IsCall (ask_in q o s) → ⊥
no_call q None s over call = call
no_call q (Some space) (stage.Drawing purpose) over call = call
no_call q (Some space) (stage.Issuing purpose words) over call = omega (arith, over)
no_call q (Some space) (stage.Peeking c nonce) over call = omega (arith, over)
no_call q (Some space) (stage.Using v nonce) over call = omega (arith, over)
no_call q (Some space) (stage.Issued purpose nonce) over call = call
no_call q (Some space) (stage.Beginning e) over call = call
no_call q (Some space) (stage.Opening e words) over call = omega (arith, over)
no_call q (Some space) (stage.Taking a) over call = omega (arith, over)
no_call q (Some space) (stage.Keeping user) over call = omega (arith, over)
no_call q (Some space) (stage.Recalling a again) over call = omega (arith, over)
no_call q (Some space) (stage.Reusing user sr count) over call = omega (arith, over)
no_call q (Some space) (stage.Continued e sid) over call = call
no_call q (Some space) (stage.Authenticated user) over call = call
no_call q (Some space) stage.Open over call = call
no_call q (Some space) (stage.Bad why) over call = call
no_call q (Some space) (stage.Admitted v) over call = call
no_call q (Some space) stage.Mismatched over call = call

-- a reply leads on to a stage with fewer calls
reply_calls : (q : Question) (s : Stage) (r : Reply) (n : ℕ) → CallsAtMost (suc n) s → CallsAtMost n (stage_after q s (Replied r))
reply_calls q (stage.Issuing purpose words) r n a = absurd a.before
reply_calls q (stage.Drawing purpose) r n a = record { few = omega arith; before = tt }
reply_calls q (stage.Peeking c nonce) r n a = (let few = a.few in more 2 n (stage_after_peek q.request c nonce r) (omega (arith, few)) (peek_calls q.request c nonce r))
reply_calls q (stage.Using v nonce) r n a = (let few = a.few in more 1 n (stage_after_use v r) (omega (arith, few)) (use_calls v r))
reply_calls q (stage.Opening e words) r n a = absurd a.before
reply_calls q (stage.Taking attempt) r n a = (let few = a.few in more 2 n (stage_after_take q.site.store attempt r) (omega (arith, few)) (take_calls q.site.store attempt r))
reply_calls q (stage.Keeping user) r n a = more 0 n (stage_after_keep user r) (omega arith) (keep_calls user r)
reply_calls q (stage.Recalling attempt again) r n a = (let few = a.few in more 2 n (stage_after_recall q.site.store attempt again r) (omega (arith, few)) (recall_calls q.site.store attempt again r))
reply_calls q (stage.Reusing user sr count) r n a = (let few = a.few in more 1 n (stage_after_reuse user r) (omega (arith, few)) (reuse_calls user r))
reply_calls q _ r n a = record { few = omega arith; before = tt }

-- behind words there is the call for the nonce, and no other
words_over : (q : Question) (s : Stage) (w : List ℕ) (a : Answer) → IsBeforeWords s → IsOver (stage_after q (stage_after q s (Words w)) a)
words_over q (stage.Issuing purpose drawn) w a before = absurd before
words_over q (stage.Drawing purpose) w (Words v) before = omega arith
words_over q (stage.Drawing purpose) w (Replied r) before = issue_calls q.shards purpose w r
words_over q (stage.Peeking c nonce) w a before = over_stays q stage.Mismatched a (omega arith)
words_over q (stage.Using v nonce) w a before = over_stays q stage.Mismatched a (omega arith)
words_over q (stage.Opening e drawn) w a before = absurd before
words_over q (stage.Beginning e) w (Words v) before = omega arith
words_over q (stage.Beginning e) w (Replied r) before = open_calls q.shards e w r
words_over q (stage.Taking attempt) w a before = over_stays q stage.Mismatched a (omega arith)
words_over q (stage.Keeping user) w a before = over_stays q stage.Mismatched a (omega arith)
words_over q (stage.Recalling attempt again) w a before = over_stays q stage.Mismatched a (omega arith)
words_over q (stage.Reusing user sr count) w a before = over_stays q stage.Mismatched a (omega arith)
words_over q (stage.Continued e sid) w a before = over_stays q (stage.Continued e sid) a (omega arith)
words_over q (stage.Authenticated user) w a before = over_stays q (stage.Authenticated user) a (omega arith)
words_over q stage.Open w a before = over_stays q stage.Open a (omega arith)
words_over q (stage.Bad why) w a before = over_stays q (stage.Bad why) a (omega arith)
words_over q (stage.Issued purpose nonce) w a before = over_stays q (stage.Issued purpose nonce) a (omega arith)
words_over q (stage.Admitted v) w a before = over_stays q (stage.Admitted v) a (omega arith)
words_over q stage.Mismatched w a before = over_stays q stage.Mismatched a (omega arith)

-- the first call is at a look-up or a use, or behind words
first_pays : (q : Question) (o : Option Space) (s : Stage) (n : ℕ) → CallsAtMost n s → IsCall (ask_in q o s) → 2 ≤ n
first_pays q None s n a call = absurd call
first_pays q (Some space) (stage.Issuing purpose words) n a call = absurd a.before
first_pays q (Some space) (stage.Peeking c nonce) n a call = (let few = a.few in omega (arith, few))
first_pays q (Some space) (stage.Using v nonce) n a call = (let few = a.few in omega (arith, few))
first_pays q (Some space) (stage.Drawing purpose) n a call = absurd call
first_pays q (Some space) (stage.Issued purpose nonce) n a call = absurd call
first_pays q (Some space) (stage.Opening e words) n a call = absurd a.before
first_pays q (Some space) (stage.Taking attempt) n a call = (let few = a.few in omega (arith, few))
first_pays q (Some space) (stage.Keeping user) n a call = (let few = a.few in omega (arith, few))
first_pays q (Some space) (stage.Recalling attempt again) n a call = (let few = a.few in omega (arith, few))
first_pays q (Some space) (stage.Reusing user sr count) n a call = (let few = a.few in omega (arith, few))
first_pays q (Some space) (stage.Beginning e) n a call = absurd call
first_pays q (Some space) (stage.Continued e sid) n a call = absurd call
first_pays q (Some space) (stage.Authenticated user) n a call = absurd call
first_pays q (Some space) stage.Open n a call = absurd call
first_pays q (Some space) (stage.Bad why) n a call = absurd call
first_pays q (Some space) (stage.Admitted v) n a call = absurd call
first_pays q (Some space) stage.Mismatched n a call = absurd call

words_pay : (q : Question) (o : Option Space) (s : Stage) (w : List ℕ) (n : ℕ) → CallsAtMost n s → IsCall (ask_in q o (stage_after q s (Words w))) → 1 ≤ n
words_pay q o s w zero a call = absurd (no_call q o (stage_after q s (Words w)) (over_stays q s (Words w) a.few) call)
words_pay q o s w (suc n) a call = omega arith

one_pays : (n : ℕ) (a : Answer) → 2 ≤ n → suc (calls_left (a ∷ []) n) ≤ n
one_pays zero a some = absurd (omega (arith, some))
one_pays (suc zero) a some = absurd (omega (arith, some))
one_pays (suc (suc n)) (Words w) some = omega arith
one_pays (suc (suc n)) (Replied r) some = omega arith

stage_pays : (q : Question) (o : Option Space) (answers : List Answer) (s : Stage) (n : ℕ) → CallsAtMost n s → IsCall (ask_in q o (fold (stage_after q) s answers))
    → (a : Answer) → suc (calls_left (answers ++ a ∷ []) n) ≤ calls_left answers n
stage_pays q o [] s n at_most call a = one_pays n a (first_pays q o s n at_most call)
stage_pays q o (Words w ∷ []) s n at_most call a = (let some = words_pay q o s w n at_most call in omega (arith, some))
stage_pays q o (Words w ∷ b ∷ rest) s n at_most call a =
    let behind = stage_after q (stage_after q s (Words w)) b in
    absurd (no_call q o (fold (stage_after q) behind rest) (over_all q rest behind (words_over q s w b at_most.before)) call)
stage_pays q o (Replied r ∷ rest) s zero at_most call a =
    let behind = stage_after q s (Replied r) in
    absurd (no_call q o (fold (stage_after q) behind rest) (over_all q rest behind (over_stays q s (Replied r) at_most.few)) call)
stage_pays q o (Replied r ∷ rest) s (suc n) at_most call a = stage_pays q o rest (stage_after q s (Replied r)) n (reply_calls q s r n at_most) call a

-- ---- the first stage

candidate_calls : (request : Request) (c : Candidate) (o : Option TableName) → CallsAtMost 3 (candidate_stage request c o)
candidate_calls request c None = more 2 3 (candidate_stage request c None) (omega arith) (response_calls request c c.credentials.cnonce None)
candidate_calls request c (Some nonce) = by c.credentials.kind.session
  where
    by : (session : Bool) → CallsAtMost 3 (if session then stage.Peeking c nonce else response_stage request c c.credentials.cnonce (Some nonce))
    by true = record { few = omega arith; before = tt }
    by false = more 2 3 (response_stage request c c.credentials.cnonce (Some nonce)) (omega arith) (response_calls request c c.credentials.cnonce (Some nonce))

taken_calls : (request : Request) (nonce : Option TableName) (o : Option Candidate) → CallsAtMost 3 (taken_stage request nonce o)
taken_calls request name None = record { few = omega arith; before = tt }
taken_calls request name (Some c) = candidate_calls request c name

digest_calls : (request : Request) (nonce : Option TableName) (space : Space) (store : List Entry) (c : Credentials) → CallsAtMost 3 (digest_stage request nonce space store c)
digest_calls request name space store c = by (correspond c.uri request.target)
  where
    by : (same : Bool) → CallsAtMost 3 (if same then taken_stage request name (candidate_of space store c) else stage.Bad why.Uri)
    by true = taken_calls request name (candidate_of space store c)
    by false = record { few = omega arith; before = tt }

mode_calls : (m : Mode) → CallsAtMost 3 (mode_stage m)
mode_calls mode.Open = record { few = omega arith; before = tt }
mode_calls mode.Optional = record { few = omega arith; before = tt }
mode_calls mode.Required = record { few = omega arith; before = tt }

again_calls : (shards : ℕ) (a : Attempt) (o : Option Again) → CallsAtMost 3 (again_stage shards a o)
again_calls shards a None = record { few = omega arith; before = tt }
again_calls shards a (Some again) = record { few = omega arith; before = tt }

final_calls : (shards : ℕ) (realm : List ℕ) (sid : Option TableName) (m : FinalMessage) (o : Option Again) → CallsAtMost 3 (final_stage shards realm sid m o)
final_calls shards realm None m o = record { few = omega arith; before = tt }
final_calls shards realm (Some sid) m o = by (ends_with nat_eq m.nonce (name_text sid))
  where
    by : (ends : Bool) → CallsAtMost 3 (if ends then stage.Taking (record { realm = realm; sid = sid; message = m }) else again_stage shards (record { realm = realm; sid = sid; message = m }) o)
    by true = record { few = omega arith; before = tt }
    by false = again_calls shards (record { realm = realm; sid = sid; message = m }) o

keyed_calls : (m : FirstMessage) (o : Option ScramKeys) → CallsAtMost 3 (keyed_stage m o)
keyed_calls m None = record { few = omega arith; before = tt }
keyed_calls m (Some keys) = record { few = omega arith; before = tt }

message_calls : (shards : ℕ) (realm : List ℕ) (store : List Entry) (m : ScramMessage) → CallsAtMost 3 (message_stage shards realm store m)
message_calls shards realm store message.Absent = record { few = omega arith; before = tt }
message_calls shards realm store message.Malformed = record { few = omega arith; before = tt }
message_calls shards realm store message.WithoutSid = record { few = omega arith; before = tt }
message_calls shards realm store (message.First m) = by (takes_realm m.realm realm)
  where
    by : (takes : Bool) → CallsAtMost 3 (if takes then keyed_stage m (scram_of m.name realm store) else challenge_stage false)
    by true = keyed_calls m (scram_of m.name realm store)
    by false = record { few = omega arith; before = tt }
message_calls shards realm store (message.Final sid m again) = final_calls shards realm (name_within shards sid) m again

scram_calls : (shards : ℕ) (space : Space) (store : List Entry) (m : ScramMessage) → CallsAtMost 3 (scram_stage shards space store m)
scram_calls shards space store m = by (offers_scram space.offers)
  where
    by : (offers : Bool) → CallsAtMost 3 (if offers then message_stage shards space.realm store m else challenge_stage false)
    by true = message_calls shards space.realm store m
    by false = record { few = omega arith; before = tt }

presented_calls : (request : Request) (shards : ℕ) (c : RequestCredentials) (space : Space) (store : List Entry) (p : Presented) → CallsAtMost 3 (presented_stage request shards c space store p)
presented_calls request shards c space store presents.Nothing = mode_calls space.mode
presented_calls request shards c space store (presents.Malformed why) = record { few = omega arith; before = tt }
presented_calls request shards c space store presents.OtherScheme = record { few = omega arith; before = tt }
presented_calls request shards c space store (presents.Digest d) = digest_calls request (name_within shards c.nonce) space store d
presented_calls request shards c space store presents.Scram = scram_calls shards space store c.scram

first_calls : (q : Question) (o : Option Space) → CallsAtMost 3 (first_stage_in q o)
first_calls q None = record { few = omega arith; before = tt }
first_calls q (Some space) = presented_calls q.request q.shards q.credentials space q.site.store (presented q.credentials.field)

-- a request makes at most three calls
pub asked_pays : (q : Question) (answers : List Answer) → Pays 3 answers (asked q answers)
unfolding asked first_stage
asked_pays q answers call =
    let o = protection_space q.role q.request q.site in
    stage_pays q o answers (first_stage_in q o) 3 (first_calls q o) call
