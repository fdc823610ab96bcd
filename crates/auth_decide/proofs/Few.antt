-- A decision asks few things: each answer leads on to a stage that leaves fewer to ask.
use Rattle.std.proofs.Common.{ℕ, ◌≤◌, ◌<◌, ◌-◌, Bool, true, false, nat_lt, List, [], ◌∷◌, length, fold, Option, Some, None, arith}
use Rattle.std.specs.Prelude.{if◌then◌else◌}
use Rattle.cred_store.specs.declared.entry.Entry.{Entry}
use Rattle.digest_fields.specs.Credentials.{Credentials}
use Rattle.http_wire.specs.declared.request.Request.{Request}
use Rattle.nonce_shard.specs.declared.calls.Reply.{Reply}
use Rattle.nonce_shard.specs.declared.calls.Reply.TheVariants as reply
use Rattle.nonce_shard.specs.declared.names.TableName.{TableName}
use Rattle.spaces_map.specs.declared.space.Mode.{Mode}
use Rattle.spaces_map.specs.declared.space.Mode.TheVariants as mode
use Rattle.spaces_map.specs.declared.space.Space.{Space}
use Rattle.auth_decide.specs.Asks.{ask_in, asked, next_ask}
use Rattle.auth_decide.specs.Candidates.{candidate_of}
use Rattle.auth_decide.specs.Credentials.{presented}
use Rattle.auth_decide.specs.Decisions.{IsCallFor, IsDraw, IsOutside, asks_left}
use Rattle.auth_decide.specs.Paths.{correspond}
use Rattle.auth_decide.specs.Responses.{is_right}
use Rattle.std.specs.List.{ends_with}
use Rattle.std.specs.Prelude.{nat_eq}
use Rattle.cred_store.specs.LookUps.{scram_of}
use Rattle.nonce_shard.specs.Names.{name_text}
use Rattle.scram_proof.specs.declared.keys.ScramKeys.{ScramKeys}
use Rattle.auth_decide.specs.Challenges.{offers_scram}
use Rattle.auth_decide.specs.Exchanges.{recalled_user, taken_user}
use Rattle.auth_decide.specs.declared.credentials.RequestCredentials.{RequestCredentials}
use Rattle.auth_decide.specs.declared.scram_exchange.Attempt.{Attempt}
use Rattle.auth_decide.specs.declared.scram_exchange.NewExchange.{NewExchange}
use Rattle.auth_decide.specs.declared.scram_exchange.ScramUser.{ScramUser}
use Rattle.auth_decide.specs.declared.scram_message.Again.{Again}
use Rattle.auth_decide.specs.declared.scram_message.FinalMessage.{FinalMessage}
use Rattle.auth_decide.specs.declared.scram_message.FirstMessage.{FirstMessage}
use Rattle.auth_decide.specs.declared.scram_message.ScramMessage.{ScramMessage}
use Rattle.auth_decide.specs.declared.scram_message.ScramMessage.TheVariants as message
use Rattle.auth_decide.specs.Stages.{Answer, Question, Replied, Words, admitted_stage, again_stage, candidate_stage, challenge_stage, digest_stage, final_stage, first_stage, first_stage_in, keeping_stage, keyed_stage, message_stage, mode_stage, name_within, presented_stage, protection_space, proved_stage, response_stage, reusing_stage, right_stage, scram_stage, stage_after, stage_after_issue, stage_after_keep, stage_after_open, stage_after_peek, stage_after_recall, stage_after_reuse, stage_after_take, stage_after_use, stage_at, taken_stage, takes_realm}
use Rattle.auth_decide.specs.VerifiedCredentials.{VerifiedCredentials, verified}
use Rattle.auth_decide.specs.declared.candidate.Candidate.{Candidate}
use Rattle.auth_decide.specs.declared.credentials.Presented.{Presented}
use Rattle.auth_decide.specs.declared.credentials.Presented.TheVariants as presents
use Rattle.auth_decide.specs.declared.stages.Purpose.{Purpose}
use Rattle.auth_decide.specs.declared.stages.Purpose.TheVariants.{Next}
use Rattle.auth_decide.specs.declared.stages.Stage.{Stage}
use Rattle.auth_decide.specs.declared.stages.Stage.TheVariants as stage
use Rattle.auth_decide.specs.declared.stages.TheConstants.{NEXT_NONCE_USES}
use Rattle.auth_decide.specs.declared.verdict.Ask.{Ask}
use Rattle.auth_decide.specs.declared.verdict.Ask.TheVariants.{Draw, Table, Verdict}
use Rattle.auth_decide.specs.declared.verdict.Why.TheVariants as why

-- ---- an answer leaves fewer

response_left : (request : Request) (c : Candidate) (prime : List ℕ) (nonce : Option TableName) → asks_left (response_stage request c prime nonce) ≤ 3
response_left request c prime nonce = by (is_right request c prime) nonce
  where
    by : (right : Bool) (o : Option TableName) → asks_left (if right then right_stage (verified c prime) o else challenge_stage false) ≤ 3
    by true None = omega arith
    by true (Some name) = omega arith
    by false o = omega arith

peek_left : (request : Request) (c : Candidate) (nonce : TableName) (r : Reply) → asks_left (stage_after_peek request c nonce r) ≤ 3
peek_left request c nonce (reply.Prime (Some prime)) = response_left request c prime.items (Some nonce)
peek_left request c nonce (reply.Prime None) = response_left request c c.credentials.cnonce (Some nonce)
peek_left request c nonce reply.Gone = response_left request c c.credentials.cnonce None
peek_left request c nonce _ = omega arith

admitted_left : (v : VerifiedCredentials) (uses : ℕ) → asks_left (admitted_stage v uses) ≤ 2
admitted_left v uses = by (nat_lt uses NEXT_NONCE_USES)
  where
    by : (few : Bool) → asks_left (if few then stage.Admitted v else stage.Drawing (Next v)) ≤ 2
    by true = omega arith
    by false = omega arith

use_left : (v : VerifiedCredentials) (r : Reply) → asks_left (stage_after_use v r) ≤ 2
use_left v (reply.Fresh uses) = admitted_left v uses
use_left v reply.Gone = omega arith
use_left v (reply.Behind high) = omega arith
use_left v reply.Repeated = omega arith
use_left v reply.OtherSession = omega arith
use_left v _ = omega arith

issue_left : (shards : ℕ) (purpose : Purpose) (words : List ℕ) (r : Reply) → asks_left (stage_after_issue shards purpose words r) ≤ 0
issue_left shards purpose words (reply.Issued serial) = omega arith
issue_left shards purpose words _ = omega arith

open_left : (shards : ℕ) (e : NewExchange) (words : List ℕ) (r : Reply) → asks_left (stage_after_open shards e words r) ≤ 0
open_left shards e words (reply.Opened serial) = omega arith
open_left shards e words _ = omega arith

keeping_left : (o : Option ScramUser) → asks_left (keeping_stage o) ≤ 2
keeping_left None = omega arith
keeping_left (Some user) = omega arith

take_left : (store : List Entry) (a : Attempt) (r : Reply) → asks_left (stage_after_take store a r) ≤ 2
take_left store a (reply.Taken e) = keeping_left (taken_user store a e)
take_left store a reply.Gone = omega arith
take_left store a _ = omega arith

keep_left : (user : ScramUser) (r : Reply) → asks_left (stage_after_keep user r) ≤ 0
keep_left user reply.Kept = omega arith
keep_left user reply.Gone = omega arith
keep_left user _ = omega arith

proved_left : (again : Again) (o : Option ScramUser) → asks_left (proved_stage again o) ≤ 3
proved_left again None = omega arith
proved_left again (Some user) = by again.sr
  where
    by : (o : Option TableName) → asks_left (reusing_stage user again.count o) ≤ 3
    by None = omega arith
    by (Some sr) = omega arith

recall_left : (store : List Entry) (a : Attempt) (again : Again) (r : Reply) → asks_left (stage_after_recall store a again r) ≤ 3
recall_left store a again (reply.Session e) = proved_left again (recalled_user store a e)
recall_left store a again reply.Gone = omega arith
recall_left store a again _ = omega arith

reuse_left : (user : ScramUser) (r : Reply) → asks_left (stage_after_reuse user r) ≤ 2
reuse_left user (reply.Fresh uses) = omega arith
reuse_left user reply.Gone = omega arith
reuse_left user (reply.Behind high) = omega arith
reuse_left user reply.Repeated = omega arith
reuse_left user reply.OtherSession = omega arith
reuse_left user _ = omega arith

after_left : (q : Question) (s : Stage) (a : Answer) → asks_left (stage_after q s a) ≤ asks_left s - 1
after_left q (stage.Drawing purpose) (Words words) = omega arith
after_left q (stage.Beginning e) (Words words) = omega arith
after_left q _ (Words words) = omega arith
after_left q (stage.Issuing purpose words) (Replied r) = (let few = issue_left q.shards purpose words r in omega (arith, few))
after_left q (stage.Peeking c nonce) (Replied r) = (let few = peek_left q.request c nonce r in omega (arith, few))
after_left q (stage.Using v nonce) (Replied r) = (let few = use_left v r in omega (arith, few))
after_left q (stage.Opening e words) (Replied r) = (let few = open_left q.shards e words r in omega (arith, few))
after_left q (stage.Taking a) (Replied r) = (let few = take_left q.site.store a r in omega (arith, few))
after_left q (stage.Keeping user) (Replied r) = (let few = keep_left user r in omega (arith, few))
after_left q (stage.Recalling a again) (Replied r) = (let few = recall_left q.site.store a again r in omega (arith, few))
after_left q (stage.Reusing user sr count) (Replied r) = (let few = reuse_left user r in omega (arith, few))
after_left q _ (Replied r) = omega arith

outside_left : (q : Question) (o : Option Space) (s : Stage) → IsOutside (ask_in q o s) → 1 ≤ asks_left s
outside_left q None s out = absurd out
outside_left q (Some space) (stage.Peeking c nonce) out = omega arith
outside_left q (Some space) (stage.Using v nonce) out = omega arith
outside_left q (Some space) (stage.Drawing purpose) out = omega arith
outside_left q (Some space) (stage.Issuing purpose words) out = omega arith
outside_left q (Some space) (stage.Issued purpose nonce) out = absurd out
outside_left q (Some space) stage.Open out = absurd out
outside_left q (Some space) (stage.Bad why) out = absurd out
outside_left q (Some space) (stage.Admitted v) out = absurd out
outside_left q (Some space) (stage.Beginning e) out = omega arith
outside_left q (Some space) (stage.Opening e words) out = omega arith
outside_left q (Some space) (stage.Taking a) out = omega arith
outside_left q (Some space) (stage.Keeping user) out = omega arith
outside_left q (Some space) (stage.Recalling a again) out = omega arith
outside_left q (Some space) (stage.Reusing user sr count) out = omega arith
outside_left q (Some space) (stage.Continued e sid) out = absurd out
outside_left q (Some space) (stage.Authenticated user) out = absurd out
outside_left q (Some space) stage.Mismatched out = absurd out

fewer : (q : Question) (s : Stage) (a : Answer) → IsOutside (next_ask q s) → asks_left (stage_after q s a) < asks_left s
fewer q s a out =
    let some = outside_left q (protection_space q.role q.request q.site) s out in
    let one = after_left q s a in
    omega (arith, some, one)

draw_outside : (ask : Ask) → IsDraw ask → IsOutside ask
draw_outside Draw is = tt
draw_outside (Table shard call) is = absurd is
draw_outside (Verdict verdict) is = absurd is

call_outside : (r : Reply) (ask : Ask) → IsCallFor r ask → IsOutside ask
call_outside r Draw is = absurd is
call_outside r (Table shard call) is = tt
call_outside r (Verdict verdict) is = absurd is

pub words_fewer : (q : Question) (s : Stage) (words : List ℕ) → IsDraw (next_ask q s) → asks_left (stage_after q s (Words words)) < asks_left s
words_fewer q s words is = fewer q s (Words words) (draw_outside (next_ask q s) is)

pub reply_fewer : (q : Question) (s : Stage) (r : Reply) → IsCallFor r (next_ask q s) → asks_left (stage_after q s (Replied r)) < asks_left s
reply_fewer q s r is = fewer q s (Replied r) (call_outside r (next_ask q s) is)

-- ---- the first stage leaves four

candidate_left : (request : Request) (c : Candidate) (o : Option TableName) → asks_left (candidate_stage request c o) ≤ 4
candidate_left request c None = (let few = response_left request c c.credentials.cnonce None in omega (arith, few))
candidate_left request c (Some nonce) = by c.credentials.kind.session
  where
    by : (session : Bool) → asks_left (if session then stage.Peeking c nonce else response_stage request c c.credentials.cnonce (Some nonce)) ≤ 4
    by true = omega arith
    by false = (let few = response_left request c c.credentials.cnonce (Some nonce) in omega (arith, few))

taken_left : (request : Request) (nonce : Option TableName) (o : Option Candidate) → asks_left (taken_stage request nonce o) ≤ 4
taken_left request name None = omega arith
taken_left request name (Some c) = candidate_left request c name

digest_left : (request : Request) (nonce : Option TableName) (space : Space) (store : List Entry) (c : Credentials) → asks_left (digest_stage request nonce space store c) ≤ 4
digest_left request name space store c = by (correspond c.uri request.target)
  where
    by : (same : Bool) → asks_left (if same then taken_stage request name (candidate_of space store c) else stage.Bad why.Uri) ≤ 4
    by true = taken_left request name (candidate_of space store c)
    by false = omega arith

mode_left : (m : Mode) → asks_left (mode_stage m) ≤ 4
mode_left mode.Open = omega arith
mode_left mode.Optional = omega arith
mode_left mode.Required = omega arith

again_left : (shards : ℕ) (a : Attempt) (o : Option Again) → asks_left (again_stage shards a o) ≤ 4
again_left shards a None = omega arith
again_left shards a (Some again) = omega arith

final_left : (shards : ℕ) (realm : List ℕ) (sid : Option TableName) (m : FinalMessage) (o : Option Again) → asks_left (final_stage shards realm sid m o) ≤ 4
final_left shards realm None m o = omega arith
final_left shards realm (Some sid) m o = by (ends_with nat_eq m.nonce (name_text sid))
  where
    by : (ends : Bool) → asks_left (if ends then stage.Taking (record { realm = realm; sid = sid; message = m }) else again_stage shards (record { realm = realm; sid = sid; message = m }) o) ≤ 4
    by true = omega arith
    by false = again_left shards (record { realm = realm; sid = sid; message = m }) o

keyed_left : (m : FirstMessage) (o : Option ScramKeys) → asks_left (keyed_stage m o) ≤ 4
keyed_left m None = omega arith
keyed_left m (Some keys) = omega arith

message_left : (shards : ℕ) (realm : List ℕ) (store : List Entry) (m : ScramMessage) → asks_left (message_stage shards realm store m) ≤ 4
message_left shards realm store message.Absent = omega arith
message_left shards realm store message.Malformed = omega arith
message_left shards realm store message.WithoutSid = omega arith
message_left shards realm store (message.First m) = by (takes_realm m.realm realm)
  where
    by : (takes : Bool) → asks_left (if takes then keyed_stage m (scram_of m.name realm store) else challenge_stage false) ≤ 4
    by true = keyed_left m (scram_of m.name realm store)
    by false = omega arith
message_left shards realm store (message.Final sid m again) = final_left shards realm (name_within shards sid) m again

scram_left : (shards : ℕ) (space : Space) (store : List Entry) (m : ScramMessage) → asks_left (scram_stage shards space store m) ≤ 4
scram_left shards space store m = by (offers_scram space.offers)
  where
    by : (offers : Bool) → asks_left (if offers then message_stage shards space.realm store m else challenge_stage false) ≤ 4
    by true = message_left shards space.realm store m
    by false = omega arith

presented_left : (request : Request) (shards : ℕ) (c : RequestCredentials) (space : Space) (store : List Entry) (p : Presented) → asks_left (presented_stage request shards c space store p) ≤ 4
presented_left request shards c space store presents.Nothing = mode_left space.mode
presented_left request shards c space store (presents.Malformed why) = omega arith
presented_left request shards c space store presents.OtherScheme = omega arith
presented_left request shards c space store (presents.Digest d) = digest_left request (name_within shards c.nonce) space store d
presented_left request shards c space store presents.Scram = scram_left shards space store c.scram

first_left_in : (q : Question) (o : Option Space) → asks_left (first_stage_in q o) ≤ 4
first_left_in q None = omega arith
first_left_in q (Some space) = presented_left q.request q.shards q.credentials space q.site.store (presented q.credentials.field)

pub first_left : (q : Question) → asks_left (first_stage q) ≤ 4
unfolding first_stage
first_left q = first_left_in q (protection_space q.role q.request q.site)

-- ---- there are at most four asks

all_left : (q : Question) (answers : List Answer) (s : Stage) → asks_left (fold (stage_after q) s answers) ≤ asks_left s - length answers
all_left q [] s = omega arith
all_left q (a ∷ answers) s = (let rest = all_left q answers (stage_after q s a) in let one = after_left q s a in omega (arith, rest, one))

pub few_asks : (q : Question) (answers : List Answer) → IsOutside (asked q answers) → length answers ≤ 3
unfolding asked
few_asks q answers out =
    let first = first_left q in
    let rest = all_left q answers (first_stage q) in
    let some = outside_left q (protection_space q.role q.request q.site) (stage_at q answers) out in
    omega (arith, first, rest, some)
