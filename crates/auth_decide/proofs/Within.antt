-- A decision asks shards of the table alone.
use Rattle.std.proofs.Common.{◌≡◌, ℕ, ◌<◌, Bool, true, false, nat_lt, List, Option, Some, None, refl, sym, ap, subst, arith}
use Rattle.std.specs.Prelude.{if◌then◌else◌}
use Rattle.std.specs.Option.{option_and_then, option_map_or}
use Rattle.std.proofs.lemmas.Bool.Decides.{nat_tests}
use Rattle.cred_store.specs.declared.entry.Entry.{Entry}
use Rattle.digest_fields.specs.Credentials.{Credentials}
use Rattle.http_wire.specs.declared.request.Request.{Request}
use Rattle.nonce_shard.specs.declared.calls.Reply.{Reply}
use Rattle.nonce_shard.specs.declared.calls.Reply.TheVariants as reply
use Rattle.nonce_shard.specs.declared.names.TableName.{TableName}
use Rattle.spaces_map.specs.declared.space.Mode.{Mode}
use Rattle.spaces_map.specs.declared.space.Mode.TheVariants as mode
use Rattle.spaces_map.specs.declared.space.Space.{Space}
use Rattle.auth_decide.specs.Candidates.{candidate_of}
use Rattle.auth_decide.specs.Decisions.{AsksWithin, IsWithin}
use Rattle.scram_text.specs.Bytes.{base64_bytes}
use Rattle.auth_decide.specs.Messages.{SaysMessage, DataSays, TextSays, MissesSid, IsFinal}
use Rattle.auth_grammar.specs.Names.{value_of}
use Rattle.auth_grammar.specs.declared.items.Param.{Param}
use Rattle.auth_decide.specs.Paths.{correspond}
use Rattle.auth_decide.specs.Responses.{is_right}
use Rattle.std.specs.List.{ends_with, starts_with}
use Rattle.std.specs.Prelude.{codes, nat_eq}
use Rattle.cred_store.specs.LookUps.{scram_of}
use Rattle.nonce_shard.specs.Names.{name_text}
use Rattle.scram_proof.specs.declared.keys.ScramKeys.{ScramKeys}
use Rattle.auth_decide.specs.Challenges.{offers_scram}
use Rattle.auth_decide.specs.Exchanges.{exchange_message, first_parts, has_nonce, is_proof, recalled_user, same_flag, taken_user, user_by, user_keyed, user_of, user_taken, user_with}
use Rattle.auth_decide.specs.declared.scram_exchange.ExchangeParts.{ExchangeParts}
use Rattle.nonce_shard.specs.declared.calls.Exchange.{Exchange}
use Rattle.auth_decide.specs.declared.credentials.RequestCredentials.{RequestCredentials}
use Rattle.auth_decide.specs.declared.scram_exchange.Attempt.{Attempt}
use Rattle.auth_decide.specs.declared.scram_exchange.NewExchange.{NewExchange}
use Rattle.auth_decide.specs.declared.scram_exchange.ScramUser.{ScramUser}
use Rattle.auth_decide.specs.declared.scram_message.Again.{Again}
use Rattle.auth_decide.specs.declared.scram_message.FinalMessage.{FinalMessage}
use Rattle.auth_decide.specs.declared.scram_message.FirstMessage.{FirstMessage}
use Rattle.auth_decide.specs.declared.scram_message.ScramMessage.{ScramMessage}
use Rattle.auth_decide.specs.declared.scram_message.ScramMessage.TheVariants as message
use Rattle.auth_decide.specs.Stages.{admitted_stage, again_stage, candidate_stage, challenge_stage, digest_stage, final_stage, keeping_stage, keyed_stage, message_stage, mode_stage, name_within, presented_stage, proved_stage, response_stage, reusing_stage, right_stage, scram_stage, stage_after_issue, stage_after_keep, stage_after_open, stage_after_peek, stage_after_recall, stage_after_reply, stage_after_reuse, stage_after_take, stage_after_use, stage_after_words, taken_stage, takes_realm}
use Rattle.auth_decide.specs.VerifiedCredentials.{VerifiedCredentials, verified}
use Rattle.auth_decide.specs.declared.candidate.Candidate.{Candidate}
use Rattle.auth_decide.specs.declared.credentials.Presented.{Presented}
use Rattle.auth_decide.specs.declared.credentials.Presented.TheVariants as presents
use Rattle.auth_decide.specs.declared.stages.Purpose.{Purpose}
use Rattle.auth_decide.specs.declared.stages.Purpose.TheVariants.{Next}
use Rattle.auth_decide.specs.declared.stages.Stage.{Stage}
use Rattle.auth_decide.specs.declared.stages.Stage.TheVariants as stage
use Rattle.auth_decide.specs.declared.stages.TheConstants.{NEXT_NONCE_USES}
use Rattle.auth_decide.specs.declared.verdict.Why.TheVariants as why

-- a name, if there is one, is of one of so many shards
abbrev NamesWithin : ℕ → Option TableName → Type 0
NamesWithin shards None = Unit {0}
NamesWithin shards (Some nonce) = nonce.shard < shards

within_named : (shards : ℕ) (o : Option TableName) → NamesWithin shards (name_within shards o)
within_named shards None = tt
within_named shards (Some nonce) = by (nat_lt nonce.shard shards) refl
  where
    by : (inside : Bool) → nat_lt nonce.shard shards ≡ inside → NamesWithin shards (if inside then Some nonce else None)
    by true is = (let less : nonce.shard < shards = grind (arith, nat_tests) in less)
    by false is = tt

response_within : (shards : ℕ) (request : Request) (c : Candidate) (prime : List ℕ) (o : Option TableName) → NamesWithin shards o → AsksWithin shards (response_stage request c prime o)
response_within shards request c prime o named = by (is_right request c prime) o named
  where
    by : (right : Bool) (o : Option TableName) → NamesWithin shards o → AsksWithin shards (if right then right_stage (verified c prime) o else challenge_stage false)
    by true None named = tt
    by true (Some nonce) named = named
    by false o named = tt

candidate_within : (shards : ℕ) (request : Request) (c : Candidate) (o : Option TableName) → NamesWithin shards o → AsksWithin shards (candidate_stage request c o)
candidate_within shards request c None named = response_within shards request c c.credentials.cnonce None tt
candidate_within shards request c (Some nonce) named = by c.credentials.kind.session
  where
    by : (session : Bool) → AsksWithin shards (if session then stage.Peeking c nonce else response_stage request c c.credentials.cnonce (Some nonce))
    by true = named
    by false = response_within shards request c c.credentials.cnonce (Some nonce) named

taken_within : (shards : ℕ) (request : Request) (nonce : Option TableName) (o : Option Candidate) → NamesWithin shards nonce → AsksWithin shards (taken_stage request nonce o)
taken_within shards request name None named = tt
taken_within shards request name (Some c) named = candidate_within shards request c name named

digest_within : (shards : ℕ) (request : Request) (nonce : Option TableName) (space : Space) (store : List Entry) (c : Credentials) → NamesWithin shards nonce → AsksWithin shards (digest_stage request nonce space store c)
digest_within shards request name space store c named = by (correspond c.uri request.target)
  where
    by : (same : Bool) → AsksWithin shards (if same then taken_stage request name (candidate_of space store c) else stage.Bad why.Uri)
    by true = taken_within shards request name (candidate_of space store c) named
    by false = tt

mode_within : (shards : ℕ) (m : Mode) → AsksWithin shards (mode_stage m)
mode_within shards mode.Open = tt
mode_within shards mode.Optional = tt
mode_within shards mode.Required = tt

-- ---- credentials of SCRAM

-- a client that uses an exchange again counts from 1
abbrev pub CountsFromOne : Option Again → Type 0
CountsFromOne None = Unit {0}
CountsFromOne (Some again) = 0 < again.count

abbrev pub MessageCounts : ScramMessage → Type 0
MessageCounts message.Absent = Unit {0}
MessageCounts message.Malformed = Unit {0}
MessageCounts message.WithoutSid = Unit {0}
MessageCounts (message.First m) = Unit {0}
MessageCounts (message.Final sid m again) = CountsFromOne again

final_counts : (sid text : List ℕ) (named : Option TableName) (m : FinalMessage) (again : Option Again) → IsFinal sid text named m again → CountsFromOne again
final_counts sid text named m None is = tt
final_counts sid text named m (Some again) is = (let some = is.reuse.2.some in omega (arith, some))

text_counts : (sid realm : Option (List ℕ)) (text : List ℕ) (m : ScramMessage) → TextSays sid realm text m → MessageCounts m
text_counts sid realm text message.Absent says = tt
text_counts sid realm text message.Malformed says = tt
text_counts sid realm text message.WithoutSid says = tt
text_counts sid realm text (message.First m) says = tt
text_counts (Some sid) realm text (message.Final named m again) says = final_counts sid text named m again says
text_counts None realm text (message.Final named m again) says = by (starts_with nat_eq text (codes "c=")) says
  where
    by : (misses : Bool) → MissesSid misses realm text (message.Final named m again) → CountsFromOne again
    by true is = absurd (let no : message.Final named m again ≡ message.WithoutSid = is in cc)
    by false is = absurd is

data_counts : (sid realm «data» : Option (List ℕ)) (m : ScramMessage) → DataSays sid realm «data» m → MessageCounts m
data_counts sid realm None m says = subst MessageCounts (sym says) tt
data_counts sid realm (Some text) m says = text_counts sid realm text m says

pub message_counts : (o : Option (List Param)) (m : ScramMessage) → SaysMessage o m → MessageCounts m
message_counts None m says = subst MessageCounts (sym says) tt
message_counts (Some params) m says =
    data_counts (value_of (codes "sid") params) (value_of (codes "realm") params) (option_and_then base64_bytes (value_of (codes "data") params)) m says

sr_within : (shards : ℕ) (o : Option TableName) → IsWithin shards (name_within shards o)
sr_within shards None = tt
sr_within shards (Some nonce) = by (nat_lt nonce.shard shards) refl
  where
    by : (inside : Bool) → nat_lt nonce.shard shards ≡ inside → IsWithin shards (if inside then Some nonce else None)
    by true is = grind (arith, nat_tests)
    by false is = tt

again_within : (shards : ℕ) (a : Attempt) (o : Option Again) → a.sid.shard < shards → CountsFromOne o → AsksWithin shards (again_stage shards a o)
again_within shards a None inside counts = tt
again_within shards a (Some again) inside counts = (inside, sr_within shards again.sr, counts)

final_within : (shards : ℕ) (realm : List ℕ) (sid : Option TableName) (m : FinalMessage) (o : Option Again) → NamesWithin shards sid → CountsFromOne o → AsksWithin shards (final_stage shards realm sid m o)
final_within shards realm None m o named counts = tt
final_within shards realm (Some sid) m o named counts = by (ends_with nat_eq m.nonce (name_text sid))
  where
    by : (ends : Bool) → AsksWithin shards (if ends then stage.Taking (record { realm = realm; sid = sid; message = m }) else again_stage shards (record { realm = realm; sid = sid; message = m }) o)
    by true = named
    by false = again_within shards (record { realm = realm; sid = sid; message = m }) o named counts

keyed_within : (shards : ℕ) (m : FirstMessage) (o : Option ScramKeys) → AsksWithin shards (keyed_stage m o)
keyed_within shards m None = tt
keyed_within shards m (Some keys) = tt

message_within : (shards : ℕ) (realm : List ℕ) (store : List Entry) (m : ScramMessage) → MessageCounts m → AsksWithin shards (message_stage shards realm store m)
message_within shards realm store message.Absent counts = tt
message_within shards realm store message.Malformed counts = tt
message_within shards realm store message.WithoutSid counts = tt
message_within shards realm store (message.First m) counts = by (takes_realm m.realm realm)
  where
    by : (takes : Bool) → AsksWithin shards (if takes then keyed_stage m (scram_of m.name realm store) else challenge_stage false)
    by true = keyed_within shards m (scram_of m.name realm store)
    by false = tt
message_within shards realm store (message.Final sid m again) counts = final_within shards realm (name_within shards sid) m again (within_named shards sid) counts

scram_within : (shards : ℕ) (space : Space) (store : List Entry) (m : ScramMessage) → MessageCounts m → AsksWithin shards (scram_stage shards space store m)
scram_within shards space store m counts = by (offers_scram space.offers)
  where
    by : (offers : Bool) → AsksWithin shards (if offers then message_stage shards space.realm store m else challenge_stage false)
    by true = message_within shards space.realm store m counts
    by false = tt

-- ---- the first stage of all

presented_within : (shards : ℕ) (request : Request) (c : RequestCredentials) (space : Space) (store : List Entry) (p : Presented) → MessageCounts c.scram → AsksWithin shards (presented_stage request shards c space store p)
presented_within shards request c space store presents.Nothing counts = mode_within shards space.mode
presented_within shards request c space store (presents.Malformed why) counts = tt
presented_within shards request c space store presents.OtherScheme counts = tt
presented_within shards request c space store (presents.Digest d) counts = digest_within shards request (name_within shards c.nonce) space store d (within_named shards c.nonce)
presented_within shards request c space store presents.Scram counts = scram_within shards space store c.scram counts

-- the first stage
pub first_within : (shards : ℕ) (request : Request) (c : RequestCredentials) (space : Option Space) (store : List Entry) (p : Presented) → MessageCounts c.scram
    → AsksWithin shards (option_map_or (λ s. presented_stage request shards c s store p) space stage.Open)
first_within shards request c None store p counts = tt
first_within shards request c (Some space) store p counts = presented_within shards request c space store p counts

-- ---- the stage after an answer

pub words_within : (shards : ℕ) (s : Stage) (words : List ℕ) → AsksWithin shards s → AsksWithin shards (stage_after_words s words)
words_within shards (stage.Drawing purpose) words within = tt
words_within shards (stage.Issuing purpose drawn) words within = tt
words_within shards (stage.Peeking c nonce) words within = tt
words_within shards (stage.Using v nonce) words within = tt
words_within shards (stage.Beginning e) words within = tt
words_within shards (stage.Opening e drawn) words within = tt
words_within shards (stage.Taking a) words within = tt
words_within shards (stage.Keeping user) words within = tt
words_within shards (stage.Recalling a again) words within = tt
words_within shards (stage.Reusing user sr count) words within = tt
words_within shards s words within = within

peek_within : (shards : ℕ) (request : Request) (c : Candidate) (nonce : TableName) (r : Reply) → nonce.shard < shards → AsksWithin shards (stage_after_peek request c nonce r)
peek_within shards request c nonce (reply.Prime (Some prime)) named = response_within shards request c prime.items (Some nonce) named
peek_within shards request c nonce (reply.Prime None) named = response_within shards request c c.credentials.cnonce (Some nonce) named
peek_within shards request c nonce reply.Gone named = response_within shards request c c.credentials.cnonce None tt
peek_within shards request c nonce _ named = tt

admitted_within : (shards : ℕ) (v : VerifiedCredentials) (uses : ℕ) → AsksWithin shards (admitted_stage v uses)
admitted_within shards v uses = by (nat_lt uses NEXT_NONCE_USES)
  where
    by : (few : Bool) → AsksWithin shards (if few then stage.Admitted v else stage.Drawing (Next v))
    by true = tt
    by false = tt

use_within : (shards : ℕ) (v : VerifiedCredentials) (r : Reply) → AsksWithin shards (stage_after_use v r)
use_within shards v (reply.Fresh uses) = admitted_within shards v uses
use_within shards v reply.Gone = tt
use_within shards v (reply.Behind high) = tt
use_within shards v reply.Repeated = tt
use_within shards v reply.OtherSession = tt
use_within shards v _ = tt

issue_within : (shards : ℕ) (purpose : Purpose) (words : List ℕ) (r : Reply) → AsksWithin shards (stage_after_issue shards purpose words r)
issue_within shards purpose words (reply.Issued serial) = tt
issue_within shards purpose words _ = tt

open_within : (shards : ℕ) (e : NewExchange) (words : List ℕ) (r : Reply) → AsksWithin shards (stage_after_open shards e words r)
open_within shards e words (reply.Opened serial) = tt
open_within shards e words _ = tt

-- who has proved itself did so in the exchange that was named
user_sid : (shards : ℕ) (store : List Entry) (a : Attempt) (e : Exchange) (parts : ExchangeParts) (user : ScramUser) → user_by store a e parts ≡ Some user → user.sid ≡ a.sid
user_sid shards store a e parts user is = by (scram_of parts.name a.realm store) is
  where
    proof : (keys : ScramKeys) (right : Bool) → (if right then Some (user_of keys a e parts) else None) ≡ Some user → user.sid ≡ a.sid
    proof keys true same = (let one : Some (user_of keys a e parts) ≡ Some user = same in let both : user_of keys a e parts ≡ user = cc in sym (ap (λ (u : ScramUser). u.sid) both))
    proof keys false same = absurd (let no : ◌≡◌ {A = Option ScramUser} None (Some user) = same in cc)

    flag : (keys : ScramKeys) (flags : Bool) → (if flags then user_with keys a e parts else None) ≡ Some user → user.sid ≡ a.sid
    flag keys true same = proof keys (is_proof keys (exchange_message keys a e parts) a.message.proof) same
    flag keys false same = absurd (let no : ◌≡◌ {A = Option ScramUser} None (Some user) = same in cc)

    by : (o : Option ScramKeys) → option_and_then (user_keyed a e parts) o ≡ Some user → user.sid ≡ a.sid
    by None same = absurd (let no : ◌≡◌ {A = Option ScramUser} None (Some user) = same in cc)
    by (Some keys) same = flag keys (same_flag a.message.flag e.flag) same

pub taken_sid : (shards : ℕ) (store : List Entry) (a : Attempt) (e : Exchange) (user : ScramUser) → taken_user store a e ≡ Some user → user.sid ≡ a.sid
taken_sid shards store a e user is = by (first_parts e.bare.items) is
  where
    nonce : (parts : ExchangeParts) (own : Bool) → (if own then user_by store a e parts else None) ≡ Some user → user.sid ≡ a.sid
    nonce parts true same = user_sid shards store a e parts user same
    nonce parts false same = absurd (let no : ◌≡◌ {A = Option ScramUser} None (Some user) = same in cc)

    by : (o : Option ExchangeParts) → option_and_then (user_taken store a e) o ≡ Some user → user.sid ≡ a.sid
    by None same = absurd (let no : ◌≡◌ {A = Option ScramUser} None (Some user) = same in cc)
    by (Some parts) same = nonce parts (has_nonce a parts) same

keeping_within : (shards : ℕ) (a : Attempt) (o : Option ScramUser) → a.sid.shard < shards → ((user : ScramUser) → o ≡ Some user → user.sid ≡ a.sid) → AsksWithin shards (keeping_stage o)
keeping_within shards a None inside named = tt
keeping_within shards a (Some user) inside named = subst (λ (n : TableName). n.shard < shards) (sym (named user refl)) inside

take_within : (shards : ℕ) (store : List Entry) (a : Attempt) (r : Reply) → a.sid.shard < shards → AsksWithin shards (stage_after_take store a r)
take_within shards store a (reply.Taken e) inside = keeping_within shards a (taken_user store a e) inside (λ user is. taken_sid shards store a e user is)
take_within shards store a reply.Gone inside = tt
take_within shards store a _ inside = tt

keep_within : (shards : ℕ) (user : ScramUser) (r : Reply) → AsksWithin shards (stage_after_keep user r)
keep_within shards user reply.Kept = tt
keep_within shards user reply.Gone = tt
keep_within shards user _ = tt

reusing_within : (shards : ℕ) (user : ScramUser) (count : ℕ) (o : Option TableName) → IsWithin shards o → 0 < count → AsksWithin shards (reusing_stage user count o)
reusing_within shards user count None within some = tt
reusing_within shards user count (Some sr) within some = (within, some)

proved_within : (shards : ℕ) (again : Again) (o : Option ScramUser) → IsWithin shards again.sr → 0 < again.count → AsksWithin shards (proved_stage again o)
proved_within shards again None within some = tt
proved_within shards again (Some user) within some = reusing_within shards user again.count again.sr within some

recall_within : (shards : ℕ) (store : List Entry) (a : Attempt) (again : Again) (r : Reply) → IsWithin shards again.sr → 0 < again.count → AsksWithin shards (stage_after_recall store a again r)
recall_within shards store a again (reply.Session e) within some = proved_within shards again (recalled_user store a e) within some
recall_within shards store a again reply.Gone within some = tt
recall_within shards store a again _ within some = tt

reuse_within : (shards : ℕ) (user : ScramUser) (r : Reply) → AsksWithin shards (stage_after_reuse user r)
reuse_within shards user (reply.Fresh uses) = tt
reuse_within shards user reply.Gone = tt
reuse_within shards user (reply.Behind high) = tt
reuse_within shards user reply.Repeated = tt
reuse_within shards user reply.OtherSession = tt
reuse_within shards user _ = tt

pub reply_within : (shards : ℕ) (request : Request) (store : List Entry) (s : Stage) (r : Reply) → AsksWithin shards s → AsksWithin shards (stage_after_reply request store shards s r)
reply_within shards request store (stage.Issuing purpose words) r within = issue_within shards purpose words r
reply_within shards request store (stage.Peeking c nonce) r within = peek_within shards request c nonce r within
reply_within shards request store (stage.Using v nonce) r within = use_within shards v r
reply_within shards request store (stage.Opening e words) r within = open_within shards e words r
reply_within shards request store (stage.Taking a) r within = take_within shards store a r within
reply_within shards request store (stage.Keeping user) r within = keep_within shards user r
reply_within shards request store (stage.Recalling a again) r within = recall_within shards store a again r within.1 within.2
reply_within shards request store (stage.Reusing user sr count) r within = reuse_within shards user r
reply_within shards request store (stage.Drawing purpose) r within = tt
reply_within shards request store (stage.Beginning e) r within = tt
reply_within shards request store s r within = within
