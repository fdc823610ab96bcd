-- The stages of a decision: the first one, and what each answer leads on to (RFC 9110 section 11, RFC 7616 sections 3.3 to 3.5,
-- RFC 7804 section 5).
use Rattle.std.specs.Prelude.{ℕ, ◌%◌, Bool, true, false, nat_lt, nat_eq, bytes_eq, if◌then◌else◌, List, fold, Option, Some, None, slice_index}
use Rattle.std.specs.List.{ends_with}
use Rattle.auth_grammar.specs.declared.items.Role.{Role}
use Rattle.auth_grammar.specs.declared.items.Role.TheVariants.{Origin, Proxy}
use Rattle.cred_store.specs.LookUps.{scram_of}
use Rattle.cred_store.specs.declared.entry.Entry.{Entry}
use Rattle.digest_fields.specs.Credentials.{Credentials}
use Rattle.http_wire.specs.declared.request.Request.{Request}
use Rattle.nonce_shard.specs.declared.calls.Reply.{Reply}
use Rattle.nonce_shard.specs.declared.calls.Reply.TheVariants as reply
use Rattle.nonce_shard.specs.Names.{name_text}
use Rattle.nonce_shard.specs.declared.names.NameKind.TheVariants as kind
use Rattle.nonce_shard.specs.declared.names.TableName.{TableName}
use Rattle.scram_proof.specs.declared.keys.ScramKeys.{ScramKeys}
use Rattle.spaces_map.specs.Spaces.{space_of}
use Rattle.spaces_map.specs.declared.space.Mode.{Mode}
use Rattle.spaces_map.specs.declared.space.Mode.TheVariants as mode
use Rattle.spaces_map.specs.declared.space.Space.{Space}
use Rattle.auth_decide.specs.Candidates.{candidate_of}
use Rattle.auth_decide.specs.Challenges.{offers_scram}
use Rattle.auth_decide.specs.Credentials.{presented}
use Rattle.auth_decide.specs.Exchanges.{new_exchange, recalled_user, taken_user}
use Rattle.auth_decide.specs.Paths.{correspond, path_of, root_path}
use Rattle.auth_decide.specs.Responses.{is_right}
use Rattle.auth_decide.specs.VerifiedCredentials.{VerifiedCredentials, verified}
use Rattle.auth_decide.specs.declared.candidate.Candidate.{Candidate}
use Rattle.auth_decide.specs.declared.challenges.Stale.TheVariants as stale
use Rattle.auth_decide.specs.declared.credentials.Presented.{Presented}
use Rattle.auth_decide.specs.declared.credentials.Presented.TheVariants as presents
use Rattle.auth_decide.specs.declared.credentials.RequestCredentials.{RequestCredentials}
use Rattle.auth_decide.specs.declared.scram_exchange.Attempt.{Attempt}
use Rattle.auth_decide.specs.declared.scram_exchange.NewExchange.{NewExchange}
use Rattle.auth_decide.specs.declared.scram_exchange.ScramUser.{ScramUser}
use Rattle.auth_decide.specs.declared.scram_message.Again.{Again}
use Rattle.auth_decide.specs.declared.scram_message.FinalMessage.{FinalMessage}
use Rattle.auth_decide.specs.declared.scram_message.FirstMessage.{FirstMessage}
use Rattle.auth_decide.specs.declared.scram_message.ScramMessage.{ScramMessage}
use Rattle.auth_decide.specs.declared.scram_message.ScramMessage.TheVariants as message
use Rattle.auth_decide.specs.declared.site.Site.{Site}
use Rattle.auth_decide.specs.declared.stages.Purpose.{Purpose}
use Rattle.auth_decide.specs.declared.stages.Purpose.TheVariants.{Offer, Challenge, Next}
use Rattle.auth_decide.specs.declared.stages.Stage.{Stage}
use Rattle.auth_decide.specs.declared.stages.Stage.TheVariants.{Open, Bad, Drawing, Issuing, Issued, Peeking, Using, Admitted, Mismatched, Beginning, Opening, Continued, Taking, Keeping, Recalling, Reusing, Authenticated}
use Rattle.auth_decide.specs.declared.stages.TheConstants.{NEXT_NONCE_USES}
use Rattle.auth_decide.specs.declared.verdict.Why.TheVariants as why

-- a request as it is decided: whose authentication it is, its moment, the site, the number of the nonce table's shards,
-- and its credentials as its lines say them
pub record Question : Type 0 where
  pub role : Role
  pub request : Request
  pub moment : ℕ
  pub site : Site
  pub shards : ℕ
  pub credentials : RequestCredentials

-- ---- the protection space

-- the path that it is found by: that of the target, for a proxy the root
abbrev pub space_path : Role → List ℕ → List ℕ
space_path Origin target = path_of target
space_path Proxy target = root_path

-- an open space asks for no credentials, as if there was none
abbrev pub unless_open : Space → Mode → Option Space
unless_open space mode.Open = None
unless_open space mode.Optional = Some space
unless_open space mode.Required = Some space

abbrev pub space_asking : Option Space → Option Space
space_asking None = None
space_asking (Some space) = unless_open space space.mode

-- the space of a request, where it asks for credentials
abbrev pub protection_space : Role → Request → Site → Option Space
protection_space role request site = space_asking (space_of (space_path role request.target) site.spaces)

-- ---- what the response leads to

-- a new nonce is drawn for a challenge
abbrev pub challenge_stage : Bool → Stage
challenge_stage is = Drawing (Challenge (if is then stale.Digest else stale.Nothing))

-- a right response, whose count is used where the table may have the nonce
abbrev pub right_stage : VerifiedCredentials → Option TableName → Stage
right_stage v None = challenge_stage true
right_stage v (Some nonce) = Using v nonce

-- The response is checked before anything is marked.
abbrev pub response_stage : Request → Candidate → List ℕ → Option TableName → Stage
response_stage request c prime name = if is_right request c prime then right_stage (verified c prime) name else challenge_stage false

-- ---- the first stage

-- a name that the table may have, since it has its shard
abbrev pub name_within : ℕ → Option TableName → Option TableName
name_within shards None = None
name_within shards (Some nonce) = if nat_lt nonce.shard shards then Some nonce else None

-- Of a session, the client's nonce that began it is looked up first.
abbrev pub candidate_stage : Request → Candidate → Option TableName → Stage
candidate_stage request c None = response_stage request c c.credentials.cnonce None
candidate_stage request c (Some nonce) =
    if c.credentials.kind.session then Peeking c nonce else response_stage request c c.credentials.cnonce (Some nonce)

abbrev pub taken_stage : Request → Option TableName → Option Candidate → Stage
taken_stage request name None = challenge_stage false
taken_stage request name (Some c) = candidate_stage request c name

-- credentials of Digest: first their `uri`, then whether the space takes them
abbrev pub digest_stage : Request → Option TableName → Space → List Entry → Credentials → Stage
digest_stage request name space store c =
    if correspond c.uri request.target then taken_stage request name (candidate_of space store c) else Bad why.Uri

-- ---- credentials of SCRAM

-- a new nonce is drawn for a challenge that says that the `sr` was stale
abbrev pub stale_scram : Stage
stale_scram = Drawing (Challenge stale.Scram)

-- a realm has to be that of the space, where it is there
abbrev pub takes_realm : Option (List ℕ) → List ℕ → Bool
takes_realm None realm = true
takes_realm (Some given) realm = bytes_eq given realm

-- A client-first of a user with keys begins an exchange.
abbrev pub keyed_stage : FirstMessage → Option ScramKeys → Stage
keyed_stage m None = challenge_stage false
keyed_stage m (Some keys) = Beginning (new_exchange m keys)

abbrev pub first_message_stage : List ℕ → List Entry → FirstMessage → Stage
first_message_stage realm store m =
    if takes_realm m.realm realm then keyed_stage m (scram_of m.name realm store) else challenge_stage false

-- Its nonce names an exchange that is used again.
abbrev pub again_stage : ℕ → Attempt → Option Again → Stage
again_stage shards a None = challenge_stage false
again_stage shards a (Some again) = Recalling a (record { count = again.count; sr = name_within shards again.sr })

-- A client-final takes the one try of the exchange that its nonce ends with, or uses an exchange again.
abbrev pub attempt_stage : ℕ → Attempt → Option Again → Stage
attempt_stage shards a again = if ends_with nat_eq a.message.nonce (name_text a.sid) then Taking a else again_stage shards a again

abbrev pub final_stage : ℕ → List ℕ → Option TableName → FinalMessage → Option Again → Stage
final_stage shards realm None m again = challenge_stage false
final_stage shards realm (Some sid) m again = attempt_stage shards (record { realm = realm; sid = sid; message = m }) again

abbrev pub message_stage : ℕ → List ℕ → List Entry → ScramMessage → Stage
message_stage shards realm store message.Absent = challenge_stage false
message_stage shards realm store message.Malformed = Bad why.Scram
message_stage shards realm store message.WithoutSid = challenge_stage false
message_stage shards realm store (message.First m) = first_message_stage realm store m
message_stage shards realm store (message.Final sid m again) = final_stage shards realm (name_within shards sid) m again

abbrev pub scram_stage : ℕ → Space → List Entry → ScramMessage → Stage
scram_stage shards space store m = if offers_scram space.offers then message_stage shards space.realm store m else challenge_stage false

-- ---- the first stage of all

-- without credentials
abbrev pub mode_stage : Mode → Stage
mode_stage mode.Open = Open
mode_stage mode.Optional = Drawing Offer
mode_stage mode.Required = challenge_stage false

abbrev pub presented_stage : Request → ℕ → RequestCredentials → Space → List Entry → Presented → Stage
presented_stage request shards c space store presents.Nothing = mode_stage space.mode
presented_stage request shards c space store (presents.Malformed why) = Bad why
presented_stage request shards c space store presents.OtherScheme = challenge_stage false
presented_stage request shards c space store (presents.Digest d) = digest_stage request (name_within shards c.nonce) space store d
presented_stage request shards c space store presents.Scram = scram_stage shards space store c.scram

abbrev pub first_stage_in : Question → Option Space → Stage
first_stage_in q None = Open
first_stage_in q (Some space) =
    presented_stage q.request q.shards q.credentials space q.site.store (presented q.credentials.field)

unfoldable pub first_stage : Question → Stage
first_stage q = first_stage_in q (protection_space q.role q.request q.site)

-- ---- what an answer leads on to

-- what an ask got
pub data Answer : Type 0 where
  Words : List ℕ → Answer
  Replied : Reply → Answer

-- random words are drawn for a new nonce; a decision that has ended stays as it is
abbrev pub stage_after_words : Stage → List ℕ → Stage
stage_after_words (Drawing purpose) words = Issuing purpose words
stage_after_words (Beginning e) words = Opening e words
stage_after_words (Issuing purpose drawn) words = Mismatched
stage_after_words (Peeking c nonce) words = Mismatched
stage_after_words (Using v nonce) words = Mismatched
stage_after_words (Opening e drawn) words = Mismatched
stage_after_words (Taking a) words = Mismatched
stage_after_words (Keeping user) words = Mismatched
stage_after_words (Recalling a again) words = Mismatched
stage_after_words (Reusing user sr count) words = Mismatched
stage_after_words stage words = stage

-- the first of the words chooses the shard
abbrev pub shard_for : ℕ → List ℕ → ℕ
shard_for shards words = slice_index words 0 % shards

abbrev pub new_name : ℕ → List ℕ → ℕ → TableName
new_name shards words serial = record { kind = kind.Nonce; shard = shard_for shards words; serial = serial; random = words }

abbrev pub stage_after_issue : ℕ → Purpose → List ℕ → Reply → Stage
stage_after_issue shards purpose words (reply.Issued serial) = Issued purpose (new_name shards words serial)
stage_after_issue shards purpose words _ = Mismatched

-- the client's nonce that began the session, or its nonce in this request where none has begun
abbrev pub stage_after_peek : Request → Candidate → TableName → Reply → Stage
stage_after_peek request c nonce (reply.Prime (Some prime)) = response_stage request c prime.items (Some nonce)
stage_after_peek request c nonce (reply.Prime None) = response_stage request c c.credentials.cnonce (Some nonce)
stage_after_peek request c nonce reply.Gone = response_stage request c c.credentials.cnonce None
stage_after_peek request c nonce _ = Mismatched

-- From so many uses of a nonce on, the next nonce is offered (`nextnonce`, RFC 7616 section 3.5).
abbrev pub admitted_stage : VerifiedCredentials → ℕ → Stage
admitted_stage v uses = if nat_lt uses NEXT_NONCE_USES then Admitted v else Drawing (Next v)

abbrev pub stage_after_use : VerifiedCredentials → Reply → Stage
stage_after_use v (reply.Fresh uses) = admitted_stage v uses
stage_after_use v reply.Gone = challenge_stage true
stage_after_use v (reply.Behind high) = challenge_stage true
stage_after_use v reply.Repeated = challenge_stage true
stage_after_use v reply.OtherSession = challenge_stage false
stage_after_use v _ = Mismatched

-- ---- exchanges

abbrev pub sid_name : ℕ → List ℕ → ℕ → TableName
sid_name shards words serial = record { kind = kind.Exchange; shard = shard_for shards words; serial = serial; random = words }

abbrev pub stage_after_open : ℕ → NewExchange → List ℕ → Reply → Stage
stage_after_open shards e words (reply.Opened serial) = Continued e (sid_name shards words serial)
stage_after_open shards e words _ = Mismatched

-- The exchange is finished once its user has proved itself.
abbrev pub keeping_stage : Option ScramUser → Stage
keeping_stage None = challenge_stage false
keeping_stage (Some user) = Keeping user

abbrev pub stage_after_take : List Entry → Attempt → Reply → Stage
stage_after_take store a (reply.Taken e) = keeping_stage (taken_user store a e)
stage_after_take store a reply.Gone = challenge_stage false
stage_after_take store a _ = Mismatched

-- Whatever the table says of a finished exchange, its user is admitted.
abbrev pub stage_after_keep : ScramUser → Reply → Stage
stage_after_keep user reply.Kept = Authenticated user
stage_after_keep user reply.Gone = Authenticated user
stage_after_keep user _ = Mismatched

-- The count is used of the `sr`, which the table has to have.
abbrev pub reusing_stage : ScramUser → ℕ → Option TableName → Stage
reusing_stage user count None = stale_scram
reusing_stage user count (Some sr) = Reusing user sr count

abbrev pub proved_stage : Again → Option ScramUser → Stage
proved_stage again None = challenge_stage false
proved_stage again (Some user) = reusing_stage user again.count again.sr

abbrev pub stage_after_recall : List Entry → Attempt → Again → Reply → Stage
stage_after_recall store a again (reply.Session e) = proved_stage again (recalled_user store a e)
stage_after_recall store a again reply.Gone = challenge_stage false
stage_after_recall store a again _ = Mismatched

abbrev pub stage_after_reuse : ScramUser → Reply → Stage
stage_after_reuse user (reply.Fresh uses) = Authenticated user
stage_after_reuse user reply.Gone = stale_scram
stage_after_reuse user (reply.Behind high) = stale_scram
stage_after_reuse user reply.Repeated = stale_scram
stage_after_reuse user reply.OtherSession = challenge_stage false
stage_after_reuse user _ = Mismatched

abbrev pub stage_after_reply : Request → List Entry → ℕ → Stage → Reply → Stage
stage_after_reply request store shards (Issuing purpose words) r = stage_after_issue shards purpose words r
stage_after_reply request store shards (Peeking c nonce) r = stage_after_peek request c nonce r
stage_after_reply request store shards (Using v nonce) r = stage_after_use v r
stage_after_reply request store shards (Opening e words) r = stage_after_open shards e words r
stage_after_reply request store shards (Taking a) r = stage_after_take store a r
stage_after_reply request store shards (Keeping user) r = stage_after_keep user r
stage_after_reply request store shards (Recalling a again) r = stage_after_recall store a again r
stage_after_reply request store shards (Reusing user sr count) r = stage_after_reuse user r
stage_after_reply request store shards (Drawing purpose) r = Mismatched
stage_after_reply request store shards (Beginning e) r = Mismatched
stage_after_reply request store shards stage r = stage

abbrev pub stage_after : Question → Stage → Answer → Stage
stage_after q stage (Words words) = stage_after_words stage words
stage_after q stage (Replied r) = stage_after_reply q.request q.site.store q.shards stage r

-- the stage after these answers
abbrev pub stage_at : Question → List Answer → Stage
stage_at q answers = fold (stage_after q) (first_stage q) answers
