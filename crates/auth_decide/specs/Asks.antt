-- What each stage of a decision asks, and how it ends.
use Rattle.std.specs.Prelude.{ℕ, if◌then◌else◌, List, [], Option, Some, None}
use Rattle.auth_grammar.specs.declared.items.Role.{Role}
use Rattle.arrayvec.specs.ArrayVec.{ArrayVec}
use Rattle.digest_fields.specs.Nc.{nc_number}
use Rattle.nonce_shard.specs.Names.{name_text}
use Rattle.nonce_shard.specs.declared.calls.Call.{Call}
use Rattle.nonce_shard.specs.declared.calls.NonceKind.TheVariants as kind
use Rattle.nonce_shard.specs.declared.calls.What.TheVariants.{Issue, Peek, Use, Open as OpenExchange, Take, Keep, Recall}
use Rattle.nonce_shard.specs.declared.names.TableName.{TableName}
use Rattle.spaces_map.specs.declared.space.Space.{Space}
use Rattle.auth_decide.specs.Challenges.{continue_item, items_of, nonce_kind}
use Rattle.auth_decide.specs.Infos.{proof_of, scram_proof_of}
use Rattle.auth_decide.specs.Stages.{Answer, Question, protection_space, shard_for, stage_at}
use Rattle.auth_decide.specs.VerifiedCredentials.{VerifiedCredentials}
use Rattle.auth_decide.specs.declared.challenges.Stale.TheVariants as stale
use Rattle.auth_decide.specs.declared.scram_exchange.NewExchange.{NewExchange}
use Rattle.auth_decide.specs.declared.scram_exchange.ScramUser.{ScramUser}
use Rattle.auth_decide.specs.declared.stages.Purpose.{Purpose}
use Rattle.auth_decide.specs.declared.stages.Purpose.TheVariants as purpose
use Rattle.auth_decide.specs.declared.stages.Stage.{Stage}
use Rattle.auth_decide.specs.declared.stages.Stage.TheVariants as stage
use Rattle.auth_decide.specs.declared.verdict.Ask.{Ask}
use Rattle.auth_decide.specs.declared.verdict.Ask.TheVariants.{Draw, Table, Verdict}
use Rattle.auth_decide.specs.declared.verdict.Verdict.{Verdict as VerdictValue}
use Rattle.auth_decide.specs.declared.verdict.Verdict.TheVariants.{Admit, Open, Challenge, Continue, Bad}

-- ---- calls: each has the request's moment and the space's number

abbrev pub issue : ℕ → Space → List ℕ → Call
issue moment space words = record { moment = moment; what = Issue (nonce_kind space.offers) space.number words }

abbrev pub peek : ℕ → Space → TableName → Call
peek moment space nonce = record { moment = moment; what = Peek nonce space.number }

-- A use gives the client's nonce that began the session, and none for another kind.
abbrev pub given_prime : VerifiedCredentials → Option (ArrayVec ℕ)
given_prime v = if v.candidate.credentials.kind.session then Some v.prime else None

abbrev pub use_of : ℕ → Space → TableName → VerifiedCredentials → Call
use_of moment space nonce v =
    record { moment = moment; what = Use nonce kind.Digest space.number (nc_number v.candidate.credentials.nc) (given_prime v) }

-- a new exchange
abbrev pub open_of : ℕ → Space → NewExchange → List ℕ → Call
open_of moment space e words = record { moment = moment; what = OpenExchange space.number words e.exchange }

abbrev pub take_of : ℕ → Space → TableName → Call
take_of moment space sid = record { moment = moment; what = Take sid space.number }

abbrev pub keep_of : ℕ → Space → TableName → Call
keep_of moment space sid = record { moment = moment; what = Keep sid space.number }

abbrev pub recall_of : ℕ → Space → TableName → Call
recall_of moment space sid = record { moment = moment; what = Recall sid space.number }

-- a use of an `sr`
abbrev pub reuse_of : ℕ → Space → TableName → ℕ → Call
reuse_of moment space sr count = record { moment = moment; what = Use sr kind.Scram space.number count None }

-- ---- verdicts

abbrev pub scram_admission : ScramUser → VerdictValue
scram_admission user = Admit user.name (scram_proof_of user)

abbrev pub admission : VerifiedCredentials → Option (List ℕ) → VerdictValue
admission v next = Admit v.candidate.user (proof_of v next)

-- what a new nonce of this text is for
abbrev pub verdict_with : Role → Space → Purpose → List ℕ → VerdictValue
verdict_with role space purpose.Offer nonce = Open (items_of role space nonce stale.Nothing)
verdict_with role space (purpose.Challenge s) nonce = Challenge (items_of role space nonce s)
verdict_with role space (purpose.Next v) nonce = admission v (Some nonce)

-- ---- asks

abbrev pub ask_at : Role → ℕ → ℕ → Space → Stage → Ask
ask_at role moment shards space stage.Open = Verdict (Open [])
ask_at role moment shards space (stage.Bad why) = Verdict (Bad why)
ask_at role moment shards space (stage.Drawing purpose) = Draw
ask_at role moment shards space (stage.Issuing purpose words) = Table (shard_for shards words) (issue moment space words)
ask_at role moment shards space (stage.Issued purpose nonce) = Verdict (verdict_with role space purpose (name_text nonce))
ask_at role moment shards space (stage.Peeking c nonce) = Table nonce.shard (peek moment space nonce)
ask_at role moment shards space (stage.Using v nonce) = Table nonce.shard (use_of moment space nonce v)
ask_at role moment shards space (stage.Admitted v) = Verdict (admission v None)
ask_at role moment shards space (stage.Beginning e) = Draw
ask_at role moment shards space (stage.Opening e words) = Table (shard_for shards words) (open_of moment space e words)
ask_at role moment shards space (stage.Continued e sid) = Verdict (Continue (continue_item e sid))
ask_at role moment shards space (stage.Taking a) = Table a.sid.shard (take_of moment space a.sid)
ask_at role moment shards space (stage.Keeping user) = Table user.sid.shard (keep_of moment space user.sid)
ask_at role moment shards space (stage.Recalling a again) = Table a.sid.shard (recall_of moment space a.sid)
ask_at role moment shards space (stage.Reusing user sr count) = Table sr.shard (reuse_of moment space sr count)
ask_at role moment shards space (stage.Authenticated user) = Verdict (scram_admission user)
ask_at role moment shards space stage.Mismatched = Verdict (Challenge [])

-- Without a space that asks for credentials the request is open.
abbrev pub ask_in : Question → Option Space → Stage → Ask
ask_in q None s = Verdict (Open [])
ask_in q (Some space) s = ask_at q.role q.moment q.shards space s

-- what is asked at a stage
abbrev pub next_ask : Question → Stage → Ask
next_ask q s = ask_in q (protection_space q.role q.request q.site) s

-- what is asked after these answers
unfoldable pub asked : Question → List Answer → Ask
asked q answers = next_ask q (stage_at q answers)
