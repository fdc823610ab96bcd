-- Who is admitted by SCRAM-SHA-256 (RFC 5802 sections 3 and 5.1, RFC 7804 section 5).
use Rattle.std.specs.Prelude.{◌≡◌, ◌↔◌, ◌⊎◌, ◌<◌, ℕ, true, false, nat_eq, codes, List, [], ◌∷◌, ◌++◌, Some, IfSome}
use Rattle.std.specs.List.{ends_with}
use Rattle.std.specs.Option.{option_and_then}
use Rattle.auth_grammar.specs.Items.{SpellsCredentials}
use Rattle.auth_grammar.specs.Names.{has_repeat, params_of, same_name, value_of}
use Rattle.auth_grammar.specs.declared.items.Item.{Item}
use Rattle.cred_store.specs.LookUps.{scram_of}
use Rattle.nonce_shard.specs.History.{time_at}
use Rattle.nonce_shard.specs.Names.{IsName, name_text}
use Rattle.nonce_shard.specs.Nonces.{is_live}
use Rattle.nonce_shard.specs.Replies.{answered, reply}
use Rattle.nonce_shard.specs.declared.calls.Call.{Call}
use Rattle.nonce_shard.specs.declared.calls.Exchange.{Exchange}
use Rattle.nonce_shard.specs.declared.calls.NonceKind.TheVariants.{Scram}
use Rattle.nonce_shard.specs.declared.calls.Reply.TheVariants.{Fresh, Session, Taken}
use Rattle.nonce_shard.specs.declared.names.TableName.{TableName}
use Rattle.nonce_shard.specs.declared.sizes.Sizes.{Sizes}
use Rattle.scram_proof.specs.Exchange.{Matches, auth_message}
use Rattle.scram_proof.specs.declared.keys.ScramKeys.{ScramKeys}
use Rattle.scram_text.specs.Bytes.{base64_bytes}
use Rattle.scram_text.specs.ClientFinals.{SpellsClientFinal}
use Rattle.scram_text.specs.ClientFirsts.{FirstParts, IsShort, SpellsClientFirst}
use Rattle.scram_text.specs.Items.{scram_scheme}
use Rattle.scram_text.specs.Reauths.{IsReauth}
use Rattle.scram_text.specs.ServerFirsts.{server_first_text}
use Rattle.spaces_map.specs.declared.space.Space.{Space}
use Rattle.auth_decide.specs.Asks.{asked, keep_of, recall_of, reuse_of, take_of}
use Rattle.auth_decide.specs.Challenges.{offers_scram}
use Rattle.auth_decide.specs.Credentials.{Reads, credentials_lines}
use Rattle.auth_decide.specs.Exchanges.{same_flag}
use Rattle.auth_decide.specs.Messages.{final_parts}
use Rattle.auth_decide.specs.Stages.{Question, protection_space}
use Rattle.auth_decide.specs.declared.scram_message.FinalMessage.{FinalMessage}
use Rattle.auth_decide.specs.declared.verdict.Ask.TheVariants as ask
use Rattle.auth_decide.specs.declared.verdict.Verdict.{Verdict}
use Rattle.admission.specs.Outcomes.{Admits, IsUnusedBehind}
use Rattle.admission.specs.Steps.{Step, Called, AreAsked, answers_of, calls_before_first, is_use}

-- A request brings a client-final for a space: its one line of credentials spells one item of SCRAM-SHA-256, whose `sid` is the
-- text of this name and whose `data` is the base64 of this message, and the space that it is in asks for credentials and offers
-- SCRAM-SHA-256.
pub record BringsFinal (q : Question) (space : Space) (sid : TableName) (message : FinalMessage) : Type 0 where
  pub line : List ℕ
  pub item : Item
  pub lines : credentials_lines q.role q.request ≡ line ∷ []
  pub spelled : SpellsCredentials line item
  pub single : has_repeat (params_of item.rest) ≡ false
  pub scram : same_name item.scheme scram_scheme ≡ true
  pub named : value_of (codes "sid") (params_of item.rest) ≡ Some (name_text sid)
  pub form : IsName sid
  pub text : List ℕ
  pub encoded : option_and_then base64_bytes (value_of (codes "data") (params_of item.rest)) ≡ Some text
  pub spells : SpellsClientFinal text (final_parts message)
  pub in_space : protection_space q.role q.request q.site ≡ Some space
  pub offered : offers_scram space.offers ≡ true

-- The message proves, in this exchange of this name, that it comes of this user: the exchange began with a client-first of the
-- user, who has keys in the realm, its flag is that of the message, and the message's proof is one of these keys over the
-- exchange's client-first, the server-first with the client's nonce and then the name, and the message (RFC 5802 section 3).
pub record Proves (q : Question) (space : Space) (sid : TableName) (message : FinalMessage) (e : Exchange) (user : List ℕ) : Type 0 where
  pub parts : FirstParts
  pub begun : SpellsClientFirst (codes "n,," ++ e.bare.items) parts
  pub short : IsShort parts
  pub its_name : parts.name ≡ user
  pub keys : ScramKeys
  pub keyed : scram_of parts.name space.realm q.site.store ≡ Some keys
  pub flag : same_flag message.flag e.flag ≡ true
  pub matches : Matches keys.stored
      (auth_message e.bare.items (server_first_text (parts.nonce ++ name_text sid) keys.salt.items keys.i) message.without) message.proof

-- It does so by the nonce of the exchange: the client's, and then the name.
pub record ProvesFirst (q : Question) (space : Space) (sid : TableName) (message : FinalMessage) (e : Exchange)
    (user : List ℕ) : Type 0 where
  pub proves : Proves q space sid message e user
  pub nonce : message.nonce ≡ proves.parts.nonce ++ name_text sid

-- ---- a first time

-- The nonce ends with the exchange's name.
abbrev pub NamesExchange : TableName → FinalMessage → Type 0
NamesExchange sid message = ends_with nat_eq message.nonce (name_text sid) ≡ true

-- The first thing that is done is to take the exchange's one try.
pub record Tries (q : Question) (space : Space) (sid : TableName) (steps : List Step) : Type 0 where
  pub before : List Call
  pub rest : List Step
  pub is : steps ≡ Called sid.shard before (take_of q.moment space sid) ∷ rest

-- the exchange that a try behind these calls gave
abbrev pub Gives : Sizes → Question → Space → TableName → List Call → Exchange → Type 0
Gives sizes q space sid before e = reply sizes sid.shard before (take_of q.moment space sid) ≡ Taken e

-- A client-final whose nonce ends with the name of its exchange takes that exchange's one try, and admits a user exactly where
-- the try gave the exchange and it proves the user in it.
abbrev pub TriesRightly : Sizes → Question → List Step → Verdict → Type 0
TriesRightly sizes q steps verdict = (space : Space) (sid : TableName) (message : FinalMessage) → BringsFinal q space sid message
    → sid.shard < q.shards → NamesExchange sid message
    → (t : Tries q space sid steps)
    × ((user : List ℕ)
    → Admits user verdict ↔ ((e : Exchange) × Gives sizes q space sid t.before e × ProvesFirst q space sid message e user))

-- So it is whatever was drawn, and behind whatever calls its own were answered.
abbrev pub AdmitsByTry : Type 0
AdmitsByTry = (sizes : Sizes) (q : Question) → Reads (credentials_lines q.role q.request) q.credentials
    → (steps : List Step) → AreAsked sizes q steps → (verdict : Verdict) → asked q (answers_of sizes steps) ≡ ask.Verdict verdict
    → TriesRightly sizes q steps verdict

-- ---- again

-- The nonce is a client's part, a count and this `sr` (RFC 7804 section 5.1), and doesn't end with the exchange's name.
pub record CountsAgain (sid : TableName) (message : FinalMessage) (count : ℕ) (sr : List ℕ) : Type 0 where
  pub other : ends_with nat_eq message.nonce (name_text sid) ≡ false
  pub client : List ℕ
  pub is : IsReauth message.nonce client count sr

-- The first thing that is done is to look the finished exchange up.
pub record Recalls (q : Question) (space : Space) (sid : TableName) (steps : List Step) : Type 0 where
  pub before : List Call
  pub rest : List Step
  pub is : steps ≡ Called sid.shard before (recall_of q.moment space sid) ∷ rest

-- the finished exchange that is recalled behind these calls
abbrev pub Recalled : Sizes → Question → Space → TableName → List Call → Exchange → Type 0
Recalled sizes q space sid before e = reply sizes sid.shard before (recall_of q.moment space sid) ≡ Session e

-- The `sr` was issued for SCRAM and this space, is not too old, and few enough were issued since and counts of it admitted.
abbrev pub IsSrLive : Sizes → Question → Space → TableName → List Call → Type 0
IsSrLive sizes q space sr before =
    let past = answered sizes sr.shard before in
    is_live sizes sr.shard past sr Scram space.number (time_at past q.moment) ≡ true

-- The `sr` is the text of a name that the table may have, and where its count is used it is live and the count unused.
pub record IsSrGood (sizes : Sizes) (q : Question) (space : Space) (count : ℕ) (text : List ℕ) (steps : List Step) : Type 0 where
  pub sr : TableName
  pub named : text ≡ name_text sr
  pub form : IsName sr
  pub within : sr.shard < q.shards
  pub live : IfSome (calls_before_first is_use steps) (λ before. IsSrLive sizes q space sr before)
  pub unused : IfSome (calls_before_first is_use steps) (λ before. IsUnusedBehind sizes sr count before)

-- A client-final that uses an exchange again has it looked up, and admits a user exactly where it is a finished one and the
-- client-final proves the user in it, by a live `sr` and an unused count of it.
abbrev pub ReusesRightly : Sizes → Question → List Step → Verdict → Type 0
ReusesRightly sizes q steps verdict = (space : Space) (sid : TableName) (message : FinalMessage) → BringsFinal q space sid message
    → sid.shard < q.shards → (count : ℕ) (sr : List ℕ) → CountsAgain sid message count sr
    → (r : Recalls q space sid steps)
    × ((user : List ℕ) → Admits user verdict
    ↔ ((e : Exchange) × Recalled sizes q space sid r.before e × Proves q space sid message e user × IsSrGood sizes q space count sr r.rest))

-- So it is whatever was drawn, and behind whatever calls its own were answered.
abbrev pub AdmitsAgain : Type 0
AdmitsAgain = (sizes : Sizes) (q : Question) → Reads (credentials_lines q.role q.request) q.credentials
    → (steps : List Step) → AreAsked sizes q steps → (verdict : Verdict) → asked q (answers_of sizes steps) ≡ ask.Verdict verdict
    → ReusesRightly sizes q steps verdict

-- ---- no other

-- The try was taken, which gave an exchange in which the user is proved, and the exchange was to be kept. Nothing else was done.
pub record EndsKept (sizes : Sizes) (q : Question) (space : Space) (sid : TableName) (message : FinalMessage)
    (user : List ℕ) (steps : List Step) : Type 0 where
  pub before : List Call
  pub kept : List Call
  pub is : steps ≡ Called sid.shard before (take_of q.moment space sid) ∷ Called sid.shard kept (keep_of q.moment space sid) ∷ []
  pub exchange : Exchange
  pub taken : Gives sizes q space sid before exchange
  pub proves : ProvesFirst q space sid message exchange user

-- A finished exchange was looked up, in which the user is proved, and a count of an `sr` was used and answered Fresh. Nothing
-- else was done.
pub record EndsReused (sizes : Sizes) (q : Question) (space : Space) (sid : TableName) (message : FinalMessage)
    (user : List ℕ) (steps : List Step) : Type 0 where
  pub count : ℕ
  pub text : List ℕ
  pub counts : CountsAgain sid message count text
  pub sr : TableName
  pub named : text ≡ name_text sr
  pub before : List Call
  pub calls : List Call
  pub is : steps ≡ Called sid.shard before (recall_of q.moment space sid) ∷ Called sr.shard calls (reuse_of q.moment space sr count) ∷ []
  pub exchange : Exchange
  pub recalled : Recalled sizes q space sid before exchange
  pub proves : Proves q space sid message exchange user
  pub number : ℕ
  pub fresh : reply sizes sr.shard calls (reuse_of q.moment space sr count) ≡ Fresh number

-- Who is admitted by SCRAM-SHA-256 sent a client-final, and is proved in an exchange that it took or used again.
pub record IsScramAdmitted (sizes : Sizes) (q : Question) (user : List ℕ) (steps : List Step) : Type 0 where
  pub space : Space
  pub sid : TableName
  pub message : FinalMessage
  pub brings : BringsFinal q space sid message
  pub ended : EndsKept sizes q space sid message user steps ⊎ EndsReused sizes q space sid message user steps
