-- Who is admitted (RFC 7616 section 3.4.6).
use Rattle.std.specs.Prelude.{◌≡◌, ◌↔◌, ◌⊎◌, ℕ, ◌<◌, true, false, codes, List, [], ◌∷◌, ◌++◌, Option, Some, None, Ok, IfSome}
use Rattle.std.specs.Option.{option_and_then}
use Rattle.arrayvec.specs.ArrayVec.{ArrayVec}
use Rattle.auth_grammar.specs.Items.{SpellsCredentials}
use Rattle.auth_grammar.specs.Names.{has_repeat, same_name, params_of}
use Rattle.auth_grammar.specs.declared.items.Item.{Item}
use Rattle.cred_store.specs.LookUps.{secret_of}
use Rattle.digest_fields.specs.Credentials.{credentials_of}
use Rattle.digest_fields.specs.Nc.{nc_number}
use Rattle.nonce_shard.specs.History.{time_at}
use Rattle.nonce_shard.specs.Laws.{Uses}
use Rattle.nonce_shard.specs.Names.{name_text, IsName}
use Rattle.nonce_shard.specs.Nonces.{is_live, first_prime}
use Rattle.nonce_shard.specs.Replies.{answered, reply}
use Rattle.nonce_shard.specs.declared.calls.Call.{Call}
use Rattle.nonce_shard.specs.declared.calls.NonceKind.TheVariants.{Digest}
use Rattle.nonce_shard.specs.declared.calls.Reply.TheVariants.{Fresh}
use Rattle.nonce_shard.specs.declared.names.TableName.{TableName}
use Rattle.nonce_shard.specs.declared.sizes.Sizes.{Sizes}
use Rattle.spaces_map.specs.declared.space.Space.{Space}
use Rattle.auth_decide.specs.Asks.{asked}
use Rattle.auth_decide.specs.Candidates.{is_offered, user_of}
use Rattle.auth_decide.specs.Credentials.{Reads, credentials_lines}
use Rattle.auth_decide.specs.Paths.{correspond}
use Rattle.auth_decide.specs.Responses.{right_response}
use Rattle.auth_decide.specs.Stages.{Question, protection_space}
use Rattle.auth_decide.specs.declared.candidate.Candidate.{Candidate}
use Rattle.auth_decide.specs.declared.credentials.RequestCredentials.{RequestCredentials}
use Rattle.auth_decide.specs.declared.verdict.Ask.TheVariants as ask
use Rattle.auth_decide.specs.declared.verdict.Verdict.{Verdict}
use Rattle.admission.specs.Exchanges.{IsScramAdmitted}
use Rattle.admission.specs.Outcomes.{Admits, IsUnusedBehind}
use Rattle.admission.specs.Steps.{Step, Called, AreAsked, OnlyIssue, answers_of, calls_before_first, calls_before_nonce, is_peek}

-- A request is well-formed for a space, with these credentials: its one line of credentials spells one item of Digest whose
-- fields are accepted, the space that it is in asks for credentials, their `uri` is its target, the space offers their realm,
-- kind and quality of protection, and their user has a secret for that kind.
pub record IsWellFormed (q : Question) (space : Space) (c : Candidate) : Type 0 where
  pub line : List ℕ
  pub item : Item
  pub lines : credentials_lines q.role q.request ≡ line ∷ []
  pub spelled : SpellsCredentials line item
  pub single : has_repeat (params_of item.rest) ≡ false
  pub digest : same_name item.scheme (codes "Digest") ≡ true
  pub fields : credentials_of (params_of item.rest) ≡ Ok c.credentials
  pub in_space : protection_space q.role q.request q.site ≡ Some space
  pub uri : correspond c.credentials.uri q.request.target ≡ true
  pub offered : is_offered space c.credentials ≡ true
  pub user : user_of q.site.store c.credentials c.credentials.user ≡ Some c.user
  pub secret : secret_of c.user c.credentials.realm c.credentials.kind.alg q.site.store ≡ Some c.secret

-- ---- a nonce behind a list of the calls of its shard

-- It was issued for Digest and this space, is not too old, few enough were issued since, and few enough of its counts admitted.
abbrev pub IsLiveBehind : Sizes → Question → Space → TableName → List Call → Type 0
IsLiveBehind sizes q space nonce before =
    let past = answered sizes nonce.shard before in
    is_live sizes nonce.shard past nonce Digest space.number (time_at past q.moment) ≡ true

-- the client's nonce that began its session, if one has begun
abbrev pub prime_behind : Sizes → TableName → List Call → Option (ArrayVec ℕ)
prime_behind sizes nonce before = first_prime (answered sizes nonce.shard before) nonce

-- ---- the response

abbrev pub prime_or : List ℕ → Option (ArrayVec ℕ) → List ℕ
prime_or own None = own
prime_or own (Some prime) = prime.items

-- The client's nonce of a session is the one that began it, where the nonce is looked up, or else the one of this request.
abbrev pub prime_of : Sizes → Candidate → TableName → List Step → List ℕ
prime_of sizes c nonce steps = prime_or c.credentials.cnonce (option_and_then (prime_behind sizes nonce) (calls_before_first is_peek steps))

-- Well-formed credentials are valid by what was done: their nonce is one of the table's, their response is the value of
-- RFC 7616 section 3.4.1, and where it is used the nonce is live, the count unused, and of a session no other one has begun.
pub record AreValid (sizes : Sizes) (q : Question) (space : Space) (c : Candidate) (steps : List Step) : Type 0 where
  pub nonce : TableName
  pub named : c.credentials.nonce ≡ name_text nonce
  pub form : IsName nonce
  pub within : nonce.shard < q.shards
  pub right : c.credentials.response ≡ right_response q.request c (prime_of sizes c nonce steps)
  pub live : IfSome (calls_before_nonce steps) (λ before. IsLiveBehind sizes q space nonce before)
  pub unused : IfSome (calls_before_nonce steps) (λ before. IsUnusedBehind sizes nonce (nc_number c.credentials.nc) before)
  pub session : c.credentials.kind.session ≡ true
      → IfSome (calls_before_nonce steps)
      (λ before. IfSome (prime_behind sizes nonce before) (λ begun. begun.items ≡ prime_of sizes c nonce steps))

-- ---- the laws

-- Whatever was drawn, and behind whatever calls its own were answered, a well-formed request is admitted, as its user, exactly
-- where its credentials are valid.
abbrev pub AdmitsExactly : Type 0
AdmitsExactly = (sizes : Sizes) (q : Question) (space : Space) (c : Candidate) → IsWellFormed q space c
    → Reads (credentials_lines q.role q.request) q.credentials
    → (steps : List Step) → AreAsked sizes q steps → (verdict : Verdict) → asked q (answers_of sizes steps) ≡ ask.Verdict verdict
    → Admits c.user verdict ↔ AreValid sizes q space c steps

-- The last use was of this count of the nonce of this text, and was answered Fresh. After it came nothing but a draw and an issue.
pub record EndsFresh (sizes : Sizes) (text : List ℕ) (count : ℕ) (steps : List Step) : Type 0 where
  pub nonce : TableName
  pub named : text ≡ name_text nonce
  pub before : List Step
  pub calls : List Call
  pub call : Call
  pub after : List Step
  pub is : steps ≡ before ++ Called nonce.shard calls call ∷ after
  pub uses : Uses nonce count call.what
  pub number : ℕ
  pub fresh : reply sizes nonce.shard calls call ≡ Fresh number
  pub nothing_else : OnlyIssue after

-- Who is admitted by Digest sent a well-formed request, is its user, and had its count answered Fresh.
pub record IsDigestAdmitted (sizes : Sizes) (q : Question) (user : List ℕ) (steps : List Step) : Type 0 where
  pub space : Space
  pub candidate : Candidate
  pub well_formed : IsWellFormed q space candidate
  pub its_user : candidate.user ≡ user
  pub used : EndsFresh sizes candidate.credentials.nonce (nc_number candidate.credentials.nc) steps

-- by Digest, or by SCRAM-SHA-256
abbrev pub IsAdmitted : Sizes → Question → List ℕ → List Step → Type 0
IsAdmitted sizes q user steps = IsDigestAdmitted sizes q user steps ⊎ IsScramAdmitted sizes q user steps

abbrev pub AdmitsNoOther : Type 0
AdmitsNoOther = (sizes : Sizes) (q : Question) → Reads (credentials_lines q.role q.request) q.credentials
    → (steps : List Step) → AreAsked sizes q steps → (verdict : Verdict) → asked q (answers_of sizes steps) ≡ ask.Verdict verdict
    → (user : List ℕ) → Admits user verdict → IsAdmitted sizes q user steps

-- Lines are read in one way.
abbrev pub ReadsOneWay : Type 0
ReadsOneWay = (lines : List (List ℕ)) (one other : RequestCredentials) → Reads lines one → Reads lines other → one ≡ other
