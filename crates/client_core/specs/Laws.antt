-- What holds of every client.
use Rattle.std.specs.Prelude.{◌≡◌, ◌≢◌, ◌⊎◌, ◌↔◌, ℕ, List, [], ◌∷◌, codes, Option, Some, None, Result, Ok}
use Rattle.std.specs.List.{join_with_byte}
use Rattle.auth_grammar.specs.Names.{params_of, value_of}
use Rattle.auth_grammar.specs.RoleFields.{info_name}
use Rattle.auth_grammar.specs.declared.items.Item.{Item}
use Rattle.auth_grammar.specs.declared.items.Param.{Param}
use Rattle.auth_hash.specs.declared.algorithm.Qop.{Qop}
use Rattle.digest_fields.specs.Credentials.{Credentials, credentials_of}
use Rattle.digest_fields.specs.Field.{given}
use Rattle.digest_fields.specs.Info.{Info, info_of}
use Rattle.digest_fields.specs.declared.field.FieldName.TheVariants as field
use Rattle.scram_text.specs.Bytes.{base64_bytes}
use Rattle.scram_text.specs.ServerFinals.{SpellsServerFinal, signed}
use Rattle.http_wire.specs.declared.response.Response.{Response}
use Rattle.client_core.specs.declared.outcome.Outcome.{Outcome}
use Rattle.client_core.specs.declared.outcome.Outcome.TheVariants.{Mutual}
use Rattle.client_core.specs.declared.request.OutRequest.{OutRequest}
use Rattle.client_core.specs.declared.request.Sent.{Sent}
use Rattle.client_core.specs.declared.request.Sent.TheVariants as sent
use Rattle.client_core.specs.declared.state.Exchange.{Exchange}
use Rattle.client_core.specs.declared.state.Progress.TheVariants.{Answered, Finished}
use Rattle.client_core.specs.declared.state.State.{State}
use Rattle.client_core.specs.declared.state.User.{User}
use Rattle.client_core.specs.Clients.{Concludes}
use Rattle.client_core.specs.Conclusions.{answered_body, right_value}
use Rattle.client_core.specs.Digests.{DrewAtMost}
use Rattle.client_core.specs.Givings.{given as given_of}
use Rattle.client_core.specs.ScramConclusions.{signature_for}
use Rattle.client_core.specs.Scrams.{again_nonce, final_item}
use Rattle.client_core.specs.Readings.{SpellsInfo, challenge_status, lines_of}

-- ---- when a server has proved itself

-- a value is absent, or it is this one
abbrev pub IsAbsentOr : {A : Type 0} → Option A → A → Type 0
IsAbsentOr given value = (given ≡ None) ⊎ (given ≡ Some value)

-- The parameters have the value of RFC 7616 section 3.5 for the credentials of this item, which only who knows the
-- user's secret can make, and what they repeat of the credentials is as it was sent.
pub record ProvesDigest (user : User) (request : OutRequest) (item : Item) (response : Response) (params : List Param) : Type 0 where
  pub credentials : Credentials
  pub info : Info
  pub credentials_are : credentials_of (params_of item.rest) ≡ Ok credentials
  pub info_is : info_of params ≡ Ok info
  pub value : info.rspauth ≡ Some (right_value user credentials (answered_body request response))
  pub qop : IsAbsentOr info.qop credentials.qop
  pub cnonce : IsAbsentOr info.cnonce credentials.cnonce
  pub nc : IsAbsentOr info.nc credentials.nc

-- The parameters have in `data`, as base64, a message with the signature of RFC 5802 section 3 for this exchange with
-- this nonce, which only who knows the user's keys can make.
pub record ProvesScram (x : Exchange) (nonce : List ℕ) (params : List Param) : Type 0 where
  pub message : List ℕ
  pub text : List ℕ
  pub there : value_of (codes "data") params ≡ Some message
  pub decodes : base64_bytes message ≡ Some text
  pub signature : SpellsServerFinal text (signed (signature_for x nonce))

-- the same of the exchange that waits for it
pub record ProvesFinal (s : State) (params : List Param) : Type 0 where
  pub exchange : Exchange
  pub sent : s.progress ≡ Answered exchange
  pub proof : ProvesScram exchange exchange.nonce params

-- the same of the exchange that was used again
pub record ProvesAgain (s : State) (params : List Param) : Type 0 where
  pub exchange : Exchange
  pub nonce : List ℕ
  pub sent : s.progress ≡ Finished exchange nonce
  pub proof : ProvesScram exchange nonce params

-- the parameters are the server's proof for what was sent
abbrev pub IsProof : State → OutRequest → Sent → Response → List Param → Type 0
IsProof s request (sent.Digest item) response params = ProvesDigest s.user request item response params
IsProof s request sent.Nothing response params = ⊥
IsProof s request (sent.ScramFirst item) response params = ⊥
IsProof s request (sent.ScramFinal item) response params = ProvesFinal s params
IsProof s request (sent.ScramAgain item) response params = ProvesAgain s params

-- a response that is no challenge carries the server's proof for what was sent
pub record Proves (s : State) (request : OutRequest) (what : Sent) (response : Response) : Type 0 where
  pub no_challenge : response.status ≢ challenge_status s.role
  pub params : List Param
  pub there : lines_of response (info_name s.role) ≢ []
  pub spelled : SpellsInfo (join_with_byte 44 (lines_of response (info_name s.role))) params
  pub proof : IsProof s request what response params

-- Mutual is told exactly where the server has proved itself.
abbrev pub MutualExactly : Type 0
MutualExactly = (s t : State) (request : OutRequest) (what : Sent) (response : Response) (moment : ℕ) (outcome : Outcome)
    → Concludes s request what response moment outcome t → (outcome ≡ Mutual) ↔ Proves s request what response

-- ---- what is never given twice

-- what a call leaves of a client
pub data Call : Type 0 where
  -- it gave these credentials
  Gave : (request : OutRequest) (moment : ℕ) (words : List ℕ) (what : Sent) → Call
  -- it gave none, for want of memory
  Failed : Call
  -- it asked for none, as `on_response` and `forget`
  Other : Call

abbrev pub Leaves : State → Call → State → Type 0
Leaves s (Gave request moment words what) t = given_of s request moment words ≡ (what, t)
Leaves s Failed t = DrewAtMost s t
Leaves s Other t = t.drawn ≡ s.drawn

-- what calls leave, one behind the other
abbrev pub Leave : State → List Call → State → Type 0
Leave s [] t = t ≡ s
Leave s (call ∷ calls) t = (u : State) × Leaves s call u × Leave u calls t

-- the nonce and the count of credentials
abbrev pub Use : Type 0
Use = Option (List ℕ) × Option (List ℕ)

abbrev pub use_in : List Param → Use
use_in params = (given field.Nonce params, given field.Nc params)

-- those of the credentials that were given
abbrev pub uses : List Call → List Use
uses [] = []
uses (Gave request moment words (sent.Digest item) ∷ calls) = use_in (params_of item.rest) ∷ uses calls
uses (Gave request moment words sent.Nothing ∷ calls) = uses calls
uses (Gave request moment words (sent.ScramFirst item) ∷ calls) = uses calls
uses (Gave request moment words (sent.ScramFinal item) ∷ calls) = uses calls
uses (Gave request moment words (sent.ScramAgain item) ∷ calls) = uses calls
uses (Failed ∷ calls) = uses calls
uses (Other ∷ calls) = uses calls

-- none of the others is this one
abbrev pub IsOther : {A : Type 0} → A → List A → Type 0
IsOther one [] = Unit {0}
IsOther one (other ∷ more) = (one ≢ other) × IsOther one more

-- no two of them are one
abbrev pub AreDistinct : {A : Type 0} → List A → Type 0
AreDistinct [] = Unit {0}
AreDistinct (one ∷ more) = IsOther one more × AreDistinct more

-- No nonce is given with one count twice.
abbrev pub GivesOnce : Type 0
GivesOnce = (s t : State) (calls : List Call) → Leave s calls t → AreDistinct (uses calls)

-- ---- the same of an `sr`

-- an `sr` and a count of it, by which an exchange is used again (RFC 7804 section 5.1)
pub record SrUse : Type 0 where
  pub sr : List ℕ
  pub count : ℕ

-- The item is a final message whose nonce is the base64 of the words, this count, and this `sr`.
pub record UsesSr (words : List ℕ) (item : Item) (one : SrUse) : Type 0 where
  pub exchange : Exchange
  pub is : item ≡ final_item exchange (again_nonce one.sr one.count words)

-- those of the credentials that were given, in order
abbrev pub UseSrs : List Call → List SrUse → Type 0
UseSrs [] uses = uses ≡ []
UseSrs (Gave request moment words (sent.ScramAgain item) ∷ calls) uses =
    (one : SrUse) × (more : List SrUse) × (uses ≡ one ∷ more) × UsesSr words item one × UseSrs calls more
UseSrs (Gave request moment words sent.Nothing ∷ calls) uses = UseSrs calls uses
UseSrs (Gave request moment words (sent.Digest item) ∷ calls) uses = UseSrs calls uses
UseSrs (Gave request moment words (sent.ScramFirst item) ∷ calls) uses = UseSrs calls uses
UseSrs (Gave request moment words (sent.ScramFinal item) ∷ calls) uses = UseSrs calls uses
UseSrs (Failed ∷ calls) uses = UseSrs calls uses
UseSrs (Other ∷ calls) uses = UseSrs calls uses

-- No `sr` is given with one count twice.
abbrev pub GivesSrOnce : Type 0
GivesSrOnce = (s t : State) (calls : List Call) → Leave s calls t → (uses : List SrUse) × UseSrs calls uses × AreDistinct uses
