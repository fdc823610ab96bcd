-- What credentials of SCRAM-SHA-256 say (RFC 7804 section 5, RFC 5802 section 7).
use Rattle.std.specs.Prelude.{◌≡◌, ℕ, Bool, true, false, nat_eq, if◌then◌else◌, List, Option, Some, None, codes}
use Rattle.std.specs.List.{starts_with}
use Rattle.std.specs.Option.{option_and_then}
use Rattle.auth_grammar.specs.Names.{params_of, same_name, value_of}
use Rattle.auth_grammar.specs.declared.items.Param.{Param}
use Rattle.nonce_shard.specs.Names.{name_text, IsName}
use Rattle.nonce_shard.specs.declared.calls.ExchangeFlag.{ExchangeFlag}
use Rattle.nonce_shard.specs.declared.calls.ExchangeFlag.TheVariants as exchange
use Rattle.nonce_shard.specs.declared.names.TableName.{TableName}
use Rattle.scram_text.specs.Bytes.{base64_bytes}
use Rattle.scram_text.specs.ClientFinals.{ClientFinalParts, SpellsClientFinal}
use Rattle.scram_text.specs.ClientFirsts.{FirstParts, IsShort, SpellsClientFirst}
use Rattle.scram_text.specs.Items.{scram_scheme}
use Rattle.scram_text.specs.Reauths.{IsReauth}
use Rattle.scram_text.specs.declared.flag.Flag.{Flag}
use Rattle.scram_text.specs.declared.flag.Flag.TheVariants.{N, Y}
use Rattle.auth_decide.specs.declared.credentials.CredentialsField.{CredentialsField}
use Rattle.auth_decide.specs.declared.credentials.CredentialsField.TheVariants as field
use Rattle.auth_decide.specs.declared.scram_message.Again.{Again}
use Rattle.auth_decide.specs.declared.scram_message.FinalMessage.{FinalMessage}
use Rattle.auth_decide.specs.declared.scram_message.FirstMessage.{FirstMessage}
use Rattle.auth_decide.specs.declared.scram_message.ScramMessage.{ScramMessage}
use Rattle.auth_decide.specs.declared.scram_message.ScramMessage.TheVariants.{Absent, Malformed, WithoutSid, First, Final}

-- The text is that of a name of the nonce table, or of none.
abbrev pub Names : List ℕ → Option TableName → Type 0
Names text (Some name) = (text ≡ name_text name) × IsName name
Names text None = (name : TableName) → IsName name → text ≡ name_text name → ⊥

-- ---- a client-first

abbrev pub exchange_flag : Flag → ExchangeFlag
exchange_flag N = exchange.N
exchange_flag Y = exchange.Y

abbrev pub first_message : Option (List ℕ) → FirstParts → FirstMessage
first_message realm parts = record {
  realm = realm;
  name = parts.name;
  nonce = parts.nonce;
  exchange = record { flag = exchange_flag parts.flag; bare = record { items = parts.bare } };
}

-- the text is this client-first and no other, which is taken, and stands beside this realm
pub record IsFirst (realm : Option (List ℕ)) (text : List ℕ) (message : FirstMessage) : Type 0 where
  pub parts : FirstParts
  pub spells : SpellsClientFirst text parts
  pub only : (other : FirstParts) → SpellsClientFirst text other → other ≡ parts
  pub short : IsShort parts
  pub is : message ≡ first_message realm parts

abbrev pub IsNoFirst : List ℕ → Type 0
IsNoFirst text = (parts : FirstParts) → SpellsClientFirst text parts → IsShort parts → ⊥

-- ---- a client-final

abbrev pub final_parts : FinalMessage → ClientFinalParts
final_parts m = record { flag = m.flag; nonce = m.nonce; without = m.without; proof = m.proof }

-- how often the nonce says that an exchange is used again, and which `sr` (RFC 7804 section 5.1)
abbrev pub SaysAgain : List ℕ → Option Again → Type 0
SaysAgain nonce (Some again) = (client : List ℕ) × (sr : List ℕ) × IsReauth nonce client again.count sr × Names sr again.sr
SaysAgain nonce None = (client : List ℕ) (count : ℕ) (sr : List ℕ) → IsReauth nonce client count sr → ⊥

-- the text is this client-final and no other, beside this `sid`
pub record IsFinal (sid text : List ℕ) (named : Option TableName) (message : FinalMessage) (again : Option Again) : Type 0 where
  pub spells : SpellsClientFinal text (final_parts message)
  pub only : (other : ClientFinalParts) → SpellsClientFinal text other → other ≡ final_parts message
  pub names : Names sid named
  pub reuse : SaysAgain message.nonce again

abbrev pub IsNoFinal : List ℕ → Type 0
IsNoFinal text = (parts : ClientFinalParts) → SpellsClientFinal text parts → ⊥

-- ---- what `data` says

-- Beside a `sid` stands a client-final.
abbrev pub FinalSays : List ℕ → List ℕ → ScramMessage → Type 0
FinalSays sid text (Final named message again) = IsFinal sid text named message again
FinalSays sid text Malformed = IsNoFinal text
FinalSays sid text _ = ⊥

-- Without one stands a client-first, or a client-final that misses it.
abbrev pub FirstSays : Option (List ℕ) → List ℕ → ScramMessage → Type 0
FirstSays realm text (First message) = IsFirst realm text message
FirstSays realm text Malformed = IsNoFirst text
FirstSays realm text _ = ⊥

abbrev pub MissesSid : Bool → Option (List ℕ) → List ℕ → ScramMessage → Type 0
MissesSid true realm text message = message ≡ WithoutSid
MissesSid false realm text message = FirstSays realm text message

abbrev pub TextSays : Option (List ℕ) → Option (List ℕ) → List ℕ → ScramMessage → Type 0
TextSays (Some sid) realm text message = FinalSays sid text message
TextSays None realm text message = MissesSid (starts_with nat_eq text (codes "c=")) realm text message

-- `data` has to be there, and strict base64
abbrev pub DataSays : Option (List ℕ) → Option (List ℕ) → Option (List ℕ) → ScramMessage → Type 0
DataSays sid realm None message = message ≡ Malformed
DataSays sid realm (Some text) message = TextSays sid realm text message

-- what the parameters say
abbrev pub ParamsSay : List Param → ScramMessage → Type 0
ParamsSay params message = DataSays (value_of (codes "sid") params) (value_of (codes "realm") params)
    (option_and_then base64_bytes (value_of (codes "data") params)) message

-- ---- what a field says

-- the parameters of credentials of SCRAM-SHA-256
abbrev pub scram_params : CredentialsField → Option (List Param)
scram_params field.Absent = None
scram_params field.Malformed = None
scram_params (field.Item item) = if same_name item.scheme scram_scheme then Some (params_of item.rest) else None

abbrev pub SaysMessage : Option (List Param) → ScramMessage → Type 0
SaysMessage None message = message ≡ Absent
SaysMessage (Some params) message = ParamsSay params message
