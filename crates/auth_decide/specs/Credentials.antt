-- The credentials of a request, as the lines of their field say them (RFC 9110 sections 11.4, 11.6.2 and 11.7.2).
use Rattle.std.specs.Prelude.{◌≡◌, ℕ, false, if◌then◌else◌, List, [], ◌∷◌, Result, Ok, Err, codes, ⊤}
use Rattle.auth_grammar.specs.Names.{has_repeat, params_of, same_name}
use Rattle.auth_grammar.specs.Answers.{Refuses}
use Rattle.auth_grammar.specs.Items.{SpellsCredentials}
use Rattle.auth_grammar.specs.RoleFields.{credentials_field}
use Rattle.auth_grammar.specs.declared.error.GrammarError.{GrammarError}
use Rattle.auth_grammar.specs.declared.error.GrammarError.TheVariants.{NotGrammar, Twice, OutOfMemory}
use Rattle.auth_grammar.specs.declared.grammar.Grammar.TheVariants as Of
use Rattle.auth_grammar.specs.declared.items.Item.{Item}
use Rattle.auth_grammar.specs.declared.items.Role.{Role}
use Rattle.http_wire.specs.Fields.{values_of}
use Rattle.http_wire.specs.declared.request.Request.{Request}
use Rattle.digest_fields.specs.Credentials.{Credentials, credentials_of}
use Rattle.digest_fields.specs.declared.field.FieldError.{FieldError}
use Rattle.scram_text.specs.Items.{scram_scheme}
use Rattle.auth_decide.specs.Messages.{Names, SaysMessage, scram_params}
use Rattle.auth_decide.specs.declared.credentials.CredentialsField.{CredentialsField}
use Rattle.auth_decide.specs.declared.credentials.CredentialsField.TheVariants as field
use Rattle.auth_decide.specs.declared.credentials.Presented.{Presented}
use Rattle.auth_decide.specs.declared.credentials.Presented.TheVariants.{Nothing, Malformed, OtherScheme, Digest, Scram}
use Rattle.auth_decide.specs.declared.credentials.RequestCredentials.{RequestCredentials}
use Rattle.auth_decide.specs.declared.verdict.Why.TheVariants as why

-- ---- the lines

-- the lines of the field with the credentials for a role
abbrev pub credentials_lines : Role → Request → List (List ℕ)
credentials_lines role request = values_of request.fields (credentials_field role)

-- the line spells this item and no other, and no parameter comes twice in it
pub record SpellsOne (line : List ℕ) (item : Item) : Type 0 where
  pub spelled : SpellsCredentials line item
  pub only : (other : Item) → SpellsCredentials line other → other ≡ item
  pub single : has_repeat (params_of item.rest) ≡ false

-- a fault of the text, and not want of memory
abbrev pub IsFault : GrammarError → Type 0
IsFault (NotGrammar at) = ⊤
IsFault (Twice at name) = ⊤
IsFault OutOfMemory = ⊥

-- what the lines say
abbrev pub LinesSay : List (List ℕ) → CredentialsField → Type 0
LinesSay [] says = says ≡ field.Absent
LinesSay (line ∷ []) (field.Item item) = SpellsOne line item
LinesSay (line ∷ []) field.Malformed = (error : GrammarError) × IsFault error × Refuses Of.Credentials line error
LinesSay (line ∷ []) field.Absent = ⊥
LinesSay (line ∷ next ∷ lines) says = says ≡ field.Malformed

-- ---- what is presented

abbrev pub presented_digest : Result Credentials FieldError → Presented
presented_digest (Ok credentials) = Digest credentials
presented_digest (Err error) = Malformed why.Field

abbrev pub other_scheme : Item → Presented
other_scheme item = if same_name item.scheme scram_scheme then Scram else OtherScheme

abbrev pub presented : CredentialsField → Presented
presented field.Absent = Nothing
presented field.Malformed = Malformed why.Credentials
presented (field.Item item) =
    if same_name item.scheme (codes "Digest") then presented_digest (credentials_of (params_of item.rest))
    else other_scheme item

-- the nonce of Digest credentials, and an empty text where there are none
abbrev pub nonce_in : Presented → List ℕ
nonce_in (Digest credentials) = credentials.nonce
nonce_in Nothing = []
nonce_in (Malformed why) = []
nonce_in OtherScheme = []
nonce_in Scram = []

-- what the lines say, which name of the nonce table the nonce is, and what they say in SCRAM-SHA-256
pub record Reads (lines : List (List ℕ)) (credentials : RequestCredentials) : Type 0 where
  pub field : LinesSay lines credentials.field
  pub nonce : Names (nonce_in (presented credentials.field)) credentials.nonce
  pub scram : SaysMessage (scram_params credentials.field) credentials.scram
