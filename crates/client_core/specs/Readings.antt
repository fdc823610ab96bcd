-- What the fields of a response say (RFC 9110 sections 11.6 and 11.7, RFC 7615).
use Rattle.std.specs.Prelude.{◌≡◌, ◌≢◌, ◌<◌, ◌^◌, ℕ, Bool, true, false, IsTrue, List, [], ◌∷◌, length, ⊤}
use Rattle.std.specs.List.{join_with_byte, list_all}
use Rattle.auth_grammar.specs.Answers.{Refuses}
use Rattle.auth_grammar.specs.Items.{SpellsChallenges, SpellsParams}
use Rattle.auth_grammar.specs.Names.{has_repeat, lower}
use Rattle.auth_grammar.specs.Repeats.{HaveSingleNames}
use Rattle.auth_grammar.specs.RoleFields.{challenge_name, info_name}
use Rattle.auth_grammar.specs.Valid.{are_valid_params, is_valid}
use Rattle.auth_grammar.specs.declared.error.GrammarError.{GrammarError}
use Rattle.auth_grammar.specs.declared.error.GrammarError.TheVariants.{NotGrammar, Twice, OutOfMemory}
use Rattle.auth_grammar.specs.declared.grammar.Grammar.{Grammar}
use Rattle.auth_grammar.specs.declared.grammar.Grammar.TheVariants as Of
use Rattle.auth_grammar.specs.declared.items.Item.{Item}
use Rattle.auth_grammar.specs.declared.items.Param.{Param}
use Rattle.auth_grammar.specs.declared.items.Role.{Role}
use Rattle.auth_grammar.specs.declared.items.Role.TheVariants.{Origin, Proxy}
use Rattle.http_wire.specs.Fields.{values_of}
use Rattle.http_wire.specs.declared.response.Response.{Response}
use Rattle.client_core.specs.declared.reading.Said.{Said}
use Rattle.client_core.specs.declared.reading.Said.TheVariants.{Challenge, Info, Nothing, Malformed}
use Rattle.client_core.specs.declared.request.Sent.{Sent}
use Rattle.client_core.specs.declared.request.Sent.TheVariants as sent

-- the status of a challenge
abbrev pub challenge_status : Role → ℕ
challenge_status Origin = 401
challenge_status Proxy = 407

-- ---- what they say

-- a fault of a text, at that place
abbrev pub IsFaultAt : ℕ → GrammarError → Type 0
IsFaultAt at (NotGrammar place) = place ≡ at
IsFaultAt at (Twice place name) = place ≡ at
IsFaultAt at OutOfMemory = ⊥

-- the text is out of that grammar at this place, or there a name comes a second time in one item
abbrev pub IsFaulty : Grammar → List ℕ → ℕ → Type 0
IsFaulty grammar text at = (error : GrammarError) × IsFaultAt at error × Refuses grammar text error

-- the text spells these challenges and no others, and no name comes twice in one of them
pub record SpellsItems (text : List ℕ) (items : List Item) : Type 0 where
  pub spelled : SpellsChallenges text items
  pub only : (other : List Item) → SpellsChallenges text other → other ≡ items
  pub single : HaveSingleNames items
  pub valid : IsTrue (list_all is_valid items)
  pub few : length items < 2 ^ 32

-- the text spells these parameters and no others, and no name comes twice
pub record SpellsInfo (text : List ℕ) (params : List Param) : Type 0 where
  pub spelled : SpellsParams text params
  pub only : (other : List Param) → SpellsParams text other → other ≡ params
  pub single : has_repeat params ≡ false
  pub valid : IsTrue (are_valid_params params)

-- what the text of the field with the challenges says
abbrev pub SaysItems : List ℕ → Said → Type 0
SaysItems text (Challenge items) = SpellsItems text items
SaysItems text (Malformed at) = IsFaulty Of.Challenges text at
SaysItems text (Info params) = ⊥
SaysItems text Nothing = ⊥

-- what the lines say in which a server proves itself
abbrev pub SaysInfo : List (List ℕ) → Said → Type 0
SaysInfo [] said = said ≡ Nothing
SaysInfo (line ∷ lines) (Info params) = SpellsInfo (join_with_byte 44 (line ∷ lines)) params
SaysInfo (line ∷ lines) (Malformed at) = IsFaulty Of.Params (join_with_byte 44 (line ∷ lines)) at
SaysInfo (line ∷ lines) (Challenge items) = ⊥
SaysInfo (line ∷ lines) Nothing = ⊥

-- a challenge has fewer than 2^32 items
abbrev pub IsFew : Said → Type 0
IsFew (Challenge items) = length items < 2 ^ 32
IsFew (Info params) = ⊤
IsFew Nothing = ⊤
IsFew (Malformed at) = ⊤

-- whether a server can prove itself in its answer to these credentials
abbrev pub is_provable : Sent → Bool
is_provable sent.Nothing = false
is_provable (sent.Digest item) = true
is_provable (sent.ScramFirst item) = false
is_provable (sent.ScramFinal item) = true
is_provable (sent.ScramAgain item) = true

-- the lines of a field, whatever the case of its name
abbrev pub lines_of : Response → List ℕ → List (List ℕ)
lines_of response name = values_of response.fields (lower name)

-- what a response says in answer to these credentials
pub record Says (role : Role) (what : Sent) (response : Response) (said : Said) : Type 0 where
  pub challenge : response.status ≡ challenge_status role → SaysItems (join_with_byte 44 (lines_of response (challenge_name role))) said
  pub proof : response.status ≢ challenge_status role → is_provable what ≡ true → SaysInfo (lines_of response (info_name role)) said
  pub other : response.status ≢ challenge_status role → is_provable what ≡ false → said ≡ Nothing
