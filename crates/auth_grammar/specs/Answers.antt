-- What the readers answer.
use Rattle.std.specs.Prelude.{◌≡◌, ◌⊎◌, ℕ, false, List, [], ◌∷◌, Result, Ok, Err, IfOk, IfErr, IsTrue}
use Rattle.std.specs.List.{list_all}
use Rattle.auth_grammar.specs.declared.grammar.Grammar.{Grammar}
use Rattle.auth_grammar.specs.declared.grammar.Grammar.TheVariants as Of
use Rattle.auth_grammar.specs.declared.error.GrammarError.{GrammarError}
use Rattle.auth_grammar.specs.declared.error.GrammarError.TheVariants.{NotGrammar, Twice, OutOfMemory}
use Rattle.auth_grammar.specs.declared.groups.Placed.{Placed}
use Rattle.auth_grammar.specs.declared.groups.Grouped.{Grouped}
use Rattle.auth_grammar.specs.declared.items.Item.{Item}
use Rattle.auth_grammar.specs.declared.items.Param.{Param}
use Rattle.auth_grammar.specs.declared.items.Quoting.{Quoting}
use Rattle.auth_grammar.specs.Items.{Spells, SpellsOnly, SpellsChallenges, SpellsCredentials, SpellsParams}
use Rattle.auth_grammar.specs.Names.{has_repeat, params_of}
use Rattle.auth_grammar.specs.Reach.{Stops}
use Rattle.auth_grammar.specs.Repeats.{HaveSingleNames, IsSecond, lists_in}
use Rattle.auth_grammar.specs.Valid.{is_valid, are_valid_params}
use Rattle.auth_grammar.specs.Writing.{items_text, params_text}

-- when a reader of that grammar answers each error; the cases exclude each other, but for want of memory
abbrev pub Refuses : Grammar → List ℕ → GrammarError → Type 0
Refuses grammar text (NotGrammar at) = Stops (Spells grammar) text at
Refuses grammar text (Twice at name) =
    (x : Grouped) × (p : Placed) × SpellsOnly grammar text x × IsSecond (lists_in x) p × (p.at ≡ at) × (p.param.name ≡ name)
Refuses grammar text OutOfMemory = Unit {0}

-- the answer to a text of challenges
pub record AnswersChallenges (text : List ℕ) (result : Result (List Item) GrammarError) : Type 0 where
  pub spelled : IfOk result (λ items. SpellsChallenges text items)
  pub only : IfOk result (λ items. (other : List Item) → SpellsChallenges text other → other ≡ items)
  pub single : IfOk result (λ items. HaveSingleNames items)
  pub valid : IfOk result (λ items. IsTrue (list_all is_valid items))
  pub refused : IfErr result (λ e. Refuses Of.Challenges text e)

-- the answer to a text of credentials
pub record AnswersCredentials (text : List ℕ) (result : Result Item GrammarError) : Type 0 where
  pub spelled : IfOk result (λ item. SpellsCredentials text item)
  pub only : IfOk result (λ item. (other : Item) → SpellsCredentials text other → other ≡ item)
  pub single : IfOk result (λ item. has_repeat (params_of item.rest) ≡ false)
  pub valid : IfOk result (λ item. IsTrue (is_valid item))
  pub refused : IfErr result (λ e. Refuses Of.Credentials text e)

-- the answer to a text of parameters
pub record AnswersParams (text : List ℕ) (result : Result (List Param) GrammarError) : Type 0 where
  pub spelled : IfOk result (λ params. SpellsParams text params)
  pub only : IfOk result (λ params. (other : List Param) → SpellsParams text other → other ≡ params)
  pub single : IfOk result (λ params. has_repeat params ≡ false)
  pub valid : IfOk result (λ params. IsTrue (are_valid_params params))
  pub refused : IfErr result (λ e. Refuses Of.Params text e)

-- that value, or want of memory
abbrev pub IsOrOutOfMemory : {A : Type 0} → A → Result A GrammarError → Type 0
IsOrOutOfMemory {A} value result = (result ≡ Ok value) ⊎ (result ≡ Err OutOfMemory)

-- reading what was written of items gives them
abbrev pub ReadsItems : Type 0
ReadsItems = (quoting : Quoting) (items : List Item) → IsTrue (list_all is_valid items)
    → (result : Result (List Item) GrammarError) → AnswersChallenges (items_text quoting items) result → IsOrOutOfMemory items result

-- reading what was written of one item gives it
abbrev pub ReadsItem : Type 0
ReadsItem = (quoting : Quoting) (item : Item) → IsTrue (is_valid item)
    → (result : Result Item GrammarError) → AnswersCredentials (items_text quoting (item ∷ [])) result → IsOrOutOfMemory item result

-- reading what was written of parameters gives them
abbrev pub ReadsParams : Type 0
ReadsParams = (quoting : Quoting) (params : List Param) → IsTrue (are_valid_params params)
    → (result : Result (List Param) GrammarError) → AnswersParams (params_text quoting params) result → IsOrOutOfMemory params result
