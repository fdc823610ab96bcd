-- What reading a client-first answers.
use Rattle.std.specs.Prelude.{◌≡◌, ◌≤◌, ◌<◌, ◌+◌, ℕ, List, length}
use Rattle.std.specs.declared.result.Result.{Result}
use Rattle.std.specs.declared.result.Result.TheVariants.{Ok, Err}
use Rattle.auth_grammar.specs.Reach.{Stops}
use Rattle.scram_text.specs.ClientFirsts.{AsksBinding, FirstParts, HasAuthzid, HasMandatory, IsPlainFirst, IsShort, SpellsClientFirst}
use Rattle.scram_text.specs.declared.client_first.ClientFirst.{ClientFirst}
use Rattle.scram_text.specs.declared.error.ScramError.{ScramError}
use Rattle.scram_text.specs.declared.error.ScramError.TheVariants.{TooLong, ChannelBinding, Authzid, Extension, NotMessage, OutOfMemory}
use Rattle.scram_text.specs.declared.error.ScramField.{ScramField}
use Rattle.scram_text.specs.declared.error.ScramField.TheVariants.{Bare, First, Name, Nonce}
use Rattle.auth_grammar.specs.declared.plain.TheConstants.{NAME_LIMIT}
use Rattle.scram_text.specs.declared.limits.TheConstants.{BARE_LIMIT, FLAG_LENGTH, NONCE_LIMIT}

-- what a message says
abbrev pub parts_of : ClientFirst → FirstParts
parts_of message = record { flag = message.flag; name = message.name; nonce = message.nonce; bare = message.bare }

-- the text is no longer than a client-first may be
abbrev pub Fits : List ℕ → Type 0
Fits text = length text ≤ FLAG_LENGTH + BARE_LIMIT

-- the text is a client-first, but for its name's length or else its nonce's
abbrev pub IsTooLong : List ℕ → ScramField → ℕ → Type 0
IsTooLong text Bare limit = (limit ≡ BARE_LIMIT) × (FLAG_LENGTH + BARE_LIMIT < length text)
IsTooLong text First limit = ⊥
IsTooLong text Name limit =
    (limit ≡ NAME_LIMIT) × Fits text × ((parts : FirstParts) × SpellsClientFirst text parts × (NAME_LIMIT < length parts.name))
IsTooLong text Nonce limit =
    (limit ≡ NONCE_LIMIT) × Fits text
    × ((parts : FirstParts) × SpellsClientFirst text parts × (length parts.name ≤ NAME_LIMIT)
    × (NONCE_LIMIT < length parts.nonce))

-- when each refusal comes
abbrev pub RefusesClientFirst : List ℕ → ScramError → Type 0
RefusesClientFirst text (TooLong field limit) = IsTooLong text field limit
RefusesClientFirst text ChannelBinding = Fits text × AsksBinding text
RefusesClientFirst text Authzid = Fits text × HasAuthzid text
RefusesClientFirst text Extension = Fits text × HasMandatory text
RefusesClientFirst text (NotMessage at) = Fits text × IsPlainFirst text × Stops SpellsClientFirst text at
RefusesClientFirst text OutOfMemory = Unit {0}

abbrev pub AnswersClientFirst : List ℕ → Result ClientFirst ScramError → Type 0
AnswersClientFirst text (Ok message) = SpellsClientFirst text (parts_of message) × IsShort (parts_of message)
AnswersClientFirst text (Err error) = RefusesClientFirst text error
