-- What reading a server-first answers.
use Rattle.std.specs.Prelude.{◌≡◌, ◌≤◌, ◌<◌, ℕ, List, length}
use Rattle.std.specs.declared.result.Result.{Result}
use Rattle.std.specs.declared.result.Result.TheVariants.{Ok, Err}
use Rattle.auth_grammar.specs.Reach.{Stops}
use Rattle.scram_text.specs.Parts.{IsMandatory}
use Rattle.scram_text.specs.ServerFirsts.{ServerFirstParts, SpellsServerFirst}
use Rattle.scram_text.specs.declared.server_first.ServerFirst.{ServerFirst}
use Rattle.scram_text.specs.declared.error.ScramError.{ScramError}
use Rattle.scram_text.specs.declared.error.ScramError.TheVariants.{TooLong, ChannelBinding, Authzid, Extension, NotMessage, OutOfMemory}
use Rattle.scram_text.specs.declared.error.ScramField.{ScramField}
use Rattle.scram_text.specs.declared.error.ScramField.TheVariants.{Bare, First, Name, Nonce}
use Rattle.scram_text.specs.declared.limits.TheConstants.{FIRST_LIMIT}

-- what a message says
abbrev pub server_first_parts : ServerFirst → ServerFirstParts
server_first_parts message = record { nonce = message.nonce; salt = message.salt; i = message.i }

-- the text is longer than a server-first may be
abbrev pub IsTooLong : List ℕ → ScramField → ℕ → Type 0
IsTooLong text Bare limit = ⊥
IsTooLong text First limit = (limit ≡ FIRST_LIMIT) × (FIRST_LIMIT < length text)
IsTooLong text Name limit = ⊥
IsTooLong text Nonce limit = ⊥

-- when each refusal comes
abbrev pub RefusesServerFirst : List ℕ → ScramError → Type 0
RefusesServerFirst text (TooLong field limit) = IsTooLong text field limit
RefusesServerFirst text ChannelBinding = ⊥
RefusesServerFirst text Authzid = ⊥
RefusesServerFirst text Extension = (length text ≤ FIRST_LIMIT) × IsMandatory text
RefusesServerFirst text (NotMessage at) = (length text ≤ FIRST_LIMIT) × (IsMandatory text → ⊥) × Stops SpellsServerFirst text at
RefusesServerFirst text OutOfMemory = Unit {0}

abbrev pub AnswersServerFirst : List ℕ → Result ServerFirst ScramError → Type 0
AnswersServerFirst text (Ok message) =
    SpellsServerFirst text (server_first_parts message) × (message.text ≡ text) × (length text ≤ FIRST_LIMIT)
AnswersServerFirst text (Err error) = RefusesServerFirst text error
