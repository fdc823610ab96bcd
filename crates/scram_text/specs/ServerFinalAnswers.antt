-- What reading a server-final answers.
use Rattle.std.specs.Prelude.{ℕ, List}
use Rattle.std.specs.declared.result.Result.{Result}
use Rattle.std.specs.declared.result.Result.TheVariants.{Ok, Err}
use Rattle.auth_grammar.specs.Reach.{Stops}
use Rattle.scram_text.specs.ServerFinals.{FinalSaid, SpellsServerFinal, signed, failed}
use Rattle.scram_text.specs.declared.server_final.ServerFinal.{ServerFinal}
use Rattle.scram_text.specs.declared.server_final.ServerFinal.TheVariants.{Signature, Fault}
use Rattle.scram_text.specs.declared.error.ScramError.{ScramError}
use Rattle.scram_text.specs.declared.error.ScramError.TheVariants.{TooLong, ChannelBinding, Authzid, Extension, NotMessage, OutOfMemory}

-- what a message says
abbrev pub said_of : ServerFinal → FinalSaid
said_of (Signature signature) = signed signature
said_of (Fault error) = failed error.value

-- when each refusal comes
abbrev pub RefusesServerFinal : List ℕ → ScramError → Type 0
RefusesServerFinal text (TooLong field limit) = ⊥
RefusesServerFinal text ChannelBinding = ⊥
RefusesServerFinal text Authzid = ⊥
RefusesServerFinal text Extension = ⊥
RefusesServerFinal text (NotMessage at) = Stops SpellsServerFinal text at
RefusesServerFinal text OutOfMemory = Unit {0}

abbrev pub AnswersServerFinal : List ℕ → Result ServerFinal ScramError → Type 0
AnswersServerFinal text (Ok message) = SpellsServerFinal text (said_of message)
AnswersServerFinal text (Err error) = RefusesServerFinal text error
