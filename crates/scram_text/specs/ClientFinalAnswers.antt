-- What reading a client-final answers.
use Rattle.std.specs.Prelude.{ℕ, List}
use Rattle.std.specs.declared.result.Result.{Result}
use Rattle.std.specs.declared.result.Result.TheVariants.{Ok, Err}
use Rattle.auth_grammar.specs.Reach.{Stops}
use Rattle.scram_text.specs.ClientFinals.{ClientFinalParts, SpellsClientFinal}
use Rattle.scram_text.specs.Parts.{IsMandatory}
use Rattle.scram_text.specs.declared.client_final.ClientFinal.{ClientFinal}
use Rattle.scram_text.specs.declared.error.ScramError.{ScramError}
use Rattle.scram_text.specs.declared.error.ScramError.TheVariants.{TooLong, ChannelBinding, Authzid, Extension, NotMessage, OutOfMemory}

-- what a message says
abbrev pub client_final_parts : ClientFinal → ClientFinalParts
client_final_parts message = record { flag = message.flag; nonce = message.nonce; without = message.without; proof = message.proof }

-- when each refusal comes
abbrev pub RefusesClientFinal : List ℕ → ScramError → Type 0
RefusesClientFinal text (TooLong field limit) = ⊥
RefusesClientFinal text ChannelBinding = ⊥
RefusesClientFinal text Authzid = ⊥
RefusesClientFinal text Extension = IsMandatory text
RefusesClientFinal text (NotMessage at) = (IsMandatory text → ⊥) × Stops SpellsClientFinal text at
RefusesClientFinal text OutOfMemory = Unit {0}

abbrev pub AnswersClientFinal : List ℕ → Result ClientFinal ScramError → Type 0
AnswersClientFinal text (Ok message) = SpellsClientFinal text (client_final_parts message)
AnswersClientFinal text (Err error) = RefusesClientFinal text error
