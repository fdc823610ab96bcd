-- What the messages of SCRAM-SHA-256 in a response say (RFC 7804 section 5).
use Rattle.std.specs.Prelude.{◌≡◌, ℕ, List, [], ◌∷◌, codes, ⊤, Option, Some, None, option_map, Ok, Err, if◌then◌else◌}
use Rattle.auth_grammar.specs.Names.{params_of, same_name, value_of}
use Rattle.auth_grammar.specs.declared.items.Item.{Item}
use Rattle.scram_text.specs.Bytes.{base64_bytes}
use Rattle.scram_text.specs.ServerFinalAnswers.{RefusesServerFinal, said_of}
use Rattle.scram_text.specs.ServerFinals.{FinalSaid, SpellsServerFinal}
use Rattle.scram_text.specs.ServerFirstAnswers.{AnswersServerFirst}
use Rattle.scram_text.specs.declared.error.ScramError.{ScramError}
use Rattle.scram_text.specs.declared.error.ScramError.TheVariants.{TooLong, ChannelBinding, Authzid, Extension, NotMessage, OutOfMemory}
use Rattle.client_core.specs.declared.hearing.Heard.{Heard}
use Rattle.client_core.specs.declared.hearing.Heard.TheVariants.{Nothing, First, Final}
use Rattle.client_core.specs.declared.reading.Said.{Said}
use Rattle.client_core.specs.declared.reading.Said.TheVariants as said
use Rattle.client_core.specs.declared.request.Sent.{Sent}
use Rattle.client_core.specs.declared.request.Sent.TheVariants as sent

-- ---- where a message stands

abbrev pub pair_of : Option (List ℕ) → Option (List ℕ) → Option (List ℕ × List ℕ)
pair_of (Some sid) (Some data_text) = Some (sid, data_text)
pair_of (Some sid) None = None
pair_of None found = None

-- the `sid` and the `data` of an item of SCRAM-SHA-256 that has both
abbrev pub message_in : Item → Option (List ℕ × List ℕ)
message_in item =
    if same_name item.scheme (codes "SCRAM-SHA-256")
    then pair_of (value_of (codes "sid") (params_of item.rest)) (value_of (codes "data") (params_of item.rest)) else None

abbrev pub or_later : Option (List ℕ × List ℕ) → Option (List ℕ × List ℕ) → Option (List ℕ × List ℕ)
or_later (Some found) later = Some found
or_later None later = later

-- those of the first item that has both
abbrev pub continued : List Item → Option (List ℕ × List ℕ)
continued [] = None
continued (item ∷ items) = or_later (message_in item) (continued items)

-- ---- what it says

-- a fault of the text, and not want of memory
abbrev pub IsFault : ScramError → Type 0
IsFault (TooLong field limit) = ⊤
IsFault ChannelBinding = ⊤
IsFault Authzid = ⊤
IsFault Extension = ⊤
IsFault (NotMessage at) = ⊤
IsFault OutOfMemory = ⊥

-- what bytes say as the first message of a server
abbrev pub HearsFirst : List ℕ → Heard → Type 0
HearsFirst text (First message) = AnswersServerFirst text (Ok message)
HearsFirst text Nothing = (error : ScramError) × IsFault error × AnswersServerFirst text (Err error)
HearsFirst text (Final message) = ⊥

-- what bytes say as the last message of a server
abbrev pub HearsFinal : List ℕ → Heard → Type 0
HearsFinal text (Final message) =
    SpellsServerFinal text (said_of message) × ((said : FinalSaid) → SpellsServerFinal text said → said ≡ said_of message)
HearsFinal text Nothing = (error : ScramError) × IsFault error × RefusesServerFinal text error
HearsFinal text (First message) = ⊥

abbrev pub HearsText : (List ℕ → Heard → Type 0) → Option (List ℕ) → Heard → Type 0
HearsText reads None heard = heard ≡ Nothing
HearsText reads (Some text) heard = reads text heard

-- what the `data` says, where it is there
abbrev pub HearsIn : (List ℕ → Heard → Type 0) → Option (List ℕ) → Heard → Type 0
HearsIn reads None heard = heard ≡ Nothing
HearsIn reads (Some text) heard = HearsText reads (base64_bytes text) heard

-- what the message says that counts in answer to these credentials
abbrev pub Hears : Sent → Said → Heard → Type 0
Hears (sent.ScramFirst item) (said.Challenge items) heard = HearsIn HearsFirst (option_map (λ found. found.1) (continued items)) heard
Hears (sent.ScramFinal item) (said.Info params) heard = HearsIn HearsFinal (value_of (codes "data") params) heard
Hears (sent.ScramAgain item) (said.Info params) heard = HearsIn HearsFinal (value_of (codes "data") params) heard
Hears what told heard = heard ≡ Nothing
