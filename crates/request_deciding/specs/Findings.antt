-- What was done to decide on a request, and what it tells.
use Rattle.std.specs.Prelude.{ℕ, List, [], ◌∷◌, Option, Some, None, ⊤}
use Rattle.auth_decide.specs.Credentials.{Reads}
use Rattle.auth_decide.specs.Stages.{Answer, Words, Replied}
use Rattle.auth_decide.specs.declared.credentials.RequestCredentials.{RequestCredentials}
use Rattle.nonce_shard.specs.Seat.{Made}
use Rattle.request_deciding.specs.declared.events.Finding.{Finding}
use Rattle.request_deciding.specs.declared.events.Finding.TheVariants.{CredentialsRead, Drew, Called}
use Rattle.request_deciding.specs.declared.events.Inquiry.{Inquiry}
use Rattle.request_deciding.specs.declared.events.Inquiry.TheVariants.{ReadCredentials, Draw, CallTable}
use Rattle.request_deciding.specs.declared.events.Event.{Event}
use Rattle.request_deciding.specs.declared.events.Event.TheVariants.{Found, Behind}
use Rattle.request_deciding.specs.declared.events.Operation.{Operation}
use Rattle.request_deciding.specs.declared.events.Operation.TheVariants.{Inquire, Behind as WantBehind}

-- the inquiry that was made
abbrev pub inquiry_of : Finding → Inquiry
inquiry_of (CredentialsRead lines credentials) = ReadCredentials lines
inquiry_of (Drew words) = Draw
inquiry_of (Called shard call reply) = CallTable shard call

-- the operation that was done, where this is what was wanted behind a verdict
abbrev pub operation_of : {Q E : Type 0} → (E → Q) → Event E → Operation Q
operation_of behind (Found finding) = Inquire (inquiry_of finding)
operation_of behind (Behind event) = WantBehind (behind event)

-- ---- one request

-- what was found for its decision
abbrev pub found_in : {E : Type 0} → List (Event E) → List Finding
found_in [] = []
found_in (Found finding ∷ events) = finding ∷ found_in events
found_in (Behind event ∷ events) = found_in events

-- what was done behind its verdict
abbrev pub behind_in : {E : Type 0} → List (Event E) → List E
behind_in [] = []
behind_in (Found finding ∷ events) = behind_in events
behind_in (Behind event ∷ events) = event ∷ behind_in events

-- the credentials, once they were read
abbrev pub credentials_in : List Finding → Option RequestCredentials
credentials_in [] = None
credentials_in (CredentialsRead lines credentials ∷ found) = Some credentials
credentials_in (Drew words ∷ found) = credentials_in found
credentials_in (Called shard call reply ∷ found) = credentials_in found

-- what the source of words and the table answered
abbrev pub answers_in : List Finding → List Answer
answers_in [] = []
answers_in (CredentialsRead lines credentials ∷ found) = answers_in found
answers_in (Drew words ∷ found) = Words words ∷ answers_in found
answers_in (Called shard call reply ∷ found) = Replied reply ∷ answers_in found

-- ---- what the outside has seen of them

-- the words that were drawn
abbrev pub words_in : List Finding → List (List ℕ)
words_in [] = []
words_in (CredentialsRead lines credentials ∷ found) = words_in found
words_in (Drew words ∷ found) = words ∷ words_in found
words_in (Called shard call reply ∷ found) = words_in found

-- the calls of the table, each with its reply
abbrev pub calls_in : List Finding → List Made
calls_in [] = []
calls_in (CredentialsRead lines credentials ∷ found) = calls_in found
calls_in (Drew words ∷ found) = calls_in found
calls_in (Called shard call reply ∷ found) = record { shard = shard; call = call; reply = reply } ∷ calls_in found

-- Credentials were read as what their lines say.
abbrev pub IsSound : Finding → Type 0
IsSound (CredentialsRead lines credentials) = Reads lines credentials
IsSound (Drew words) = ⊤
IsSound (Called shard call reply) = ⊤
