-- What a client-final proves in an exchange (RFC 5802 section 3, RFC 7804 section 5).
use Rattle.std.specs.Prelude.{ℕ, Bool, true, false, bytes_eq, if◌then◌else◌, List, ◌++◌, Option, Some, None}
use Rattle.std.specs.Option.{option_and_then, option_map}
use Rattle.auth_hash.specs.Salting.{xor_bytes}
use Rattle.cred_store.specs.LookUps.{scram_of}
use Rattle.cred_store.specs.declared.entry.Entry.{Entry}
use Rattle.nonce_shard.specs.Names.{name_text}
use Rattle.nonce_shard.specs.declared.calls.Exchange.{Exchange}
use Rattle.nonce_shard.specs.declared.calls.ExchangeFlag.{ExchangeFlag}
use Rattle.nonce_shard.specs.declared.calls.ExchangeFlag.TheVariants as exchange
use Rattle.scram_proof.specs.Exchange.{auth_message, client_signature, signature_of}
use Rattle.scram_proof.specs.declared.keys.ScramKeys.{ScramKeys}
use Rattle.scram_text.specs.Bares.{first_behind}
use Rattle.scram_text.specs.ClientFirsts.{FirstParts}
use Rattle.scram_text.specs.ServerFirsts.{server_first_text}
use Rattle.scram_text.specs.declared.flag.Flag.{Flag}
use Rattle.scram_text.specs.declared.flag.Flag.TheVariants.{N, Y}
use Rattle.sha2.specs.Sha256.{sha256}
use Rattle.auth_decide.specs.declared.scram_exchange.Attempt.{Attempt}
use Rattle.auth_decide.specs.declared.scram_exchange.ExchangeParts.{ExchangeParts}
use Rattle.auth_decide.specs.declared.scram_exchange.NewExchange.{NewExchange}
use Rattle.auth_decide.specs.declared.scram_exchange.ScramUser.{ScramUser}
use Rattle.auth_decide.specs.declared.scram_message.FirstMessage.{FirstMessage}

-- ---- what an exchange began with

-- its name and its nonce, if it is the client-first of an exchange behind its flag
abbrev pub parts_of : FirstParts → ExchangeParts
parts_of parts = record { name = parts.name; nonce = parts.nonce }

unfoldable pub first_parts : List ℕ → Option ExchangeParts
first_parts bare = option_map parts_of (first_behind bare)

-- ---- the exchange of a client-first

abbrev pub new_exchange : FirstMessage → ScramKeys → NewExchange
new_exchange message keys = record { nonce = message.nonce; exchange = message.exchange; salt = keys.salt; i = keys.i }

-- ---- a client-final

abbrev pub same_flag : Flag → ExchangeFlag → Bool
same_flag N exchange.N = true
same_flag Y exchange.Y = true
same_flag N exchange.Y = false
same_flag Y exchange.N = false

-- the nonce is the client's, and then the server's, which is the exchange's name
abbrev pub has_nonce : Attempt → ExchangeParts → Bool
has_nonce a parts = bytes_eq a.message.nonce (parts.nonce ++ name_text a.sid)

-- what both sides sign: the server's first message is made again
abbrev pub exchange_message : ScramKeys → Attempt → Exchange → ExchangeParts → List ℕ
exchange_message keys a e parts =
    auth_message e.bare.items (server_first_text (parts.nonce ++ name_text a.sid) keys.salt.items keys.i) a.message.without

-- whether the proof XOR the client's signature is a key whose digest is the stored one
abbrev pub is_proof : ScramKeys → List ℕ → List ℕ → Bool
is_proof keys message proof = bytes_eq (sha256 (xor_bytes proof (client_signature keys.stored message))) keys.stored

-- who has proved itself in an exchange, with the server's signature
abbrev pub user_of : ScramKeys → Attempt → Exchange → ExchangeParts → ScramUser
user_of keys a e parts = record { name = parts.name; sid = a.sid; signature = signature_of keys.server (exchange_message keys a e parts) }

abbrev pub user_with : ScramKeys → Attempt → Exchange → ExchangeParts → Option ScramUser
user_with keys a e parts = if is_proof keys (exchange_message keys a e parts) a.message.proof then Some (user_of keys a e parts) else None

abbrev pub user_keyed : Attempt → Exchange → ExchangeParts → ScramKeys → Option ScramUser
user_keyed a e parts keys = if same_flag a.message.flag e.flag then user_with keys a e parts else None

-- the user of the exchange, where it has keys in the realm, and the flag and the proof are right
abbrev pub user_by : List Entry → Attempt → Exchange → ExchangeParts → Option ScramUser
user_by store a e parts = option_and_then (user_keyed a e parts) (scram_of parts.name a.realm store)

abbrev pub user_taken : List Entry → Attempt → Exchange → ExchangeParts → Option ScramUser
user_taken store a e parts = if has_nonce a parts then user_by store a e parts else None

-- of an exchange whose one try is taken, where the nonce is its own
abbrev pub taken_user : List Entry → Attempt → Exchange → Option ScramUser
taken_user store a e = option_and_then (user_taken store a e) (first_parts e.bare.items)

-- of a finished exchange
abbrev pub recalled_user : List Entry → Attempt → Exchange → Option ScramUser
recalled_user store a e = option_and_then (user_by store a e) (first_parts e.bare.items)
