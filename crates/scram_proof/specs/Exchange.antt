-- What the two sides of a SCRAM exchange prove to each other (RFC 5802 section 3).
use Rattle.std.specs.Prelude.{◌≡◌, ◌++◌, ◌∷◌, ℕ, List}
use Rattle.sha2.specs.Sha256.{sha256}
use Rattle.auth_hash.specs.Mac.{hmac}
use Rattle.auth_hash.specs.Salting.{xor_bytes}
use Rattle.scram_proof.specs.Keys.{client_key, stored_key}

-- AuthMessage := client-first-message-bare + "," + server-first-message + "," + client-final-message-without-proof
abbrev pub auth_message : List ℕ → List ℕ → List ℕ → List ℕ
auth_message bare first without = bare ++ 44 ∷ (first ++ 44 ∷ without)

-- ClientSignature := HMAC(StoredKey, AuthMessage)
abbrev pub client_signature : List ℕ → List ℕ → List ℕ
client_signature stored message = hmac stored message

-- ClientProof := ClientKey XOR ClientSignature
abbrev pub proof_of : List ℕ → List ℕ → List ℕ
proof_of salted message = xor_bytes (client_key salted) (client_signature (stored_key salted) message)

-- ServerSignature := HMAC(ServerKey, AuthMessage)
abbrev pub signature_of : List ℕ → List ℕ → List ℕ
signature_of server message = hmac server message

-- the proof XOR the signature is a key whose digest is the stored one
abbrev pub Matches : List ℕ → List ℕ → List ℕ → Type 0
Matches stored message proof = sha256 (xor_bytes proof (client_signature stored message)) ≡ stored
