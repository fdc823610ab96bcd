-- The keys of SCRAM-SHA-256, whose H is SHA-256 and whose HMAC is over it (RFC 5802 section 3, RFC 7677).
use Rattle.std.specs.Prelude.{◌≡◌, ℕ, List, codes}
use Rattle.sha2.specs.Sha256.{sha256}
use Rattle.auth_hash.specs.Mac.{hmac}
use Rattle.auth_hash.specs.Salting.{hi}
use Rattle.scram_proof.specs.declared.keys.ScramKeys.{ScramKeys}

-- SaltedPassword := Hi(Normalize(password), salt, i), the password as it is given
abbrev pub salted_password : List ℕ → List ℕ → ℕ → List ℕ
salted_password password salt i = hi password salt i

-- ClientKey := HMAC(SaltedPassword, "Client Key")
abbrev pub client_key : List ℕ → List ℕ
client_key salted = hmac salted (codes "Client Key")

-- StoredKey := H(ClientKey)
abbrev pub stored_key : List ℕ → List ℕ
stored_key salted = sha256 (client_key salted)

-- ServerKey := HMAC(SaltedPassword, "Server Key")
abbrev pub server_key : List ℕ → List ℕ
server_key salted = hmac salted (codes "Server Key")

-- what a server keeps of a password
pub record AreKeysOf (keys : ScramKeys) (password salt : List ℕ) (i : ℕ) : Type 0 where
  pub salt_is : keys.salt.items ≡ salt
  pub count_is : keys.i ≡ i
  pub stored_is : keys.stored ≡ stored_key (salted_password password salt i)
  pub server_is : keys.server ≡ server_key (salted_password password salt i)
