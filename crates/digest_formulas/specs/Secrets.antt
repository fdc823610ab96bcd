-- The secrets of HTTP Digest (RFC 7616 sections 3.4.2 and 3.4.4).
use Rattle.std.specs.Prelude.{ℕ, List, [], ◌∷◌}
use Rattle.auth_hash.specs.Hash.{hash_text, joined}
use Rattle.auth_hash.specs.declared.algorithm.Algorithm.{Algorithm}

-- H(name:realm:password)
abbrev pub secret_of : Algorithm → List ℕ → List ℕ → List ℕ → List ℕ
secret_of algorithm name realm password = hash_text algorithm (joined (name ∷ realm ∷ password ∷ []))

-- H(secret:nonce:prime), the secret of a session
abbrev pub session_secret : Algorithm → List ℕ → List ℕ → List ℕ → List ℕ
session_secret algorithm secret nonce prime = hash_text algorithm (joined (secret ∷ nonce ∷ prime ∷ []))

-- H(name:realm)
abbrev pub user_hash : Algorithm → List ℕ → List ℕ → List ℕ
user_hash algorithm name realm = hash_text algorithm (joined (name ∷ realm ∷ []))
