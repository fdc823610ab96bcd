-- What a response and its rspauth are hashed with alike (RFC 7616 sections 3.4.1 and 3.5).
use Rattle.std.specs.Prelude.{◌≡◌, ℕ, List, [], ◌∷◌}
use Rattle.auth_hash.specs.Hash.{joined}
use Rattle.auth_hash.specs.Hasher.{Holding}
use Rattle.auth_hash.specs.Qop.{qop_name}
use Rattle.auth_hash.specs.declared.algorithm.Algorithm.{Algorithm}
use Rattle.auth_hash.specs.declared.algorithm.Qop.{Qop}
use Rattle.digest_formulas.specs.declared.response_hash.ResponseHash.{ResponseHash}

-- secret:nonce:nc:cnonce:qop:
abbrev pub response_front : List ℕ → List ℕ → List ℕ → List ℕ → Qop → List ℕ
response_front secret nonce nc cnonce qop = joined (secret ∷ nonce ∷ nc ∷ cnonce ∷ qop_name qop ∷ [] ∷ [])

-- the hash is of this algorithm and quality of protection, and has taken the front
pub record IsResponseHash (hash : ResponseHash) (algorithm : Algorithm) (secret nonce nc cnonce : List ℕ) (qop : Qop) : Type 0 where
  pub algorithm_is : hash.algorithm ≡ algorithm
  pub qop_is : hash.qop ≡ qop
  pub taken : Holding hash.hasher algorithm (response_front secret nonce nc cnonce qop)
