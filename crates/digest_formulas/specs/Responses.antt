-- The responses of HTTP Digest (RFC 7616 sections 3.4.1, 3.4.3 and 3.5).
use Rattle.std.specs.Prelude.{ℕ, List, [], ◌∷◌}
use Rattle.auth_hash.specs.Hash.{hash_text, joined}
use Rattle.auth_hash.specs.Qop.{qop_name}
use Rattle.auth_hash.specs.declared.algorithm.Algorithm.{Algorithm}
use Rattle.auth_hash.specs.declared.algorithm.Qop.{Qop}
use Rattle.auth_hash.specs.declared.algorithm.Qop.TheVariants.{Auth, AuthInt}

-- A2: method:uri, or method:uri:H(body)
abbrev pub action : Algorithm → Qop → List ℕ → List ℕ → List ℕ → List ℕ
action algorithm Auth method uri body = joined (method ∷ uri ∷ [])
action algorithm AuthInt method uri body = joined (method ∷ uri ∷ hash_text algorithm body ∷ [])

-- H(secret:nonce:nc:cnonce:qop:H(A2))
abbrev pub response_value : Algorithm → List ℕ → List ℕ → List ℕ → List ℕ → Qop → List ℕ → List ℕ → List ℕ → List ℕ
response_value algorithm secret nonce nc cnonce qop method uri body =
    hash_text algorithm (joined (secret ∷ nonce ∷ nc ∷ cnonce ∷ qop_name qop
    ∷ hash_text algorithm (action algorithm qop method uri body) ∷ []))

-- the same with no method, over the body of the response
abbrev pub server_value : Algorithm → List ℕ → List ℕ → List ℕ → List ℕ → Qop → List ℕ → List ℕ → List ℕ
server_value algorithm secret nonce nc cnonce qop uri body =
    response_value algorithm secret nonce nc cnonce qop [] uri body
