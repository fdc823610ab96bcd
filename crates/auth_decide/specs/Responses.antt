-- The response of Digest credentials (RFC 7616 section 3.4).
use Rattle.std.specs.Prelude.{ℕ, Bool, bytes_eq, if◌then◌else◌, List}
use Rattle.digest_formulas.specs.Responses.{response_value}
use Rattle.digest_formulas.specs.Secrets.{session_secret}
use Rattle.http_wire.specs.declared.request.Request.{Request}
use Rattle.auth_decide.specs.declared.candidate.Candidate.{Candidate}

-- the secret that the response is computed with: of a session, that of the nonce and the client's nonce that began it
abbrev pub response_secret : Candidate → List ℕ → List ℕ
response_secret c prime =
    if c.credentials.kind.session then session_secret c.credentials.kind.alg c.secret c.credentials.nonce prime else c.secret

-- the value of RFC 7616 section 3.4.1
abbrev pub right_response : Request → Candidate → List ℕ → List ℕ
right_response request c prime = response_value c.credentials.kind.alg (response_secret c prime) c.credentials.nonce c.credentials.nc
    c.credentials.cnonce c.credentials.qop request.method c.credentials.uri request.body

-- whether the response is that value
abbrev pub is_right : Request → Candidate → List ℕ → Bool
is_right request c prime = bytes_eq c.credentials.response (right_response request c prime)
