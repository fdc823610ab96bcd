-- What the values of a request and of its reply are computed with (RFC 7616 sections 3.4.1 and 3.5).
use Rattle.std.specs.Prelude.{ℕ, List}
use Rattle.auth_hash.specs.declared.algorithm.Algorithm.{Algorithm}
use Rattle.auth_hash.specs.declared.algorithm.Qop.{Qop}
use Rattle.digest_formulas.specs.Responses.{server_value}
use Rattle.auth_decide.specs.Responses.{response_secret}
use Rattle.auth_decide.specs.VerifiedCredentials.{VerifiedCredentials}

pub record Basis : Type 0 where
  pub alg : Algorithm
  pub secret : List ℕ
  pub nonce : List ℕ
  pub nc : List ℕ
  pub cnonce : List ℕ
  pub qop : Qop

-- what the values of these credentials are computed with
abbrev pub basis_of : VerifiedCredentials → Basis
basis_of v = record {
  alg = v.candidate.credentials.kind.alg;
  secret = response_secret v.candidate v.prime.items;
  nonce = v.candidate.credentials.nonce;
  nc = v.candidate.credentials.nc;
  cnonce = v.candidate.credentials.cnonce;
  qop = v.candidate.credentials.qop;
}

-- the value that the server proves itself by, for a request for this target and a response with this body
abbrev pub rspauth_of : Basis → List ℕ → List ℕ → List ℕ
rspauth_of b uri body = server_value b.alg b.secret b.nonce b.nc b.cnonce b.qop uri body
