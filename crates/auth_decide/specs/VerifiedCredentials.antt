-- Credentials whose response is right.
use Rattle.std.specs.Prelude.{ℕ, List, Option, Some, None, if◌then◌else◌}
use Rattle.arrayvec.specs.ArrayVec.{ArrayVec}
use Rattle.digest_formulas.specs.ResponseHashes.{IsResponseHash}
use Rattle.digest_formulas.specs.declared.response_hash.ResponseHash.{ResponseHash}
use Rattle.http_wire.specs.declared.request.Request.{Request}
use Rattle.auth_decide.specs.Responses.{is_right}
use Rattle.auth_decide.specs.declared.candidate.Candidate.{Candidate}

-- they, and the client's nonce that began their session, which counts for a session alone
pub record VerifiedCredentials : Type 0 where
  pub candidate : Candidate
  pub prime : ArrayVec ℕ

abbrev pub verified : Candidate → List ℕ → VerifiedCredentials
verified c prime = record { candidate = c; prime = record { items = prime } }

-- credentials, where their response is right
abbrev pub verified_of : Request → Candidate → List ℕ → Option VerifiedCredentials
verified_of request c prime = if is_right request c prime then Some (verified c prime) else None

-- a hash that has taken what their response begins with, by this secret
abbrev pub IsHashOf : ResponseHash → Candidate → List ℕ → Type 0
IsHashOf hash c secret =
    IsResponseHash hash c.credentials.kind.alg secret c.credentials.nonce c.credentials.nc c.credentials.cnonce c.credentials.qop
