-- A right response leads on by the credentials that are verified.
use Rattle.std.proofs.Common.{◌≡◌, ℕ, Bool, true, false, List, Option, Some, None, sym, ap}
use Rattle.std.specs.Prelude.{if◌then◌else◌}
use Rattle.http_wire.specs.declared.request.Request.{Request}
use Rattle.nonce_shard.specs.declared.names.TableName.{TableName}
use Rattle.auth_decide.specs.Responses.{is_right}
use Rattle.auth_decide.specs.Stages.{challenge_stage, response_stage, right_stage}
use Rattle.auth_decide.specs.VerifiedCredentials.{VerifiedCredentials, verified, verified_of}
use Rattle.auth_decide.specs.declared.candidate.Candidate.{Candidate}

pub verified_stage : (request : Request) (c : Candidate) (prime : List ℕ) (v : VerifiedCredentials) (nonce : Option TableName)
    → verified_of request c prime ≡ Some v → right_stage v nonce ≡ response_stage request c prime nonce
verified_stage request c prime v nonce is = by (is_right request c prime) is
  where
    by : (right : Bool) → (if right then Some (verified c prime) else None) ≡ Some v
        → right_stage v nonce ≡ (if right then right_stage (verified c prime) nonce else challenge_stage false)
    by true same = (let some : Some (verified c prime) ≡ Some v = same in let one : verified c prime ≡ v = cc in ap (λ (w : VerifiedCredentials). right_stage w nonce) (sym one))
    by false same = absurd (let none : ◌≡◌ {A = Option VerifiedCredentials} None (Some v) = same in cc)
