-- What a hasher holds.
use Rattle.std.specs.Prelude.{ℕ, List}
use Rattle.md5.specs.Md5.{Holds}
use Rattle.sha2.specs.Hashers.{Holds256, Holds512_256}
use Rattle.auth_hash.specs.declared.hasher.Hasher.{Hasher}
use Rattle.auth_hash.specs.declared.hasher.State.{State}
use Rattle.auth_hash.specs.declared.hasher.State.TheVariants as kept
use Rattle.auth_hash.specs.declared.algorithm.Algorithm.{Algorithm}
use Rattle.auth_hash.specs.declared.algorithm.Algorithm.TheVariants as named

-- the state is of the algorithm and has taken the message
abbrev pub StateHolds : State → Algorithm → List ℕ → Type 0
StateHolds (kept.Md5 hasher) named.Md5 message = Holds hasher message
StateHolds (kept.Sha256 hasher) named.Sha256 message = Holds256 hasher message
StateHolds (kept.Sha512t256 hasher) named.Sha512t256 message = Holds512_256 hasher message
StateHolds state algorithm message = ⊥

-- the hasher is of the algorithm and has taken the message
abbrev pub Holding : Hasher → Algorithm → List ℕ → Type 0
Holding hasher algorithm message = StateHolds hasher.state algorithm message
