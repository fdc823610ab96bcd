-- What an outcome says of a user, and the counts of a nonce behind a list of calls.
use Rattle.std.specs.Prelude.{◌≡◌, ◌≢◌, ℕ, ◌+◌, ◌<◌, List, All}
use Rattle.count_window.specs.Window.{high}
use Rattle.count_window.specs.declared.window.TheConstants.{WIDTH}
use Rattle.nonce_shard.specs.Nonces.{admitted}
use Rattle.nonce_shard.specs.Replies.{answered}
use Rattle.nonce_shard.specs.declared.calls.Call.{Call}
use Rattle.nonce_shard.specs.declared.names.TableName.{TableName}
use Rattle.nonce_shard.specs.declared.sizes.Sizes.{Sizes}
use Rattle.auth_decide.specs.declared.verdict.Verdict.{Verdict}
use Rattle.auth_decide.specs.declared.verdict.Verdict.TheVariants.{Admit, Open, Challenge, Continue, Bad}

-- admitted as this user
abbrev pub Admits : List ℕ → Verdict → Type 0
Admits user (Admit named proof) = named ≡ user
Admits user (Open items) = ⊥
Admits user (Challenge items) = ⊥
Admits user (Continue item) = ⊥
Admits user (Bad why) = ⊥

-- the counts of a nonce that were answered Fresh
abbrev pub counts_behind : Sizes → TableName → List Call → List ℕ
counts_behind sizes nonce before = admitted (answered sizes nonce.shard before) nonce

-- A count of it is in the window below the greatest that was admitted, and isn't one of those.
pub record IsUnusedBehind (sizes : Sizes) (nonce : TableName) (count : ℕ) (before : List Call) : Type 0 where
  pub in_window : high (counts_behind sizes nonce before) < count + WIDTH
  pub new : All (λ used. used ≢ count) (counts_behind sizes nonce before)
