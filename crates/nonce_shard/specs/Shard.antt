-- The calls that a shard stands for.
use Rattle.std.specs.Prelude.{◌≡◌, List}
use Rattle.nonce_shard.specs.declared.calls.Call.{Call}
use Rattle.nonce_shard.specs.declared.calls.Reply.{Reply}
use Rattle.nonce_shard.specs.declared.sizes.Setting.{Setting}
use Rattle.nonce_shard.specs.declared.history.Answered.{Answered}
use Rattle.nonce_shard.specs.declared.totals.Totals.{Totals}
use Rattle.nonce_shard.specs.declared.shard.Shard.{Shard}
use Rattle.nonce_shard.specs.Sizes.{AreValid}
use Rattle.nonce_shard.specs.History.{time_at}
use Rattle.nonce_shard.specs.Replies.{answered, reply}
use Rattle.nonce_shard.specs.Totals.{totals_of}
use Rattle.nonce_shard.specs.NonceRing.{HoldsNonces}
use Rattle.nonce_shard.specs.ExchangeRing.{HoldsExchanges}

-- what a shard was opened with
abbrev pub setting : Shard → Setting
setting s = s.setting

-- the calls of a shard with their times and replies
abbrev pub past_of : Setting → List Call → List Answered
past_of set calls = answered set.sizes set.number calls

-- the reply of a shard behind these calls
abbrev pub reply_after : Setting → List Call → Call → Reply
reply_after set calls call = reply set.sizes set.number calls call

abbrev pub totals_after : Setting → List Call → Totals
totals_after set calls = totals_of (past_of set calls)

-- what it has counted
abbrev pub counted : Shard → Totals
counted s = record { calls = s.calls; issued = s.nonces.issued; admitted = s.admitted; repeated = s.repeated }

-- its rings are those of these answered calls
pub record HoldsPast (s : Shard) (past : List Answered) : Type 0 where
  pub nonces : HoldsNonces s.setting s.nonces past
  pub exchanges : HoldsExchanges s.setting s.exchanges past

-- the shard has answered these calls, the oldest first
pub record StandsFor (s : Shard) (calls : List Call) : Type 0 where
  pub valid : AreValid s.setting.sizes
  pub latest_is : s.latest ≡ time_at (past_of s.setting calls) 0
  pub totals_are : counted s ≡ totals_after s.setting calls
  pub rings : HoldsPast s (past_of s.setting calls)
