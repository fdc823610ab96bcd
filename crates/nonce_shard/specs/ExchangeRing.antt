-- The answered calls that a ring of exchanges stands for.
use Rattle.std.specs.Prelude.{◌≡◌, ℕ, ◌≤◌, List, length}
use Rattle.nonce_shard.specs.declared.names.TableName.{TableName}
use Rattle.nonce_shard.specs.declared.names.NameKind.TheVariants as names
use Rattle.nonce_shard.specs.declared.calls.Reply.{Reply}
use Rattle.nonce_shard.specs.declared.calls.Reply.TheVariants.{Taken, Kept}
use Rattle.nonce_shard.specs.declared.sizes.Setting.{Setting}
use Rattle.nonce_shard.specs.declared.history.Answered.{Answered}
use Rattle.nonce_shard.specs.declared.exchanges.Opening.{Opening}
use Rattle.nonce_shard.specs.declared.exchanges.Progress.{Progress}
use Rattle.nonce_shard.specs.declared.exchanges.Progress.TheVariants.{Untried, Tried, Finished}
use Rattle.nonce_shard.specs.declared.exchange_ring.ExchangeSlot.{ExchangeSlot}
use Rattle.nonce_shard.specs.declared.exchange_ring.ExchangeRing.{ExchangeRing}
use Rattle.nonce_shard.specs.Exchanges.{openings, progress}
use Rattle.nonce_shard.specs.Ring.{RingHolds}

-- how far an exchange has come once a call of it has this reply at this time
abbrev pub progress_after : Progress → ℕ → Reply → Progress
progress_after before time (Taken exchange) = Tried
progress_after before time Kept = Finished time
progress_after before time _ = before

abbrev pub exchange_name : ℕ → ℕ → Opening → TableName
exchange_name number serial opening = record { kind = names.Exchange; shard = number; serial = serial; random = opening.random }

-- the slot has this exchange, and how far it has come
pub record FitsExchange (number : ℕ) (past : List Answered) (serial : ℕ) (opening : Opening) (slot : ExchangeSlot) : Type 0 where
  pub opening_is : slot.opening ≡ opening
  pub progress_is : slot.progress ≡ progress past (exchange_name number serial opening)

-- the ring is that of these answered calls, in which no exchange was tried that isn't opened yet
pub record HoldsExchanges (setting : Setting) (ring : ExchangeRing) (past : List Answered) : Type 0 where
  pub opened_is : ring.opened ≡ length (openings past)
  pub latest : RingHolds (FitsExchange setting.number past) setting.sizes.exchanges (openings past) ring.slots.items
  pub untried : (name : TableName) → ring.opened ≤ name.serial → progress past name ≡ Untried
