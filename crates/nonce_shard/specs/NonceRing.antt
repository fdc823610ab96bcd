-- The answered calls that a ring of nonces stands for.
use Rattle.std.specs.Prelude.{◌≡◌, ℕ, ◌≤◌, if◌then◌else◌, Option, List, [], ◌∷◌, ◌++◌, length}
use Rattle.std.specs.Option.{option_or}
use Rattle.arrayvec.specs.ArrayVec.{ArrayVec}
use Rattle.count_window.specs.Window as window
use Rattle.nonce_shard.specs.declared.names.TableName.{TableName}
use Rattle.nonce_shard.specs.declared.names.NameKind.TheVariants as names
use Rattle.nonce_shard.specs.declared.calls.Reply.{Reply}
use Rattle.nonce_shard.specs.declared.sizes.Setting.{Setting}
use Rattle.nonce_shard.specs.declared.history.Answered.{Answered}
use Rattle.nonce_shard.specs.declared.nonces.Nonce.{Nonce}
use Rattle.nonce_shard.specs.declared.nonce_ring.NonceSlot.{NonceSlot}
use Rattle.nonce_shard.specs.declared.nonce_ring.NonceRing.{NonceRing}
use Rattle.nonce_shard.specs.Nonces.{nonces, admitted, first_prime, is_fresh}
use Rattle.nonce_shard.specs.Ring.{RingHolds}

-- ---- what uses leave in a slot

-- the slot is that of a nonce of these admitted counts and this prime
pub record IsUsed (slot : NonceSlot) (counts : List ℕ) (prime : Option (ArrayVec ℕ)) : Type 0 where
  pub window_is : window.StandsFor slot.window counts
  pub uses_is : slot.uses ≡ length counts
  pub prime_is : slot.prime ≡ prime

abbrev pub counts_after : List ℕ → ℕ → Reply → List ℕ
counts_after counts count reply = if is_fresh reply then counts ++ count ∷ [] else counts

-- the first prime stays
abbrev pub prime_after : Option (ArrayVec ℕ) → Option (ArrayVec ℕ) → Reply → Option (ArrayVec ℕ)
prime_after held given reply = if is_fresh reply then option_or held given else held

-- ---- the ring

abbrev pub nonce_name : ℕ → ℕ → Nonce → TableName
nonce_name number serial nonce = record { kind = names.Nonce; shard = number; serial = serial; random = nonce.random }

-- the slot has this nonce, with what its uses have left
pub record FitsNonce (number : ℕ) (past : List Answered) (serial : ℕ) (nonce : Nonce) (slot : NonceSlot) : Type 0 where
  pub nonce_is : slot.nonce ≡ nonce
  pub used : IsUsed slot (admitted past (nonce_name number serial nonce)) (first_prime past (nonce_name number serial nonce))

-- the ring is that of these answered calls, in which no count was admitted of a nonce that isn't issued yet
pub record HoldsNonces (setting : Setting) (ring : NonceRing) (past : List Answered) : Type 0 where
  pub issued_is : ring.issued ≡ length (nonces past)
  pub latest : RingHolds (FitsNonce setting.number past) setting.sizes.nonces (nonces past) ring.slots.items
  pub unused : (name : TableName) → ring.issued ≤ name.serial → admitted past name ≡ []
