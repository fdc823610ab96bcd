-- A ring: the latest of the things that were made in turn, each at its serial modulo the ring's size.
use Rattle.std.specs.Prelude.{◌≡◌, ℕ, ◌-◌, ◌<◌, ◌%◌, ◌&&◌, if◌then◌else◌, nat_lt, Option, Some, None, List, [], ◌∷◌, ◌++◌, length, slice_get}
use Rattle.nonce_shard.specs.declared.calls.What.{What}
use Rattle.nonce_shard.specs.declared.calls.Reply.{Reply}
use Rattle.nonce_shard.specs.declared.sizes.Setting.{Setting}
use Rattle.nonce_shard.specs.declared.history.Answered.{Answered}
use Rattle.nonce_shard.specs.Replies.{reply_to}

-- the place of a serial, where it was made and fewer than the ring's size were made since
abbrev pub place_of : ℕ → ℕ → ℕ → Option ℕ
place_of serial made size = if nat_lt serial made && nat_lt (made - serial - 1) size then Some (serial % size) else None

-- a slot of the ring, at the place of its serial, with what fits the thing that was made
pub record HeldAt {A S : Type 0} (Fits : ℕ → A → S → Type 0) (slots : List S) (size serial : ℕ) (x : A) : Type 0 where
  pub slot : S
  pub at : slice_get slots (serial % size) ≡ Some slot
  pub fits : Fits serial x slot

-- the ring holds the latest of these things, as many as it has slots
pub record RingHolds {A S : Type 0} (Fits : ℕ → A → S → Type 0) (size : ℕ) (made : List A) (slots : List S) : Type 0 where
  pub length_is : length slots ≡ size
  pub held : (serial : ℕ) (x : A) → slice_get made serial ≡ Some x → length made - serial - 1 < size
      → HeldAt Fits slots size serial x

-- ---- a call, by what holds before it and after it

-- what is asked at a time has the reply that follows from the calls answered before, whichever they are
abbrev pub RepliesTo : (List Answered → Type 0) → Setting → ℕ → What → Reply → Type 0
RepliesTo Before set now what reply = (past : List Answered) → Before past → reply ≡ reply_to set.sizes set.number past now what

-- and is then one of them, with this reply
abbrev pub HoldsNext : (List Answered → Type 0) → (List Answered → Type 0) → ℕ → What → Reply → Type 0
HoldsNext Before After now what reply = (past : List Answered) (a : Answered) → Before past
    → a.call.what ≡ what → a.time ≡ now → a.reply ≡ reply → After (past ++ a ∷ [])
