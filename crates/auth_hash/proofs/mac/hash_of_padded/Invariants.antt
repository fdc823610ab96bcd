-- The places so far are taken with the pad.
use Rattle.std.proofs.Common.{◌≡◌, ◌<◌, ℕ, bit_xor, length, slice_index_or}
use Rattle.auth_hash.proofs.mac.hash_of_padded.Given as goal

abbrev pub invariant-loop-at : goal.invariant-loop-at
invariant-loop-at l = (length l.padded ≡ 64) × ((i : ℕ) → i < l.at → slice_index_or l.padded i 0 ≡ bit_xor l.pad (slice_index_or l.block i 0))
