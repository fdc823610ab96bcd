-- The places so far are the XOR of the two.
use Rattle.std.proofs.Common.{◌≡◌, ◌<◌, ℕ, bit_xor, length, slice_index_or}
use Rattle.auth_hash.proofs.salting.xor32.Given as goal

abbrev pub invariant-loop-at : goal.invariant-loop-at
invariant-loop-at l = (length l.all ≡ 32) × ((i : ℕ) → i < l.at → slice_index_or l.all i 0 ≡ bit_xor (slice_index_or l.a i 0) (slice_index_or l.b i 0))
