-- The texts are the same exactly where their fronts are, and what is left of them.
use Rattle.std.proofs.Common.{◌≡◌, ◌&&◌, bytes_eq, length}
use Rattle.auth_hash.proofs.same.same_bytes.Given as goal

abbrev pub invariant-bytes : goal.invariant-bytes
invariant-bytes l = (l.same && bytes_eq l.left l.right) ≡ bytes_eq l.a l.b

abbrev pub decreases-bytes : goal.decreases-bytes
decreases-bytes l = length l.left
