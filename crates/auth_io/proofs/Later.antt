-- Counts that never fall.
use Rattle.std.proofs.Common.{◌≤◌, ℕ, arith}
use Rattle.auth_io.specs.Causes.{Rose}

pub later_none : (a : ℕ) → a ≤ a
later_none a = omega arith

pub later_trans : (a b c : ℕ) → a ≤ b → b ≤ c → a ≤ c
later_trans a b c p q = omega (arith, p, q)

-- a count that rose later has risen over the whole
pub rose_later : (a b c : ℕ) → a ≤ b → Rose b c → Rose a c
rose_later a b c p q = omega (arith, p, q)
