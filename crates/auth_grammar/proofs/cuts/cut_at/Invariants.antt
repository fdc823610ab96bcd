use Rattle.std.proofs.Common.{◌≡◌, ◌==◌, false, take}
use Rattle.std.specs.List.{list_any}
use Rattle.auth_grammar.proofs.cuts.cut_at.Given as goal

-- the byte hasn't come so far
abbrev pub invariant-loop-at : goal.invariant-loop-at
invariant-loop-at l = list_any (λ b. b == l.byte) (take l.at l.text) ≡ false
