use Rattle.std.proofs.Common.{◌≡◌, ◌⊎◌, [], take}
use Rattle.scram_text.proofs.CountLaws.{IsCountText}
use Rattle.scram_text.proofs.counts.count_reach.Given as goal

-- the bytes so far are none, or a count
abbrev pub invariant-loop-at : goal.invariant-loop-at
invariant-loop-at l = (take l.at l.text ≡ []) ⊎ IsCountText (take l.at l.text)
