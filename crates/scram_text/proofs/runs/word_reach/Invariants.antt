use Rattle.std.proofs.Common.{◌≡◌, ◌≤◌, length, take}
use Rattle.scram_text.proofs.runs.word_reach.Given as goal

-- the bytes so far are the word's
abbrev pub invariant-loop-at : goal.invariant-loop-at
invariant-loop-at l = (take l.at l.text ≡ take l.at l.word) × (l.at ≤ length l.word)
