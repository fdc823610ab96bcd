use Rattle.std.proofs.Common.{◌≡◌, true, take}
use Rattle.std.specs.List.{list_all}
use Rattle.scram_text.specs.Contents.{is_of}
use Rattle.scram_text.proofs.runs.run_reach.Given as goal

-- the bytes so far are of the class
abbrev pub invariant-loop-at : goal.invariant-loop-at
invariant-loop-at l = list_all (is_of l.class) (take l.at l.text) ≡ true
