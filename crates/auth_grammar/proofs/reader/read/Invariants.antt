use Rattle.std.proofs.Common.{◌≤◌, ◌-◌, length, take}
use Rattle.auth_grammar.proofs.ReaderSteps.{HasRead}
use Rattle.auth_grammar.proofs.reader.read.Given as goal

abbrev pub invariant-loop-at : goal.invariant-loop-at
invariant-loop-at l = record {
  within : l.at ≤ length l.text;
  read : HasRead l.fn.grammar l.reader (take l.at l.text);
}

abbrev pub decreases-loop-at : goal.decreases-loop-at
decreases-loop-at l = length l.text - l.at
