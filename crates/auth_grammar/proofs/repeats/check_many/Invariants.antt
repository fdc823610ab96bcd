use Rattle.std.proofs.Common.{◌≡◌, false, take}
use Rattle.auth_grammar.specs.Items.{unplaced}
use Rattle.auth_grammar.specs.Names.{has_repeat}
use Rattle.auth_grammar.proofs.RepeatLaws.{AreNames}
use Rattle.auth_grammar.proofs.repeats.check_many.Given as goal

abbrev pub invariant-loop-placed : goal.invariant-loop-placed
invariant-loop-placed l = record {
  single : has_repeat (unplaced (take l.placed-index l.params)) ≡ false;
  names : AreNames l.names (unplaced (take l.placed-index l.params));
}
