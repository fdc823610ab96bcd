use Rattle.std.proofs.Common.{◌≡◌, false, take}
use Rattle.auth_grammar.specs.Items.{unplaced}
use Rattle.auth_grammar.specs.Names.{has_repeat}
use Rattle.auth_grammar.proofs.repeats.check_few.Given as goal

abbrev pub invariant-loop-i : goal.invariant-loop-i
invariant-loop-i l = has_repeat (unplaced (take l.i l.fn.params)) ≡ false
