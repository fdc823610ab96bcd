use Rattle.std.proofs.Common.{◌≡◌, drop}
use Rattle.auth_grammar.specs.Names.{has_repeat}
use Rattle.auth_grammar.proofs.names.has_repeat.Given as goal

abbrev pub invariant-loop-i : goal.invariant-loop-i
invariant-loop-i l = has_repeat l.items ≡ has_repeat (drop l.i l.items)
