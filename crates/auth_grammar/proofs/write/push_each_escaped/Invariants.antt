use Rattle.std.proofs.Common.{◌≡◌, ◌++◌, drop}
use Rattle.auth_grammar.specs.Writing.{escaped}
use Rattle.auth_grammar.proofs.write.push_each_escaped.Given as goal

abbrev pub invariant-loop-b : goal.invariant-loop-b
invariant-loop-b l = l.out ++ escaped (drop l.b-index l.value) ≡ l.fn.out ++ escaped l.value
