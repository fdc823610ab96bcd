use Rattle.std.proofs.Common.{◌≡◌, ◌++◌, take}
use Rattle.auth_grammar.specs.Writing.{params_text}
use Rattle.auth_grammar.proofs.write.push_params.Given as goal

abbrev pub invariant-loop-i : goal.invariant-loop-i
invariant-loop-i l = l.out ≡ l.fn.out ++ params_text l.quoting (take l.i l.params)
