use Rattle.std.proofs.Common.{List, ℕ, ◌++◌, take}
use Rattle.auth_grammar.specs.declared.grammar.Grammar.{Grammar}
use Rattle.auth_grammar.specs.Walks.{Stands}
use Rattle.auth_grammar.proofs.walker.Walker.walk.Given as goal

abbrev pub invariant-loop-i : goal.invariant-loop-i
invariant-loop-i l = (grammar : Grammar) (fed : List ℕ) → Stands grammar l.fn.self fed → Stands grammar l.walker (fed ++ take l.i l.piece)
