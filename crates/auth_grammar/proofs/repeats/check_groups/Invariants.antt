use Rattle.std.proofs.Common.{map, take}
use Rattle.auth_grammar.specs.Repeats.{AreSingle, params_in}
use Rattle.auth_grammar.proofs.repeats.check_groups.Given as goal

abbrev pub invariant-loop-group : goal.invariant-loop-group
invariant-loop-group l = AreSingle (map params_in (take l.group-index l.groups))
