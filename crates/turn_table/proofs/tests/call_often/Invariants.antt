use Rattle.std.proofs.Common.{◌≡◌}
use Rattle.turn_table.proofs.tests.call_often.Given as goal

abbrev pub invariant-loop : goal.invariant-loop
invariant-loop g l = l.caller.pass.table ≡ l.initial.caller.pass.table
