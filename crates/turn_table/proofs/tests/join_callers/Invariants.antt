use Rattle.std.proofs.Common.{◌≡◌, length}
use Rattle.turn_table.proofs.tests.join_callers.Given as goal

abbrev pub invariant-loop-caller : goal.invariant-loop-caller
invariant-loop-caller l = record {
  table : l.all.table ≡ l.initial.all.table;
  owner : l.all.owner ≡ 0;
  made : l.all.made ≡ l.initial.all.made;
  kept : length l.all.kept ≡ length l.yielded;
}
