use Rattle.std.proofs.Common.{◌≡◌, All, length, vec_capacity}
use Rattle.turn_table.proofs.tests.split_callers.Given as goal

abbrev pub invariant-loop : goal.invariant-loop
invariant-loop l = record {
  table : l.first.table ≡ l.initial.first.table;
  owner : l.first.owner ≡ 0;
  kept : l.first.kept ≡ l.initial.first.kept;
  made : l.first.made ≡ l.counter;
  long : length l.callers.items ≡ l.counter;
  room : vec_capacity l.callers ≡ 8;
  callers : All (λ c. c.pass.table ≡ l.table.id) l.callers.items;
}
