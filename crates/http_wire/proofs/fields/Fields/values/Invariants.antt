use Rattle.std.proofs.Common.{◌≡◌, ◌++◌, List, ℕ}
use Rattle.http_wire.specs.Fields.{values_of}
use Rattle.http_wire.specs.Values.{AreValues}
use Rattle.http_wire.proofs.fields.Fields.values.Given as goal

-- the values so far, and those to come
abbrev pub invariant-loop-written : goal.invariant-loop-written
invariant-loop-written l = record {
  before : List (List ℕ);
  found : AreValues before l.found;
  all : before ++ values_of l.written-iterator l.name ≡ values_of l.fn.self l.name;
}
