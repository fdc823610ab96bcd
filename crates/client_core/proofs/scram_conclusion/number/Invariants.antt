use Rattle.std.proofs.Common.{◌≡◌, ◌≤◌, take}
use Rattle.std.specs.Str.Parse.{digits_value}
use Rattle.client_core.proofs.scram_conclusion.number.Given as goal

-- the number so far
abbrev pub invariant-loop-b : goal.invariant-loop-b
invariant-loop-b l = record {
  is : l.n ≡ digits_value 10 (take l.b-index l.digits);
  fits : l.n ≤ 999999999;
}
