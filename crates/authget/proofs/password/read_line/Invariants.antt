use Rattle.std.proofs.Common.{◌≡◌, ◌≤◌, ◌-◌, length}
use Rattle.std.specs.Io.KnownBytes.{Consumes}
use Rattle.authget.specs.Passwords.{HasNoFeed}
use Rattle.authget.proofs.password.read_line.Given as goal

abbrev pub invariant-loop-alloc : goal.invariant-loop-alloc
invariant-loop-alloc g l = record {
  bound : length l.line ≤ 130;
  read : Consumes (g.S.Source.left l.initial.input) (g.S.Source.left l.input) l.line;
  none : HasNoFeed l.line;
  kept : g.S.Source.faults l.input ≡ g.S.Source.faults l.initial.input;
}

abbrev pub decreases-loop-alloc : goal.decreases-loop-alloc
decreases-loop-alloc g l = 130 - length l.line
