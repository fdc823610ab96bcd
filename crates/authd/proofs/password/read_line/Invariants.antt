use Rattle.std.proofs.Common.{◌≡◌, ◌≤◌, ◌-◌, length}
use Rattle.std.specs.Io.KnownBytes.{Consumes}
use Rattle.cred_store.specs.Values.{HasNo}
use Rattle.authd.proofs.password.read_line.Given as goal

abbrev pub invariant-loop-alloc : goal.invariant-loop-alloc
invariant-loop-alloc g l = record {
  bound : length l.line ≤ 130;
  read : Consumes (g.L.Link.left l.initial.link) (g.L.Link.left l.link) l.line;
  none : HasNo 10 l.line;
  written : g.L.Link.written l.link ≡ g.L.Link.written l.initial.link;
  write_faults : g.L.Link.write_faults l.link ≡ g.L.Link.write_faults l.initial.link;
  later : g.L.Link.read_faults l.initial.link ≤ g.L.Link.read_faults l.link;
}

abbrev pub decreases-loop-alloc : goal.decreases-loop-alloc
decreases-loop-alloc g l = 130 - length l.line
