use Rattle.std.proofs.Common.{◌≡◌, ◌-◌, ◌≤◌, length}
use Rattle.std.specs.Io.KnownBytes.{Consumes}
use Rattle.authd.proofs.input.read_input.Given as goal

abbrev pub invariant-loop-link : goal.invariant-loop-link
invariant-loop-link g l = record {
  bound : length l.input ≤ 16385;
  read : Consumes (g.L.Link.left l.initial.link) (g.L.Link.left l.link) l.input;
  written : g.L.Link.written l.link ≡ g.L.Link.written l.initial.link;
  write_faults : g.L.Link.write_faults l.link ≡ g.L.Link.write_faults l.initial.link;
  later : g.L.Link.read_faults l.initial.link ≤ g.L.Link.read_faults l.link;
}

abbrev pub decreases-loop-link : goal.decreases-loop-link
decreases-loop-link g l = 16385 - length l.input
