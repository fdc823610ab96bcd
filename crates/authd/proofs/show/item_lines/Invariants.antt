use Rattle.std.proofs.Common.{◌≡◌}
use Rattle.authd.specs.Show.{item_lines}
use Rattle.authd.proofs.show.item_lines.Given as goal

abbrev pub invariant-loop-item : goal.invariant-loop-item
invariant-loop-item l = l.text ≡ item_lines l.yielded
