use Rattle.std.proofs.Common.{◌≡◌, ◌++◌}
use Rattle.proxy_core.proofs.Lines.{kept}
use Rattle.proxy_core.proofs.fields.put_passed.Given as goal

-- of the pairs so far those that are passed on
abbrev pub invariant-loop-pair : goal.invariant-loop-pair
invariant-loop-pair l = l.lines ≡ l.initial.lines ++ kept l.way l.fields l.yielded
