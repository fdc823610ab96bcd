use Rattle.std.proofs.Common.{◌≡◌, ◌++◌, map}
use Rattle.request_deciding.specs.Lines.{item_line}
use Rattle.request_deciding.proofs.lines.put_items.Given as goal

-- the items so far have their lines
abbrev pub invariant-loop-item : goal.invariant-loop-item
invariant-loop-item l = l.lines ≡ l.initial.lines ++ map (item_line l.name) l.yielded
