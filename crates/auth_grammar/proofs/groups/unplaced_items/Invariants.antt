use Rattle.std.proofs.Common.{◌≡◌, map}
use Rattle.auth_grammar.specs.Items.{item_of}
use Rattle.auth_grammar.proofs.groups.unplaced_items.Given as goal

abbrev pub invariant-loop-group : goal.invariant-loop-group
invariant-loop-group l = l.items ≡ map item_of l.yielded
