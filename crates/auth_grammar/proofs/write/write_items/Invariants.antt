use Rattle.std.proofs.Common.{◌≡◌, take}
use Rattle.auth_grammar.specs.Writing.{items_text}
use Rattle.auth_grammar.proofs.write.write_items.Given as goal

abbrev pub invariant-loop-i : goal.invariant-loop-i
invariant-loop-i l = l.out ≡ items_text l.quoting (take l.i l.item-items)
