use Rattle.std.proofs.Common.{◌≡◌, drop}
use Rattle.client_core.specs.Conclusions.{renewed}
use Rattle.client_core.proofs.conclusion.renewed.Given as goal

-- none of the items so far renews
abbrev pub invariant-loop-item : goal.invariant-loop-item
invariant-loop-item l = renewed l.challenge (drop l.item-index l.items) ≡ renewed l.challenge l.items
