use Rattle.std.proofs.Common.{◌≡◌, drop}
use Rattle.client_core.specs.Hearings.{continued}
use Rattle.client_core.proofs.hearing.continued.Given as goal

-- none of the items so far has both
abbrev pub invariant-loop-item : goal.invariant-loop-item
invariant-loop-item l = continued (drop l.item-index l.items) ≡ continued l.items
