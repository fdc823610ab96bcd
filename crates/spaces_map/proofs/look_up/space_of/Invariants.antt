use Rattle.std.proofs.Common.{◌≡◌, take}
use Rattle.std.specs.Prelude.{option_copied}
use Rattle.spaces_map.specs.Spaces.{space_of}
use Rattle.spaces_map.proofs.look_up.space_of.Given as goal

-- the best so far is the space among those so far
abbrev pub invariant-loop-space : goal.invariant-loop-space
invariant-loop-space l = option_copied l.best ≡ space_of l.path (take l.space-index l.spaces)
