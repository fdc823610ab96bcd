use Rattle.std.proofs.Common.{◌≡◌, ◌<◌, List, ℕ, Some, length, sym, ap, ◌∙◌, arith}
use Rattle.std.specs.Prelude.{option_copied}
use Rattle.spaces_map.specs.Spaces.{holds}
use Rattle.spaces_map.specs.declared.space.Space.{Space}
use Rattle.spaces_map.proofs.LookUps.{one_held, none_held}
use Rattle.spaces_map.proofs.look_up.space_of.Goals as goal
use Rattle.spaces_map.proofs.look_up.space_of.Goals.{then-holds, else-holds}

pub loop-space-preserved : goal.loop-space-preserved
loop-space-preserved c =
    let path = c.args.path.now in
    let spaces = c.args.spaces.now in
    let item = c.space-item.result in
    let within : c.loop-space.space-index < length spaces = omega arith in
    let tested : holds item.prefix path ≡ c.holds.result = ap (λ (p : List ℕ). holds p path) (sym c.bytes.ensures) ∙ sym c.holds.ensures in
    elim c.if-holds.branch [
      | then-holds w ↦ ap option_copied w.best-is ∙ ap (λ (s : Space). Some s) w.later_of.ensures
          ∙ one_held path spaces c.loop-space.space-index item (option_copied c.loop-space.best) within c.space-item.is c.loop-space.invariant (tested ∙ w.if-holds.true)
      | else-holds w ↦ ap option_copied w.best-is
          ∙ none_held path spaces c.loop-space.space-index item (option_copied c.loop-space.best) within c.space-item.is c.loop-space.invariant (tested ∙ w.if-holds.false)
    ]
