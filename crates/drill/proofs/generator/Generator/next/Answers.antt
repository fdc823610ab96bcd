use Rattle.std.proofs.Common.{◌∙◌, ap, ◌/◌, ◌^◌, ℕ}
use Rattle.drill.proofs.Generation.{moved_by_parts, upper_is}
use Rattle.drill.specs.Generator.{moved}
use Rattle.drill.proofs.generator.Generator.next.Goals as goal

pub returns-clause-state : goal.returns-clause-state
returns-clause-state c = moved_by_parts c.args.self.now.state

pub returns-clause-gives : goal.returns-clause-gives
returns-clause-gives c = ap (λ (n : ℕ). n / 2 ^ 32) (moved_by_parts c.args.self.now.state) ∙ upper_is (moved c.args.self.now.state)
