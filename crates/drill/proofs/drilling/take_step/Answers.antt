use Rattle.std.proofs.Common.{Some, Err, ap, subst, ◌∙◌, ℕ}
use Rattle.drill.specs.Drilling.{told_from}
use Rattle.drill.specs.Steps.{IsStep}
use Rattle.drill.proofs.Generation.{never_worn, next_of, no_fault}
use Rattle.drill.proofs.drilling.take_step.Goals as goal

pub unreachable-requires : goal.unreachable-requires
unreachable-requires c = no_fault (c.drill_step.ensures.fault (c.in-Err-RandomFault.is ∙ ap Err c.in-Err-RandomFault.field-0-is))

pub unreachable-requires-in-Err-Worn : goal.unreachable-requires-in-Err-Worn
unreachable-requires-in-Err-Worn c =
    let w = c.in-Err-Worn in
    never_worn c.event-event.result c.args.world.now c.args.table.now c.drill_step.new.table w.field-0-0 c.requires.calls (c.drill_step.ensures.worn w.field-0-0 (w.is ∙ ap Err w.field-0-is))

pub returns-in-Ok : goal.returns-in-Ok
returns-in-Ok c =
    let before = c.args.world.now in
    let new = c.drill_step.new in
    let told = c.new-words.result in
    let s = subst (λ (n : ℕ). IsStep c.event-event.result before new.world c.args.table.now new.table (Some (told_from n told.begun)) (Some (told_from new.random.drawn new.random.begun))) c.new-words.ensures.none c.in-Ok.ensures.ok in
    let step = subst (λ (y : ℕ). IsStep c.event-event.result before new.world c.args.table.now new.table (Some (told_from 0 y)) (Some (told_from new.random.drawn new.random.begun))) c.new-words.ensures.begun s in
    next_of c.args.generator.now.state c.event-event.new.self.state c.generator.result.state new.random.begun c.made.result new.random.drawn c.event-event.result before new.world c.args.table.now new.table
    c.made.ensures c.event-event.ensures step (λ room. c.generator.ensures ∙ new.random.goes room)
