use Rattle.std.proofs.Common.{subst, sym}
use Rattle.drill.specs.Steps.{IsStep, IsWornBy}
use Rattle.drill.specs.declared.event.DrillEvent.{DrillEvent}
use Rattle.drill.proofs.Stepping.{pass_step}
use Rattle.drill.proofs.step.drill_step.Goals as goal

pub returns-in-Challenge-clause-worn : goal.returns-in-Challenge-clause-worn
returns-in-Challenge-clause-worn g c calls is =
    let W : DrillEvent → Type 0 = λ e. IsWornBy e c.args.world.now c.args.table.now c.challenge.new.table calls in
    subst W (sym c.in-Challenge.is) (c.challenge.ensures.worn calls is)

pub returns-in-Deliver-clause-worn : goal.returns-in-Deliver-clause-worn
returns-in-Deliver-clause-worn g c calls is =
    let W : DrillEvent → Type 0 = λ e. IsWornBy e c.args.world.now c.args.table.now c.deliver.new.table calls in
    subst W (sym c.in-Deliver.is) (c.deliver.ensures.worn calls is)

pub returns-in-Pass-clause-ok : goal.returns-in-Pass-clause-ok
returns-in-Pass-clause-ok g c =
    let drawn = g.W.Words.drawn c.args.random.now in
    let S : DrillEvent → Type 0 = λ e. IsStep e c.args.world.now c.pass.new.self c.args.table.now c.args.table.now drawn drawn in
    subst S (sym c.in-Pass.is) (pass_step c.args.world.now c.pass.new.self c.args.table.now drawn c.in-Pass.seconds c.pass.ensures)
