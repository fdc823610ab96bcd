use Rattle.std.proofs.Common.{◌∙◌, ◌≡◌, ℕ, ap, subst, arith}
use Rattle.nonce_shard.specs.Journal.{Journal}
use Rattle.drill.specs.Steps.{world_at}
use Rattle.drill.proofs.Generation.{LeadsTo, leads_more, line_told, within_step}
use Rattle.drill.proofs.drilling.drill_line.Goals as goal

pub loop-preserved : goal.loop-preserved
loop-preserved c =
    let l = c.loop in
    let new = c.take_step.new in
    let next = c.in_ok-take_step.ensures in
    record {
      leads = leads_more c.args.seed l.counter l.generator.state new.generator.state l.world new.world l.table new.table l.invariant.leads next;
      within = within_step l.counter l.generator.state new.generator.state l.world new.world l.table new.table (omega arith) l.invariant.within next;
      limit = ap (λ (j : Journal). j.limit) next.its_table ∙ l.invariant.limit;
      sizes = ap (λ (j : Journal). j.sizes) next.its_table ∙ l.invariant.sizes;
    }

pub returns : goal.returns
returns c =
    let l = c.loop in
    let number : l.counter ≡ c.args.steps = omega arith in
    line_told c.args.seed c.args.steps l.generator.state l.world l.table c.line.result
    (subst (λ (n : ℕ). LeadsTo c.args.seed n l.generator.state (world_at l.world l.table)) number l.invariant.leads) c.line.ensures
