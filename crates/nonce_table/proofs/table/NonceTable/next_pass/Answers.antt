use Rattle.std.proofs.Common.{◌+◌, ◌<◌, List, sym, ap, ◌∙◌, subst}
use Rattle.turn_table.specs.Passes.{PassFacts}
use Rattle.nonce_shard.specs.declared.calls.Call.{Call}
use Rattle.nonce_shard.specs.declared.sizes.Setting.{Setting}
use Rattle.nonce_table.specs.declared.table.TheConstants.{MOST_PASSES}
use Rattle.nonce_table.specs.Passes.{ArePassesOf, facts_of}
use Rattle.nonce_table.specs.Tables.{NonceTableFacts, AreShards, new_pass}
use Rattle.nonce_table.proofs.Making.{made_passes, made_facts, split_shards}
use Rattle.nonce_table.proofs.table.NonceTable.next_pass.Goals as goal

pub of-requires : goal.of-requires
of-requires g c = let i = c.self.inside in
    subst (ArePassesOf (i.made + 1) i.sizes) (sym c.split_all-passes.ensures.passes) (made_passes i.sizes i.made i.turns i.openings.items c.self.invariant)

pub invariant_of-self : goal.invariant_of-self
invariant_of-self g c =
    let i = c.self.inside in
    let few : i.made < MOST_PASSES = subst (λ (t : NonceTableFacts). t.made < MOST_PASSES) (sym c.self.view_is) c.requires.few in
    subst (AreShards i.sizes (i.made + 1) i.turns) (sym c.split_all-passes.ensures.openings) (split_shards i.sizes i.made i.turns i.openings.items c.self.invariant few)

pub returns-clause-pass : goal.returns-clause-pass
returns-clause-pass g c =
    let i = c.self.inside in
    c.of.ensures ∙ ap (λ (l : List (PassFacts Call Setting)). facts_of (i.made + 1) i.sizes l) c.split_all-passes.ensures.passes
    ∙ made_facts i.sizes i.made i.turns i.openings.items c.self.invariant
    ∙ ap (λ (t : NonceTableFacts). new_pass t (t.made + 1)) c.self.view_is

pub returns-clause-table : goal.returns-clause-table
returns-clause-table g c = ap (λ (t : NonceTableFacts). record t { made = t.made + 1 }) c.self.view_is
