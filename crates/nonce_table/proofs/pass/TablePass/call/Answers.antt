use Rattle.std.proofs.Common.{◌≡◌, [], ◌∷◌, length, map, Result, Ok, Err, IfOk, IfErr, sym, subst, ap, ◌∙◌, arith}
use Rattle.turn_table.specs.Passes.{PassFacts, TableFacts}
use Rattle.nonce_shard.specs.declared.calls.Call.{Call}
use Rattle.nonce_shard.specs.declared.sizes.Setting.{Setting}
use Rattle.nonce_shard.specs.Seat.{Grows, IsWorn}
use Rattle.nonce_table.specs.Passes.{TablePassFacts, facts_of, name_of, seat_of}
use Rattle.nonce_table.specs.Tables.{names_of}
use Rattle.nonce_table.proofs.Joining.{as_many, named_at}
use Rattle.nonce_table.proofs.Places.{some_is}
use Rattle.nonce_table.proofs.Growing.{answered_passes, worn_passes, answered_table, worn_table, answered_grows, worn_is_worn}
use Rattle.nonce_table.proofs.pass.TablePass.call.Goals as goal

either : {A E T : Type 0} (r : Result A E) (P : A → Type 0) (Q : E → Type 0) → IfOk r P → IfErr r Q → ((v : A) → P v → T) → ((e : E) → Q e → T) → T
either (Ok v) P Q p q f g = f v p
either (Err e) P Q p q f g = g e q

ok_as : {A E : Type 0} (r : Result A E) (P R : A → Type 0) → IfOk r P → ((v : A) → P v → R v) → IfOk r R
ok_as (Ok v) P R p f = f v p
ok_as (Err e) P R p f = p

err_as : {A E : Type 0} (r : Result A E) (P R : E → Type 0) → IfErr r P → ((e : E) → P e → R e) → IfErr r R
err_as (Ok v) P R p f = p
err_as (Err e) P R p f = f e p

pub at-requires : goal.at-requires
at-requires g c =
    let i = c.self.inside in
    let names : map (λ (p : PassFacts Call Setting). name_of p.table) i.passes.items ≡ names_of c.args.turns.now = ap (λ (k : TablePassFacts). k.table) c.self.view_is ∙ c.requires.of in
    let many : length i.passes.items ≡ length c.args.turns.now = as_many i.passes.items c.args.turns.now names in
    let sizes : i.sizes.shards ≡ c.args.self.now.sizes.shards = ap (λ (k : TablePassFacts). k.sizes.shards) c.self.view_is in
    let long = c.self.invariant.long in
    let within = c.requires.in_range in
    omega arith

pub call_on-requires-clause-table : goal.call_on-requires-clause-table
call_on-requires-clause-table g c = λ p e.
    let i = c.self.inside in
    let names : map (λ (q : PassFacts Call Setting). name_of q.table) i.passes.items ≡ names_of c.args.turns.now = ap (λ (k : TablePassFacts). k.table) c.self.view_is ∙ c.requires.of in
    let n = named_at i.passes.items c.args.turns.now names c.args.shard p e in
    n.2 ∙ ap (λ (t : TableFacts Setting). t.id) (some_is n.0 c.at.result.now (sym n.1 ∙ c.at.ensures))

pub invariant_of-self : goal.invariant_of-self
invariant_of-self g c =
    let i = c.self.inside in
    either c.call_on.result _ _ c.call_on.ensures.ok c.call_on.ensures.worn
    (λ v a. answered_passes i.owner i.sizes i.passes.items c.call_on.new.passes.items c.args.shard c.self.invariant c.args.call.now v a)
    (λ e w. worn_passes i.owner i.sizes i.passes.items c.call_on.new.passes.items c.args.shard c.self.invariant e.calls w)

pub returns-clause-ok : goal.returns-clause-ok
returns-clause-ok g c =
    let i = c.self.inside in
    ok_as c.call_on.result _ _ c.call_on.ensures.ok
    (λ v a. subst (λ (k : TablePassFacts). Grows (seat_of k) (seat_of (facts_of i.owner i.sizes c.call_on.new.passes.items)) (record { shard = c.args.shard; call = c.args.call.now; reply = v } ∷ [])) c.self.view_is
    (answered_grows i.owner i.sizes i.passes.items c.call_on.new.passes.items c.args.shard c.self.invariant c.args.call.now v a))

pub returns-clause-worn : goal.returns-clause-worn
returns-clause-worn g c =
    let i = c.self.inside in
    err_as c.call_on.result _ _ c.call_on.ensures.worn
    (λ e w. subst (λ (k : TablePassFacts). IsWorn (seat_of k) (seat_of (facts_of i.owner i.sizes c.call_on.new.passes.items)) c.args.shard e.calls) c.self.view_is
    (worn_is_worn i.owner i.sizes i.passes.items c.call_on.new.passes.items c.args.shard c.self.invariant e.calls w))

pub returns-clause-table : goal.returns-clause-table
returns-clause-table g c =
    let i = c.self.inside in
    either c.call_on.result _ _ c.call_on.ensures.ok c.call_on.ensures.worn
    (λ v a. answered_table i.owner i.sizes i.passes.items c.call_on.new.passes.items c.args.shard c.self.invariant c.args.call.now v a)
    (λ e w. worn_table i.owner i.sizes i.passes.items c.call_on.new.passes.items c.args.shard c.self.invariant e.calls w)
    ∙ ap (λ (k : TablePassFacts). k.table) c.self.view_is
