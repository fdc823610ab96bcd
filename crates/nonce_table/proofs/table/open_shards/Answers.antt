use Rattle.std.proofs.Common.{◌≡◌, ℕ, List, [], ◌∷◌, length, sym, ap, ◌∙◌, subst, ⊎_elim, length-append, arith}
use Rattle.std.specs.List.{slice_get}
use Rattle.nonce_shard.specs.Shard.{StandsFor, setting}
use Rattle.nonce_shard.specs.declared.shard.Shard.{Shard}
use Rattle.nonce_shard.specs.declared.sizes.Setting.{Setting}
use Rattle.nonce_table.proofs.Places.{at_end}
use Rattle.nonce_table.proofs.table.open_shards.Goals as goal

pub loop-number-preserved : goal.loop-number-preserved
loop-number-preserved c =
    let i = c.loop-number.invariant in
    let old = c.loop-number.shards.items in
    let new = c.in_ok-open.field-0 in
    let items = c.push_reserved.ensures.items in
    record {
      room = c.push_reserved.ensures.capacity ∙ i.room;
      long = omega (arith, ap length items, length-append old (new ∷ []), i.long);
      each = λ k o e. ⊎_elim
          (λ h. i.each k o h)
          (λ h. subst (λ (x : Shard). (setting x ≡ record { number = k; sizes = c.args.sizes.now }) × StandsFor x []) h.0
          (c.in_ok-open.ensures.setting ∙ ap (λ (n : ℕ). let st : Setting = record { number = n; sizes = c.args.sizes.now } in st) (sym i.long ∙ sym h.1), c.in_ok-open.ensures.stands))
          (at_end old new o k (ap (λ (l : List Shard). slice_get l k) (sym items) ∙ e));
    }
