use Rattle.std.proofs.Common.{◌≡◌, ℕ, ◌+◌, List, [], ◌∷◌, ◌++◌, length, sym, ap, ◌∙◌, subst, ⊎_elim, length-append, arith}
use Rattle.std.specs.List.{slice_get}
use Rattle.nonce_shard.specs.Shard.{StandsFor, setting}
use Rattle.nonce_shard.specs.declared.sizes.Setting.{Setting}
use Rattle.nonce_table.specs.declared.tests.slow.SlowShard.{SlowShard}
use Rattle.nonce_table.proofs.Places.{at_end}
use Rattle.nonce_table.proofs.tests.slow.slow_shards.Goals as goal

one_more : {A : Type 0} (old : List A) (new : A) (xs : List A) → xs ≡ old ++ new ∷ [] → length xs ≡ length old + 1
one_more old new xs e = omega (arith, ap length e, length-append old (new ∷ []))

pub loop-number-preserved : goal.loop-number-preserved
loop-number-preserved c =
    let i = c.loop-number.invariant in
    let old = c.loop-number.shards.items in
    let items = c.push_reserved.ensures.items in
    record {
      room = c.push_reserved.ensures.capacity ∙ i.room;
      long = one_more old _ _ items ∙ ap (λ (n : ℕ). n + 1) i.long;
      each = λ k o e. ⊎_elim
          (λ h. i.each k o h)
          (λ h. subst (λ (x : SlowShard). (setting x.shard ≡ record { number = k; sizes = c.args.sizes.now }) × StandsFor x.shard []) h.0
          (c.in_ok-open.ensures.setting ∙ ap (λ (n : ℕ). let st : Setting = record { number = n; sizes = c.args.sizes.now } in st) (sym i.long ∙ sym h.1), c.in_ok-open.ensures.stands))
          (at_end old _ o k (ap (λ (l : List SlowShard). slice_get l k) (sym items) ∙ e));
    }
