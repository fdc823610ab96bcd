use Rattle.std.proofs.Common.{◌≡◌, ℕ, ◌+◌, List, [], ◌∷◌, ◌++◌, length, get_or, sym, ap, ◌∙◌, ⊎_elim, length-append, arith}
use Rattle.std.specs.List.{slice_get}
use Rattle.std.proofs.lemmas.Option.{slice_get-get_or}
use Rattle.nonce_table.specs.Passes.{TablePassFacts}
use Rattle.nonce_table.specs.Tables.{NonceTableFacts, new_pass}
use Rattle.nonce_table.proofs.Places.{at_end}
use Rattle.nonce_table.proofs.Taking.{taken_next}
use Rattle.nonce_table.proofs.table.NonceTable.passes.Goals as goal

pub loop-room-preserved : goal.loop-room-preserved
loop-room-preserved g c =
    let i = c.loop-room.invariant in
    let first = c.args.self.now in
    let yielded = c.loop-room.yielded in
    let room = c.in-Some.room in
    let old = c.loop-room.passes.items in
    let pass = c.next_pass.result in
    let items = c.push_reserved.ensures.items in
    let more = length-append yielded (room ∷ []) in
    let count : (first.made + length yielded) + 1 ≡ first.made + length (yielded ++ room ∷ []) = omega arith in
    record {
      taken = taken_next _ yielded _ _ _ _ room i.taken c.in-Some.ensures.steps.0 c.in-Some.ensures.steps.1;
      table = c.next_pass.ensures.table ∙ ap (λ (t : NonceTableFacts). record t { made = t.made + 1 }) i.table ∙ ap (λ (n : ℕ). record first { made = n }) count;
      capacity = c.push_reserved.ensures.capacity ∙ i.capacity;
      long = let a = ap length items in let b = length-append old (pass ∷ []) in let d = i.long in omega arith;
      new = λ k p e. ⊎_elim
          (λ h. i.new k p h)
          (λ h.
          let long = i.long in
          let at = h.1 in
          let number : (first.made + length yielded) + 1 ≡ first.made + 1 + k = omega arith in
          sym h.0 ∙ c.next_pass.ensures.pass ∙ ap (λ (t : NonceTableFacts). new_pass t (t.made + 1)) i.table ∙ ap (λ (n : ℕ). new_pass first n) number)
          (at_end old pass p k (ap (λ (l : List TablePassFacts). slice_get l k) (sym items) ∙ e));
    }

pub returns-clause-of : goal.returns-clause-of
returns-clause-of g c = λ k d h.
    let i = c.loop-room.invariant in
    let passes = c.loop-room.passes.items in
    let is = i.new k (get_or passes k d) (slice_get-get_or passes k d h) in
    let sizes = ap (λ (t : NonceTableFacts). t.sizes) i.table in
    let names = ap (λ (t : NonceTableFacts). t.names) i.table in
    (ap (λ (p : TablePassFacts). p.sizes) is ∙ sym sizes, ap (λ (p : TablePassFacts). p.table) is ∙ sym names)
