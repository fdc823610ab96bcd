-- The shards once all passes were joined, and their histories.
use Rattle.std.proofs.Common.{◌≡◌, ◌≢◌, ℕ, zero, suc, ◌<◌, ◌≤◌, List, [], ◌∷◌, ◌++◌, length, map, fold, All, Contains, Some, sym, refl, ap, ◌∙◌, subst, append_assoc, append-nil, arith}
use Rattle.std.specs.List.{slice_get}
use Rattle.turn_table.specs.Lists.{Each}
use Rattle.turn_table.specs.History.{GrownByOthers, longer, owners_of}
use Rattle.turn_table.specs.Passes.{TableFacts, PassFacts, HasWholeHistory}
use Rattle.turn_table.proofs.ListFacts.{each_as, each_both, each_of_map}
use Rattle.nonce_shard.specs.declared.calls.Call.{Call}
use Rattle.nonce_shard.specs.declared.sizes.Sizes.{Sizes}
use Rattle.nonce_shard.specs.declared.sizes.Setting.{Setting}
use Rattle.nonce_shard.specs.Seat.{Entry, calls_of}
use Rattle.nonce_shard.specs.Shard.{totals_after}
use Rattle.nonce_table.specs.declared.closing.Closed.{Closed}
use Rattle.nonce_table.specs.Passes.{TablePassFacts, seat_of}
use Rattle.nonce_table.specs.Shards.{AreOpenings, opening_of, totals_of}
use Rattle.nonce_table.specs.Tables.{AreShards}
use Rattle.nonce_table.specs.Closing.{joined_at, history_of, IsClosingHistory, CountsHistories, sum_of}
use Rattle.nonce_table.proofs.Places.{some_is, get_short, got, get_map, length_map}
use Rattle.nonce_table.proofs.Making.{map_as}
use Rattle.nonce_table.proofs.Totalling.{totals_long, totals_there}

all_more : {A : Type 0} (P : A → Type 0) (x : A) (xs : List A) → P x → All P xs → All P (x ∷ xs)
all_more P x xs p a zero d h = p
all_more P x xs p a (suc k) d h = a k d (omega arith)

pub all_of_each : {A : Type 0} (P : A → Type 0) (xs : List A) → Each P xs → All P xs
all_of_each P [] e = λ k d h. absurd (omega arith)
all_of_each P (x ∷ xs) e = all_more P x xs e.0 (all_of_each P xs e.1)

abbrev One : Type 0
One = PassFacts Call Setting

abbrev Turns : Type 0
Turns = TableFacts Setting

module _ (s : ℕ) where
  abbrev pair_of : TablePassFacts → ℕ × List Entry
  pair_of p = (p.owner, (seat_of p).seen s)

  fold_made : (x : One) (ps : List TablePassFacts) → (fold (joined_at s) x ps).made ≡ x.made
  fold_made x [] = refl
  fold_made x (p ∷ ps) = fold_made (joined_at s x p) ps

  fold_seen : (x : One) (ps : List TablePassFacts) → (fold (joined_at s) x ps).seen ≡ fold longer x.seen (map (λ p. (seat_of p).seen s) ps)
  fold_seen x [] = refl
  fold_seen x (p ∷ ps) = fold_seen (joined_at s x p) ps

  fold_kept : (x : One) (ps : List TablePassFacts) → (fold (joined_at s) x ps).kept ≡ x.kept ++ map pair_of ps
  fold_kept x [] = sym (append-nil x.kept)
  fold_kept x (p ∷ ps) = fold_kept (joined_at s x p) ps ∙ append_assoc x.kept (pair_of p ∷ []) (map pair_of ps)

  fold_least : (x : One) (ps : List TablePassFacts) → x.noted ≤ (fold (joined_at s) x ps).noted
  fold_least x [] = omega arith
  fold_least x (p ∷ ps) = let h = fold_least (joined_at s x p) ps in omega arith

  fold_noted : (x : One) (ps : List TablePassFacts) → Each (λ p. (seat_of p).noted s ≤ (fold (joined_at s) x ps).noted) ps
  fold_noted x [] = tt
  fold_noted x (p ∷ ps) = ((let h = fold_least (joined_at s x p) ps in omega arith), fold_noted (joined_at s x p) ps)

-- the opening passes of a table, and as they are once these passes were joined
module _ (sizes : Sizes) (made : ℕ) (turns : List Turns) (first now : List One) (passes : List TablePassFacts) (are : AreShards sizes made turns first) (open_now : AreOpenings turns now)
    (lists : (s : ℕ) (x : One) → slice_get first s ≡ Some x → slice_get now s ≡ Some (fold (joined_at s) x passes)) where
  record Joined (s : ℕ) (y : One) : Type 0 where
    seen : y.seen ≡ history_of s passes
    kept : y.kept ≡ map (pair_of s) passes
    made_is : y.made ≡ made
    noted : Each (λ p. (seat_of p).noted s ≤ y.noted) passes

  joined : (s : ℕ) (y : One) → slice_get now s ≡ Some y → Joined s y
  joined s y at =
      let short = get_short now s y at in
      let long = open_now.long in
      let t = got turns s (omega arith) in
      let x : One = opening_of made t.0 in
      let here : slice_get first s ≡ Some x = ap (λ (l : List One). slice_get l s) are.opened ∙ get_map (opening_of made) turns s t.0 t.1 in
      let is : fold (joined_at s) x passes ≡ y = some_is (fold (joined_at s) x passes) y (sym (lists s x here) ∙ at) in
      subst (Joined s) is (record {
        seen = fold_seen s x passes;
        kept = fold_kept s x passes;
        made_is = fold_made s x passes;
        noted = fold_noted s x passes;
      })

  pub all_kept : length passes ≡ made → (s : ℕ) (y : One) → slice_get now s ≡ Some y → length y.kept ≡ y.made
  all_kept given s y at = let j = joined s y at in ap length j.kept ∙ length_map (pair_of s) passes ∙ given ∙ sym j.made_is

  pub counts : (closed : Closed) → closed ≡ sum_of (totals_of turns now) → CountsHistories sizes passes closed
  counts closed sum = record {
    totals = totals_of turns now;
    long = totals_long turns now open_now.long ∙ are.long;
    each = λ s u e.
        let o = totals_there turns now s u e in
        let j = joined s o.1 o.3 in
        o.4 ∙ ap (λ (st : Setting). totals_after st (calls_of o.1.seen)) (are.setting s o.0 o.2)
        ∙ ap (λ (l : List Entry). totals_after (record { number = s; sizes = sizes }) (calls_of l)) j.seen;
    sum = sum;
  }

  pub closing_history : ((s : ℕ) (y : One) → slice_get now s ≡ Some y → HasWholeHistory y) → (s : ℕ) → s < sizes.shards → IsClosingHistory s passes (history_of s passes)
  closing_history whole s h =
      let long = open_now.long in
      let all = are.long in
      let o = got now s (omega arith) in
      let t = got turns s (omega arith) in
      let y = o.0 in
      let j = joined s y o.1 in
      let w = whole s y o.1 in
      let silent = (open_now.each s t.0 y t.1 o.1).silent in
      let owners : owners_of y.kept ≡ map (λ (p : TablePassFacts). p.owner) passes = ap owners_of j.kept ∙ map_as passes (pair_of s) (λ (q : ℕ × List Entry). q.0) (λ (p : TablePassFacts). p.owner) (λ i p at. refl) in
      let lists_kept = subst (Each (λ (q : ℕ × List Entry). (1 ≤ q.0) × (q.0 ≤ y.made) × GrownByOthers y.seen q.0 q.1)) j.kept w.lists in
      let lists_of = each_of_map (λ (q : ℕ × List Entry). (1 ≤ q.0) × (q.0 ≤ y.made) × GrownByOthers y.seen q.0 q.1) (pair_of s) passes lists_kept in
      let lists_all : Each (λ (p : TablePassFacts). GrownByOthers (history_of s passes) p.owner ((seat_of p).seen s)) passes
      = each_as (λ (p : TablePassFacts). (1 ≤ p.owner) × (p.owner ≤ y.made) × GrownByOthers y.seen p.owner ((seat_of p).seen s)) (λ (p : TablePassFacts). GrownByOthers (history_of s passes) p.owner ((seat_of p).seen s))
      (λ p g. subst (λ (l : List Entry). GrownByOthers l p.owner ((seat_of p).seen s)) j.seen g.2) passes lists_of in
      let by : Each (λ (e : Entry). Contains (map (λ (p : TablePassFacts). p.owner) passes) e.0) y.seen
      = each_both (λ (e : Entry). e.0 ≢ 0) (λ (e : Entry). e.0 ≤ y.made) (λ (e : Entry). Contains (map (λ (p : TablePassFacts). p.owner) passes) e.0)
      (λ e ne le. subst (λ (l : List ℕ). Contains l e.0) owners (w.every e.0 (omega arith) le)) y.seen silent w.owners in
      let noted : Each (λ (p : TablePassFacts). (seat_of p).noted s ≤ length (history_of s passes)) passes
      = each_as (λ (p : TablePassFacts). (seat_of p).noted s ≤ y.noted) (λ (p : TablePassFacts). (seat_of p).noted s ≤ length (history_of s passes))
      (λ p n. let most = w.noted in let same : length y.seen ≡ length (history_of s passes) = ap length j.seen in omega arith) passes j.noted in
      record {
        lists = all_of_each _ passes lists_all;
        owners = subst (Each (λ (e : Entry). Contains (map (λ (p : TablePassFacts). p.owner) passes) e.0)) j.seen by;
        noted = all_of_each _ passes noted;
      }
