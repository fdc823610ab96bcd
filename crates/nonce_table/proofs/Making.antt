-- The passes that a table makes, and the table after each.
use Rattle.std.proofs.Common.{◌≡◌, ℕ, zero, suc, ◌+◌, ◌<◌, List, [], ◌∷◌, length, map, Some, sym, refl, ap, ◌∙◌, subst, arith}
use Rattle.std.specs.List.{slice_get}
use Rattle.turn_table.specs.Passes.{TableFacts, PassFacts, next_pass}
use Rattle.nonce_shard.specs.declared.calls.Call.{Call}
use Rattle.nonce_shard.specs.declared.sizes.Sizes.{Sizes}
use Rattle.nonce_shard.specs.declared.sizes.Setting.{Setting}
use Rattle.nonce_shard.specs.Seat.{Entry}
use Rattle.nonce_table.specs.declared.table.TheConstants.{MOST_PASSES}
use Rattle.nonce_table.specs.Passes.{TablePassFacts, IsPassTo, ArePassesOf, name_of, facts_of}
use Rattle.nonce_table.specs.Shards.{AreOpenings, IsOpening, opening_of}
use Rattle.nonce_table.specs.Tables.{AreShards, names_of, table_facts, new_pass}
use Rattle.nonce_table.proofs.Places.{some_is, get_map, get_of_map, length_map}

-- a list that is mapped twice, where the two make one
pub map_as : {A B Y : Type 0} (xs : List A) (h : A → B) (f : B → Y) (k : A → Y) → ((s : ℕ) (x : A) → slice_get xs s ≡ Some x → f (h x) ≡ k x) → map f (map h xs) ≡ map k xs
map_as [] h f k e = refl
map_as {A} {B} {Y} (x ∷ xs) h f k e = ap (λ (y : Y). y ∷ map f (map h xs)) (e zero x refl) ∙ ap (λ (l : List Y). k x ∷ l) (map_as xs h f k (λ s y at. e (suc s) y at))

abbrev One : Type 0
One = PassFacts Call Setting

abbrev Turns : Type 0
Turns = TableFacts Setting

-- the pass that is split next from the opening pass to these turns
abbrev pub new_of : ℕ → Turns → One
new_of made t = next_pass (opening_of made t)

module _ (sizes : Sizes) (made : ℕ) (turns : List Turns) (openings : List One) (are : AreShards sizes made turns openings) where
  pub made_passes : ArePassesOf (made + 1) sizes (map (new_of made) turns)
  made_passes = record {
    long = length_map (new_of made) turns ∙ are.long;
    some = are.valid.some_shard;
    each = λ s p e.
        let o = get_of_map (new_of made) turns s p e in
        subst (IsPassTo (made + 1) sizes s) (sym o.2) (record {
          owner_is = refl;
          setting_is = ap (λ (z : Setting). Some z) (are.setting s o.0 o.1);
          noted = omega arith;
        });
  }

  pub made_facts : facts_of (made + 1) sizes (map (new_of made) turns) ≡ new_pass (table_facts sizes turns made) (made + 1)
  made_facts =
      let made_of : List (List ℕ) → List (List Entry) → List ℕ → TablePassFacts = λ t l n. record { owner = made + 1; sizes = sizes; table = t; seen = l; noted = n } in
      let name : Turns → List ℕ = λ t. name_of t.id in
      let table : map (λ (p : One). name_of p.table) (map (new_of made) turns) ≡ names_of turns = map_as turns (new_of made) (λ (p : One). name_of p.table) name (λ s t at. refl) in
      let seen : map (λ (p : One). p.seen) (map (new_of made) turns) ≡ map (λ (l : List ℕ). let none : List Entry = [] in none) (names_of turns)
      = map_as turns (new_of made) (λ (p : One). p.seen) (λ (t : Turns). let none : List Entry = [] in none) (λ s t at. refl)
      ∙ sym (map_as turns name (λ (l : List ℕ). let none : List Entry = [] in none) (λ (t : Turns). let none : List Entry = [] in none) (λ s t at. refl)) in
      let noted : map (λ (p : One). p.noted) (map (new_of made) turns) ≡ map (λ (l : List ℕ). 0) (names_of turns)
      = map_as turns (new_of made) (λ (p : One). p.noted) (λ (t : Turns). 0) (λ s t at. refl)
      ∙ sym (map_as turns name (λ (l : List ℕ). 0) (λ (t : Turns). 0) (λ s t at. refl)) in
      ap (λ (t : List (List ℕ)). made_of t (map (λ (p : One). p.seen) (map (new_of made) turns)) (map (λ (p : One). p.noted) (map (new_of made) turns))) table
      ∙ ap (λ (l : List (List Entry)). made_of (names_of turns) l (map (λ (p : One). p.noted) (map (new_of made) turns))) seen
      ∙ ap (λ (n : List ℕ). made_of (names_of turns) (map (λ (l : List ℕ). let none : List Entry = [] in none) (names_of turns)) n) noted

  pub split_shards : made < MOST_PASSES → AreShards sizes (made + 1) turns (map (opening_of (made + 1)) turns)
  split_shards room = record {
    valid = are.valid;
    long = are.long;
    few = omega arith;
    setting = are.setting;
    opened = refl;
  }

  pub are_openings : AreOpenings turns openings
  are_openings = record {
    long = ap length are.opened ∙ length_map (opening_of made) turns;
    each = λ s t p e f.
        let is : opening_of made t ≡ p = some_is (opening_of made t) p (sym (get_map (opening_of made) turns s t e) ∙ sym (ap (λ (l : List One). slice_get l s) are.opened) ∙ f) in
        subst (IsOpening t) is (record { table = refl; setting = refl; owner = refl; silent = tt });
  }
