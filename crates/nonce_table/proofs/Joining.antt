-- A pass is joined into the opening passes one by one.
use Rattle.std.proofs.Common.{◌≡◌, ℕ, ◌+◌, ◌<◌, ◌≤◌, List, [], ◌∷◌, ◌++◌, length, map, max, drop, get_or, set, Option, Some, sym, ap, ◌∙◌, subst, ⊎_elim, arith}
use mathlib.Core.Logic.{dite}
use native.Mathlib.Decide.{ℕ_discrete}
use Rattle.std.specs.Prelude.{unwrap_or}
use Rattle.std.specs.List.{slice_get}
use Rattle.std.proofs.lemmas.Option.{slice_get-get_or}
use Rattle.atomic_table.specs.Seated.{TableId}
use Rattle.turn_table.specs.Passes.{TableFacts, PassFacts, joined_pass}
use Rattle.nonce_shard.specs.declared.calls.Call.{Call}
use Rattle.nonce_shard.specs.declared.sizes.Sizes.{Sizes}
use Rattle.nonce_shard.specs.declared.sizes.Setting.{Setting}
use Rattle.nonce_shard.specs.Seat.{Entry}
use Rattle.turn_table.specs.History.{longer}
use Rattle.nonce_table.specs.Passes.{ArePassesOf, name_of, facts_of}
use Rattle.nonce_table.specs.Shards.{AreOpenings, IsOpening}
use Rattle.nonce_table.specs.Tables.{names_of}
use Rattle.nonce_table.specs.Closing.{joined_at}
use Rattle.nonce_table.proofs.Places.{some_is, get_here, get_else, get_short, got, at_end, get_map, get_of_map, length_map, length_set}

-- turns with one name are one
pub same_name : (x y : TableId) → name_of x ≡ name_of y → x ≡ y
same_name x y e = ap (λ (l : List ℕ). let id : TableId = record { words = get_or l 0 0; slots = get_or l 1 0; views_name = get_or l 2 0; atom = get_or l 3 0; block = get_or l 4 0; offset = get_or l 5 0; slot_names = drop 6 l } in id) e

-- what was read at a place
pub read_is : {A : Type 0} (xs : List A) (s : ℕ) (x d : A) → slice_get xs s ≡ Some x → d ≡ get_or xs s d → d ≡ x
read_is xs s x d e f = f ∙ some_is (get_or xs s d) x (sym (slice_get-get_or xs s d (get_short xs s x e)) ∙ e)

pub read_at : {A : Type 0} (xs : List A) (s : ℕ) (d : A) → s < length xs → d ≡ get_or xs s d → slice_get xs s ≡ Some d
read_at xs s d h f = slice_get-get_or xs s d h ∙ ap Some (sym f)

abbrev One : Type 0
One = PassFacts Call Setting

abbrev Turns : Type 0
Turns = TableFacts Setting

-- the turns at a place have the name of the pass at that place
pub named_at : (all : List One) (turns : List Turns) → map (λ p. name_of p.table) all ≡ names_of turns → (s : ℕ) (p : One) → slice_get all s ≡ Some p → (t : Turns) × (slice_get turns s ≡ Some t) × (p.table ≡ t.id)
named_at all turns e s p at =
    let n : slice_get (names_of turns) s ≡ Some (name_of p.table) = ap (λ (l : List (List ℕ)). slice_get l s) (sym e) ∙ get_map (λ (q : One). name_of q.table) all s p at in
    let o = get_of_map (λ (t : Turns). name_of t.id) turns s (name_of p.table) n in
    (o.0, o.1, same_name p.table o.0.id o.2)

-- an opening pass that changes to another of the same turns
pub openings_set : (turns : List Turns) (openings : List One) (s : ℕ) (t : Turns) (x y : One) → AreOpenings turns openings → slice_get turns s ≡ Some t → slice_get openings s ≡ Some x → IsOpening t y → AreOpenings turns (set openings s y)
openings_set turns openings s t x y are at here is = record {
  long = length_set openings s y ∙ are.long;
  each = λ k u p e f. dite (ℕ_discrete k s)
      (λ h.
      let same_turns : t ≡ u = some_is t u (sym at ∙ ap (λ (j : ℕ). slice_get turns j) (sym h) ∙ e) in
      let same_pass : y ≡ p = some_is y p (sym (get_here openings s x y here) ∙ ap (λ (j : ℕ). slice_get (set openings s y) j) (sym h) ∙ f) in
      subst (λ (v : Turns). IsOpening v p) same_turns (subst (IsOpening t) same_pass is))
      (λ h. are.each k u p e (sym (get_else openings s k y h) ∙ f));
}

-- this pass is joined into the opening pass at its place
module _ (first now yielded : List One) (one x : One) (s : ℕ) (place : s ≡ length yielded) (here : slice_get now s ≡ Some x)
    (still : (k : ℕ) → s ≤ k → slice_get now k ≡ slice_get first k) where
  pub joined_done : ((k : ℕ) (z q : One) → slice_get first k ≡ Some z → slice_get yielded k ≡ Some q → slice_get now k ≡ Some (joined_pass z q))
      → (k : ℕ) (z q : One) → slice_get first k ≡ Some z → slice_get (yielded ++ one ∷ []) k ≡ Some q → slice_get (set now s (joined_pass x one)) k ≡ Some (joined_pass z q)
  joined_done done k z q e f = ⊎_elim
      (λ h. let short = get_short yielded k q h in get_else now s k (joined_pass x one) (λ i. absurd (omega arith)) ∙ done k z q e h)
      (λ h.
      let is : k ≡ s = h.1 ∙ sym place in
      let same : x ≡ z = some_is x z (sym here ∙ still s (omega arith) ∙ ap (λ (j : ℕ). slice_get first j) (sym is) ∙ e) in
      ap (λ (j : ℕ). slice_get (set now s (joined_pass x one)) j) is ∙ get_here now s x (joined_pass x one) here
      ∙ ap (λ (y : One). Some (joined_pass y one)) same ∙ ap (λ (p : One). Some (joined_pass z p)) h.0)
      (at_end yielded one q k f)

  pub joined_rest : (k : ℕ) → s + 1 ≤ k → slice_get (set now s (joined_pass x one)) k ≡ slice_get first k
  joined_rest k h = get_else now s k (joined_pass x one) (λ i. absurd (omega arith)) ∙ still k (omega arith)

-- the part of a pass at a shard
part_is : (owner : ℕ) (sizes : Sizes) (all : List One) (s : ℕ) (q x : One) → ArePassesOf owner sizes all → slice_get all s ≡ Some q → joined_pass x q ≡ joined_at s x (facts_of owner sizes all)
part_is owner sizes all s q x are at =
    let seen : q.seen ≡ unwrap_or (slice_get (map (λ (p : One). p.seen) all) s) [] = sym (ap (λ (o : Option (List Entry)). unwrap_or o []) (get_map (λ (p : One). p.seen) all s q at)) in
    let noted : q.noted ≡ unwrap_or (slice_get (map (λ (p : One). p.noted) all) s) 0 = sym (ap (λ (o : Option ℕ). unwrap_or o 0) (get_map (λ (p : One). p.noted) all s q at)) in
    let made : ℕ → List Entry → ℕ → One = λ o l n. record x { seen = longer x.seen l; kept = x.kept ++ (o, l) ∷ []; noted = max x.noted n } in
    ap (λ (o : ℕ). made o q.seen q.noted) (are.each s q at).owner_is ∙ ap (λ (l : List Entry). made owner l q.noted) seen ∙ ap (λ (n : ℕ). made owner (unwrap_or (slice_get (map (λ (p : One). p.seen) all) s) []) n) noted

-- once all parts were joined
pub all_joined : (first now : List One) (owner : ℕ) (sizes : Sizes) (all yielded : List One) → ArePassesOf owner sizes all → yielded ≡ all → length all ≡ length first
    → ((k : ℕ) (z q : One) → slice_get first k ≡ Some z → slice_get yielded k ≡ Some q → slice_get now k ≡ Some (joined_pass z q))
    → (s : ℕ) (x : One) → slice_get first s ≡ Some x → slice_get now s ≡ Some (joined_at s x (facts_of owner sizes all))
all_joined first now owner sizes all yielded are whole long done s x at =
    let short = get_short first s x at in
    let q = got all s (omega arith) in
    done s x q.0 at (ap (λ (l : List One). slice_get l s) whole ∙ q.1) ∙ ap Some (part_is owner sizes all s q.0 x are q.1)

-- as many passes as turns have names
pub as_many : (all : List One) (turns : List Turns) → map (λ p. name_of p.table) all ≡ names_of turns → length all ≡ length turns
as_many all turns e = sym (length_map (λ (p : One). name_of p.table) all) ∙ ap length e ∙ length_map (λ (t : Turns). name_of t.id) turns
