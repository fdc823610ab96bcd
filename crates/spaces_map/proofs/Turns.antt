-- A loop over the items of an iterator.
use Rattle.std.proofs.Common.{◌≡◌, ◌<◌, List, Option, Some, None, length, get_or, map}
use Rattle.std.specs.Iterator.{Yields}
use Rattle.std.proofs.lemmas.Iterator.{YieldsList}
use Rattle.std.proofs.lemmas.Iterator.Consumers.{YieldsList-turn, YieldsList-end}

-- where this turn's item stands in the list
pub turn_at : {S A B : Type 0} {steps : S → Option A → S → Type 0} {v : A → B} {s : S} {all : List B} (xs : List A) (t : S) → Yields steps s xs t →
    (r : Option A) (u : S) (x : A) → r ≡ Some x → steps t r u → YieldsList steps v s all → (length xs < length all) × (v x ≡ get_or all (length xs) (v x))
turn_at xs t y r u x is step road = YieldsList-turn road xs t y r u x is step

-- at the end each item was there
pub end_at : {S A B : Type 0} {steps : S → Option A → S → Type 0} {v : A → B} {s : S} {all : List B} (xs : List A) (t : S) → Yields steps s xs t →
    (r : Option A) (u : S) → r ≡ None → steps t r u → YieldsList steps v s all → (map v xs ≡ all) × (length xs ≡ length all)
end_at xs t y r u is step road = YieldsList-end road xs t y r u is step
