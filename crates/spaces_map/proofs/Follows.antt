-- Lists whose items each fit what stands before them.
use Rattle.std.proofs.Common.{List, [], ◌∷◌, ◌++◌, sym, subst, append_assoc}
use Rattle.std.proofs.lemmas.List.{append-nil}
use Rattle.spaces_map.specs.Follows.{EachFits}

-- the items in front
pub fits_front : {T : Type 0} (Fits : List T → T → Type 0) (before xs ys : List T) → EachFits Fits before (xs ++ ys) → EachFits Fits before xs
fits_front Fits before [] ys each = tt
fits_front Fits before (x ∷ xs) ys each = (each.0, fits_front Fits (before ++ x ∷ []) xs ys each.1)

-- one more item
pub fits_push : {T : Type 0} (Fits : List T → T → Type 0) (before xs : List T) (y : T) → EachFits Fits before xs → Fits (before ++ xs) y → EachFits Fits before (xs ++ y ∷ [])
fits_push {T} Fits before [] y each fits = (let P : List T → Type 0 = λ l. Fits l y in subst P (append-nil before) fits, tt)
fits_push {T} Fits before (x ∷ xs) y each fits =
    (each.0, fits_push Fits (before ++ x ∷ []) xs y each.1 (let P : List T → Type 0 = λ l. Fits l y in subst P (sym (append_assoc before (x ∷ []) xs)) fits))

-- an item in the middle fits what stands before it
pub fits_at : {T : Type 0} (Fits : List T → T → Type 0) (before xs : List T) (y : T) (ys : List T) → EachFits Fits before (xs ++ y ∷ ys) → Fits (before ++ xs) y
fits_at {T} Fits before [] y ys each = let P : List T → Type 0 = λ l. Fits l y in subst P (sym (append-nil before)) each.0
fits_at {T} Fits before (x ∷ xs) y ys each =
    let P : List T → Type 0 = λ l. Fits l y in subst P (append_assoc before (x ∷ []) xs) (fits_at Fits (before ++ x ∷ []) xs y ys each.1)
