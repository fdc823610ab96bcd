-- Connections that came one after the other.
use Rattle.std.proofs.Common.{◌≡◌, ℕ, ◌+◌, cond, Bool, true, false, List, [], ◌∷◌, ◌++◌, length, map, Option, Some, None, refl, sym, ap, ◌∙◌, append_assoc, length-append, append-nil, arith}
use Rattle.std.specs.Io.KnownBytes.{Appends}
use Rattle.auth_io.specs.Handing.{Handed, HandsAll, HandsFirst, HandsOut, RoseIfFailed, StartsEmpty, TakesAll, TakesBack, count_failed}

pub HandsAll_none : (a : Option (List (List ℕ))) → HandsAll a a []
HandsAll_none None = tt
HandsAll_none (Some x) = refl

pub HandsAll_then : (a b c : Option (List (List ℕ))) (xs ys : List (Option (List ℕ))) → HandsAll a b xs → HandsAll b c ys → HandsAll a c (xs ++ ys)
HandsAll_then None b c xs ys p q = tt
HandsAll_then (Some x) None c xs ys p q = absurd p
HandsAll_then (Some x) (Some y) None xs ys p q = absurd q
HandsAll_then (Some x) (Some y) (Some z) xs ys p q = p ∙ ap (λ (l : List (Option (List ℕ))). xs ++ l) q ∙ sym (append_assoc xs ys (map Some z))

-- the first of them
pub HandsAll_one : (a b : Option (List (List ℕ))) (left : Option (List ℕ)) → HandsFirst a b left → HandsAll a b (left ∷ [])
HandsAll_one None b left p = tt
HandsAll_one (Some x) None left p = absurd p
HandsAll_one (Some x) (Some y) None p = absurd p
HandsAll_one (Some x) (Some y) (Some left) p = ap (λ (l : List (List ℕ)). map {B = Option (List ℕ)} Some l) p

abbrev handed_of : ℕ → List (List ℕ × Bool) → Handed
handed_of n l = record { links = n; ended = l }

same_handed : (m n : ℕ) (k l : List (List ℕ × Bool)) → m ≡ n → k ≡ l → handed_of m k ≡ handed_of n l
same_handed m n k l p q = cc

pub TakesAll_none : (a : Option Handed) → TakesAll a a []
TakesAll_none None = tt
TakesAll_none (Some x) = same_handed x.links (x.links + 0) x.ended (x.ended ++ []) (omega arith) (sym (append-nil x.ended))

pub TakesAll_then : (a b c : Option Handed) (xs ys : List (List ℕ × Bool)) → TakesAll a b xs → TakesAll b c ys → TakesAll a c (xs ++ ys)
TakesAll_then None b c xs ys p q = tt
TakesAll_then (Some x) None c xs ys p q = absurd p
TakesAll_then (Some x) (Some y) None xs ys p q = absurd q
TakesAll_then (Some x) (Some y) (Some z) xs ys p q =
    let links : y.links ≡ x.links + length xs = ap (λ (h : Handed). h.links) p in
    let ended : y.ended ≡ x.ended ++ xs = ap (λ (h : Handed). h.ended) p in
    let sizes : length (xs ++ ys) ≡ length xs + length ys = length-append xs ys in
    let count : y.links + length ys ≡ x.links + length (xs ++ ys) = omega arith in
    let texts : y.ended ++ ys ≡ x.ended ++ (xs ++ ys) = ap (λ (l : List (List ℕ × Bool)). l ++ ys) ended ∙ append_assoc x.ended xs ys in
    q ∙ same_handed (y.links + length ys) (x.links + length (xs ++ ys)) (y.ended ++ ys) (x.ended ++ (xs ++ ys)) count texts

-- one of them, by all that it wrote
pub TakesAll_one : (a b c : Option Handed) (before now : Option (List ℕ)) (output : List ℕ) (failed : Bool) → HandsOut a b → StartsEmpty b before → Appends before now output → TakesBack b c now failed → TakesAll a c ((output, failed) ∷ [])
TakesAll_one None b c before now output failed p q r s = tt
TakesAll_one (Some x) None c before now output failed p q r s = absurd p
TakesAll_one (Some x) (Some y) c None now output failed p q r s = absurd q
TakesAll_one (Some x) (Some y) c (Some before) None output failed p q r s = absurd r
TakesAll_one (Some x) (Some y) None (Some before) (Some now) output failed p q r s = absurd s
TakesAll_one (Some x) (Some y) (Some z) (Some before) (Some now) output failed p q r s =
    let links : y.links ≡ x.links + 1 = ap (λ (h : Handed). h.links) p in
    let ended : y.ended ≡ x.ended = ap (λ (h : Handed). h.ended) p in
    let whole : now ≡ output = r ∙ ap (λ (l : List ℕ). l ++ output) q in
    s ∙ same_handed y.links (x.links + 1) (y.ended ++ (now, failed) ∷ []) (x.ended ++ (output, failed) ∷ []) links
    (ap (λ (l : List (List ℕ × Bool)). l ++ (now, failed) ∷ []) ended ∙ ap (λ (l : List ℕ). x.ended ++ (l, failed) ∷ []) whole)

-- ---- how many had a fault

abbrev one_if : Bool → ℕ
one_if failed = cond failed 1 0

count_more : (es : List (List ℕ × Bool)) (e : List ℕ × Bool) → count_failed (es ++ e ∷ []) ≡ count_failed es + one_if e.1
count_more [] e = omega arith
count_more (x ∷ es) e = let more = count_more es e in omega (arith, more)

rose_by : (failed : Bool) (before now : ℕ) → now ≡ before + one_if failed → RoseIfFailed failed before now
rose_by true before now is = omega (arith, is)
rose_by false before now is = omega (arith, is)

-- one more is back
pub rose_back : (es fs : List (List ℕ × Bool)) (e : List ℕ × Bool) → fs ≡ es ++ e ∷ [] → RoseIfFailed e.1 (count_failed es) (count_failed fs)
rose_back es fs e is = rose_by e.1 (count_failed es) (count_failed fs) (ap count_failed is ∙ count_more es e)
