-- What was told in two parts was told in one.
use Rattle.std.proofs.Common.{◌≡◌, [], ◌++◌, ◌+◌, ℕ, List, length, Option, Some, None, sym, refl, ap, ◌∙◌, append_assoc, length-append, arith}
use Rattle.std.proofs.lemmas.List.{append-nil}
use Rattle.std.specs.Io.KnownBytes.{Consumes, Appends}
use Rattle.auth_io.specs.declared.files.Ending.{Ending}
use Rattle.auth_io.specs.Files.{AddsAsked}
use Rattle.auth_io.specs.Told.{Adds, Stays}

pub Appends_trans : (a b c : Option (List ℕ)) (xs ys : List ℕ) → Appends a b xs → Appends b c ys → Appends a c (xs ++ ys)
Appends_trans None b c xs ys p q = tt
Appends_trans (Some x) None c xs ys p q = absurd p
Appends_trans (Some x) (Some y) None xs ys p q = absurd q
Appends_trans (Some x) (Some y) (Some z) xs ys p q = q ∙ ap (λ l. l ++ ys) p ∙ append_assoc x xs ys

pub Appends_none : (a : Option (List ℕ)) → Appends a a []
Appends_none None = tt
Appends_none (Some x) = sym (append-nil x)

pub Consumes_trans : (a b c : Option (List ℕ)) (xs ys : List ℕ) → Consumes a b xs → Consumes b c ys → Consumes a c (xs ++ ys)
Consumes_trans None b c xs ys p q = tt
Consumes_trans (Some x) None c xs ys p q = absurd p
Consumes_trans (Some x) (Some y) None xs ys p q = absurd q
Consumes_trans (Some x) (Some y) (Some z) xs ys p q = p ∙ ap (λ l. xs ++ l) q ∙ sym (append_assoc xs ys z)

pub Consumes_none : (a : Option (List ℕ)) → Consumes a a []
Consumes_none None = tt
Consumes_none (Some x) = refl

pub Adds_trans : {A : Type 0} (a b c : Option (List A)) (xs ys : List A) → Adds a b xs → Adds b c ys → Adds a c (xs ++ ys)
Adds_trans None b c xs ys p q = tt
Adds_trans (Some x) None c xs ys p q = absurd p
Adds_trans (Some x) (Some y) None xs ys p q = absurd q
Adds_trans (Some x) (Some y) (Some z) xs ys p q = λ room.
    let sizes : length (xs ++ ys) ≡ length xs + length ys = length-append xs ys in
    let first : y ≡ x ++ xs = p (omega arith) in
    let size : length y ≡ length x + length xs = ap length first ∙ length-append x xs in
    let second : z ≡ y ++ ys = q (omega arith) in
    second ∙ ap (λ l. l ++ ys) first ∙ append_assoc x xs ys

pub Adds_none : {A : Type 0} (a : Option (List A)) → Adds a a []
Adds_none None = tt
Adds_none (Some x) = λ room. sym (append-nil x)

-- nothing was added after these
pub Stays_trans : {A : Type 0} (a b c : Option (List A)) (xs : List A) → Adds a b xs → Stays b c → Adds a c xs
Stays_trans None b c xs p q = tt
Stays_trans (Some x) None c xs p q = absurd p
Stays_trans (Some x) (Some y) None xs p q = absurd q
Stays_trans (Some x) (Some y) (Some z) xs p q = λ room. q ∙ p room

pub AddsAsked_trans : (a b c : Option (List (List ℕ × Ending))) (xs ys : List (List ℕ × Ending)) → AddsAsked a b xs → AddsAsked b c ys → AddsAsked a c (xs ++ ys)
AddsAsked_trans None b c xs ys p q = tt
AddsAsked_trans (Some x) None c xs ys p q = absurd p
AddsAsked_trans (Some x) (Some y) None xs ys p q = absurd q
AddsAsked_trans (Some x) (Some y) (Some z) xs ys p q = q ∙ ap (λ l. l ++ ys) p ∙ append_assoc x xs ys

pub AddsAsked_none : (a : Option (List (List ℕ × Ending))) → AddsAsked a a []
AddsAsked_none None = tt
AddsAsked_none (Some x) = sym (append-nil x)
