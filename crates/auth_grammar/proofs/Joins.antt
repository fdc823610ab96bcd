use Rattle.std.proofs.Common.{◌≡◌, ℕ, List, [], ◌∷◌, ◌++◌, refl, ap, sym, ◌∙◌, append_assoc, arith, ◌+◌, ◌<◌, length, take, get_or, map, nat_lt, if◌then◌else◌, true, false, Bool, codes}
use Rattle.std.specs.List.{join_with_byte}
use Rattle.std.proofs.lemmas.List.{take_more, map-append, length-take-le, length-map}
use Rattle.std.proofs.lemmas.Bool.Decides.{Decides-ltb, not_from_Decides}
use Rattle.auth_grammar.specs.Writing.{joined_by, separator_at}

-- a byte between two is a separator of one byte
pub join_is : (c : ℕ) (texts : List (List ℕ)) → join_with_byte c texts ≡ joined_by (c ∷ []) texts
join_is c [] = refl
join_is c (text ∷ []) = refl
join_is c (text ∷ next ∷ texts) = ap (λ (x : List ℕ). text ++ c ∷ x) (join_is c (next ∷ texts))

-- one text more behind others
more : (s first : List ℕ) (texts : List (List ℕ)) (text : List ℕ) → joined_by s ((first ∷ texts) ++ text ∷ []) ≡ joined_by s (first ∷ texts) ++ (s ++ text)
more s first [] text = refl
more s first (next ∷ texts) text =
    ap (λ (x : List ℕ). first ++ (s ++ x)) (more s next texts text)
    ∙ ap (λ (x : List ℕ). first ++ x) (sym (append_assoc s (joined_by s (next ∷ texts)) (s ++ text)))
    ∙ sym (append_assoc first (s ++ joined_by s (next ∷ texts)) (s ++ text))

pub joined_more : (s : List ℕ) (texts : List (List ℕ)) (text : List ℕ) → 0 < length texts → joined_by s (texts ++ text ∷ []) ≡ joined_by s texts ++ (s ++ text)
joined_more s [] text h = absurd (omega (arith, h))
joined_more s (first ∷ texts) text h = more s first texts text

module _ (s : List ℕ) (texts : List (List ℕ)) (i : ℕ) (text : List ℕ) (inside : i < length texts) (here : text ≡ get_or texts i text) where
  next_is : take (i + 1) texts ≡ take i texts ++ text ∷ []
  next_is = take_more texts i text inside ∙ ap (λ (x : List ℕ). take i texts ++ x ∷ []) (sym here)

  pub join_first : i ≡ 0 → joined_by s (take (i + 1) texts) ≡ joined_by s (take i texts) ++ text
  join_first h = ap (joined_by s) (next_is ∙ ap (λ (n : ℕ). take n texts ++ text ∷ []) h) ∙ sym (ap (λ (n : ℕ). joined_by s (take n texts) ++ text) h)

  pub join_later : 0 < i → joined_by s (take (i + 1) texts) ≡ joined_by s (take i texts) ++ (s ++ text)
  join_later h = ap (joined_by s) next_is ∙ joined_more s (take i texts) text (omega (arith, length_taken))
    where
      length_taken : length (take i texts) ≡ i
      length_taken = length-take-le i texts (omega (arith, inside))

-- the same of texts that are written of parts, with a comma and a space
module _ {A : Type 0} (f : A → List ℕ) (parts : List A) (i : ℕ) (part : A) (inside : i < length parts) (here : part ≡ get_or parts i part) where
  parts_more : map f (take (i + 1) parts) ≡ map f (take i parts) ++ f part ∷ []
  parts_more = ap (map f) (take_more parts i part inside ∙ ap (λ (x : A). take i parts ++ x ∷ []) (sym here)) ∙ map-append f (take i parts) (part ∷ [])

  none_before : i ≡ 0 → map f (take i parts) ≡ []
  none_before e = ap (λ (n : ℕ). map f (take n parts)) e

  some_before : 0 < i → 0 < length (map f (take i parts))
  some_before h = (let size : length (take i parts) ≡ i = length-take-le i parts (omega (arith, inside)) in omega (arith, length-map (take i parts) f, size, h))

  pub parts_next : joined_by (codes ", ") (map f (take (i + 1) parts)) ≡ joined_by (codes ", ") (map f (take i parts)) ++ (separator_at i ++ f part)
  parts_next = ap (joined_by (codes ", ")) parts_more ∙ go (nat_lt 0 i) refl
    where
      go : (b : Bool) → nat_lt 0 i ≡ b → joined_by (codes ", ") (map f (take i parts) ++ f part ∷ []) ≡ joined_by (codes ", ") (map f (take i parts)) ++ ((if b then codes ", " else []) ++ f part)
      go true e = joined_more (codes ", ") (map f (take i parts)) (f part) (some_before ((Decides-ltb 0 i).0 e))
      go false e = (let none = none_before (omega (arith, not_from_Decides (nat_lt 0 i) (Decides-ltb 0 i) e)) in
          ap (λ (x : List (List ℕ)). joined_by (codes ", ") (x ++ f part ∷ [])) none ∙ sym (ap (λ (x : List (List ℕ)). joined_by (codes ", ") x ++ f part) none))
