-- Reading numbers.
use Rattle.std.proofs.Common.{◌≡◌, ◌≢◌, ◌<◌, ◌^◌, ◌==◌, ◌&&◌, ◌∷◌, [], ℕ, List, Bool, true, false, refl, sym, ap, ◌∙◌, inl, inr, ◌⊎◌, arith}
use Rattle.std.specs.Prelude.{Some, None, decimal, bytes_eq, nat_le, if◌then◌else◌}
use Rattle.std.specs.Str.Parse.{digits_value}
use Rattle.std.proofs.lemmas.Bool.{leb-true, and_parts, both_ways}
use Rattle.std.proofs.lemmas.Bool.Decides.{Decides-eqb}
use Rattle.std.proofs.lemmas.Cmp.{nat_list_eq_equiv}
use Rattle.std.proofs.lemmas.Fmt.{decimal_is_IsNumeral}
use Rattle.auth_grammar.specs.Numbers.{is_between, number_in}

-- a decimal text is read as its number
pub read_number : (least most number : ℕ) (word : List ℕ) → number < 2 ^ 64 → word ≡ decimal number
    → number_in least most word ≡ (if is_between least most number then Some number else None)
read_number least most number word below is =
    rw (is, (decimal_is_IsNumeral number below).1, nat_list_eq_equiv.refl (decimal number)) refl

either : (test : Bool) → (test ≡ true) ⊎ (test ≡ false)
either true = inl refl
either false = inr refl

-- texts that are told to be one are one
is_same : (xs ys : List ℕ) → bytes_eq ys xs ≡ true → xs ≡ ys
is_same [] [] same = refl
is_same [] (y ∷ ys) same = absurd (both_ways (bytes_eq (y ∷ ys) []) refl same)
is_same (x ∷ xs) [] same = absurd (both_ways (bytes_eq [] (x ∷ xs)) refl same)
is_same (x ∷ xs) (y ∷ ys) same =
    let parts = and_parts (y == x) (bytes_eq ys xs) same in
    ap (λ h. h ∷ xs) (sym ((Decides-eqb y x).0 parts.0)) ∙ ap (λ t. y ∷ t) (is_same xs ys parts.1)

-- a text that is none is read as no number
pub read_none : (least most : ℕ) (word : List ℕ) → most < 2 ^ 64 → ((n : ℕ) → n < 2 ^ 64 → word ≢ decimal n) → number_in least most word ≡ None
read_none least most word small none =
    let n = digits_value 10 word in
    let test = bytes_eq (decimal n) word && is_between least most n in
    elim (either test) [
      | inl well ↦
          let parts = and_parts (bytes_eq (decimal n) word) (is_between least most n) well in
          let below : n < 2 ^ 64 = omega (arith, small, leb-true n most (and_parts (nat_le least n) (nat_le n most) parts.1).1) in
          absurd (none n below (is_same word (decimal n) parts.0))
      | inr ill ↦ rw ill refl
    ]
