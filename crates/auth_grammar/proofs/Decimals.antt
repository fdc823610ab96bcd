-- What a decimal text is read as.
use Rattle.std.proofs.Common.{◌≡◌, ◌<◌, ◌^◌, ◌==◌, ℕ, List, [], ◌∷◌, true, false, refl, subst, sym, ◌∙◌, arith}
use Rattle.std.specs.Prelude.{decimal, nat_eq}
use Rattle.std.specs.Cmp.Lexicographic.{pointwise}
use Rattle.std.proofs.lemmas.Bool.Decides.{Decides-eqb}
use Rattle.std.specs.Char.{digit_value}
use Rattle.std.specs.Str.Parse.{AllDigits, IsNumeral, digits_value, without_leading_plus}
use Rattle.std.proofs.lemmas.Cmp.{nat_list_eq_equiv}
use Rattle.std.proofs.lemmas.Fmt.{decimal_is_IsNumeral}

-- the first digit is no plus
not_plus : (c : ℕ) → digit_value c < 10 → (c == 43) ≡ false
not_plus c below = elim (c == 43) as (λ b. (c == 43) ≡ b → (c == 43) ≡ false) [
  | true ↦ λ same. let P : ℕ → Type 0 = λ d. digit_value d < 10 in absurd (omega (arith, subst P ((Decides-eqb c 43).0 same) below))
  | false ↦ λ other. other
] refl

pub without_plus : (cs : List ℕ) → AllDigits 10 cs → without_leading_plus cs ≡ cs
without_plus [] digits = refl
without_plus (c ∷ cs) digits = rw (not_plus c digits.0) refl

-- a decimal text is a numeral, of the number
pub decimal_read : (n : ℕ) → n < 2 ^ 64 → IsNumeral 10 (without_leading_plus (decimal n)) × (digits_value 10 (without_leading_plus (decimal n)) ≡ n)
decimal_read n below =
    let read = decimal_is_IsNumeral n below in
    let P : List ℕ → Type 0 = λ text. IsNumeral 10 text × (digits_value 10 text ≡ n) in
    subst P (sym (without_plus (decimal n) read.0.1)) read

-- a text that is another isn't told to differ from it
pub is_itself : (xs ys : List ℕ) → xs ≡ ys → false ≡ pointwise nat_eq xs ys → ⊥
is_itself xs ys same differs = let no : false ≡ true = differs ∙ rw same (nat_list_eq_equiv.refl ys) in cc
