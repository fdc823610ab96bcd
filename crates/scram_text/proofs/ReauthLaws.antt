-- Where the parts of a reauthentication's nonce end.
use Rattle.std.proofs.Common.{◌≡◌, ◌≤◌, ◌<◌, ◌^◌, ℕ, true, false, List, [], ◌∷◌, ◌++◌, refl, sym, ◌∙◌, ap, subst, length, length-append, append_assoc, append-nil, ◌⊎◌, inl, inr, arith}
use Rattle.std.specs.Prelude.{decimal}
use Rattle.std.specs.Char.{is_ascii_digit}
use Rattle.std.specs.List.{list_all}
use Rattle.std.specs.Str.Parse.{AllDigits}
use Rattle.std.proofs.lemmas.Fmt.{decimal_is_IsNumeral}
use Rattle.std.proofs.lemmas.List.{nil_from_length}
use Rattle.std.proofs.lemmas.Bool.Decides.{nat_tests}
use Rattle.std.proofs.lemmas.Str.Parse.{digit_from_value}
use Rattle.scram_text.specs.Reauths.{EndsPlain, IsReauth}
use Rattle.scram_text.proofs.ByteTests.{both, list_all-split}

-- a byte of a digit's value is a digit
one_digit : (c : ℕ) → 48 ≤ c → c ≤ 57 → is_ascii_digit c ≡ true
one_digit c low high = grind (arith, nat_tests)

all_digits : (cs : List ℕ) → AllDigits 10 cs → list_all is_ascii_digit cs ≡ true
all_digits [] each = refl
all_digits (c ∷ cs) each = let range = digit_from_value c each.0 in rw (one_digit c range.0 range.1, all_digits cs each.1) refl

-- decimal digits are digits
pub decimal_digits : (n : ℕ) → n < 2 ^ 32 → list_all is_ascii_digit (decimal n) ≡ true
decimal_digits n below = all_digits (decimal n) (decimal_is_IsNumeral n (omega arith)).0.1

-- of two ways to cut a text one goes further
overlap : (a b c d : List ℕ) → a ++ b ≡ c ++ d → ((x : List ℕ) × (c ≡ a ++ x) × (b ≡ x ++ d)) ⊎ ((x : List ℕ) × (a ≡ c ++ x) × (d ≡ x ++ b))
overlap [] b c d same = inl (c, refl, same)
overlap (x ∷ a) b [] d same = inr (x ∷ a, refl, sym same)
overlap (x ∷ a) b (y ∷ c) d same =
    let rest : a ++ b ≡ c ++ d = cc in
    let first : x ≡ y = cc in
    elim (overlap a b c d rest) [
      | inl more ↦ inl (more.0, (let e = more.1 in cc), more.2)
      | inr more ↦ inr (more.0, (let e = more.1 in cc), more.2)
    ]

-- a list is empty, or has a last one
pub last_one : (x : List ℕ) → (x ≡ []) ⊎ ((front : List ℕ) × (last : ℕ) × (x ≡ front ++ last ∷ []))
last_one [] = inl refl
last_one (b ∷ x) = elim (last_one x) [
  | inl none ↦ inr ([], b, ap (λ (w : List ℕ). b ∷ w) none)
  | inr some ↦ inr (b ∷ some.0, some.1, ap (λ (w : List ℕ). b ∷ w) some.2)
]

-- digits behind a text make it end in one, if there are some
no_more : (a x : List ℕ) → EndsPlain (a ++ x) → list_all is_ascii_digit x ≡ true → x ≡ []
no_more a x plain digits = elim (last_one x) [
  | inl none ↦ none
  | inr some ↦
      let no_digit : is_ascii_digit some.1 ≡ false = plain (a ++ some.0) some.1 (ap (λ (w : List ℕ). a ++ w) some.2 ∙ sym (append_assoc a some.0 (some.1 ∷ []))) in
      let parts = list_all-split is_ascii_digit some.0 (some.1 ∷ []) (subst (λ (w : List ℕ). list_all is_ascii_digit w ≡ true) some.2 digits) in
      let digit : is_ascii_digit some.1 ≡ true = (both (is_ascii_digit some.1) true parts.1).0 in
      absurd (let wrong : true ≡ false = sym digit ∙ no_digit in cc)
]

-- a text is cut before its last digits in one way
pub one_cut : (a b c d : List ℕ) → a ++ b ≡ c ++ d → list_all is_ascii_digit b ≡ true → list_all is_ascii_digit d ≡ true → EndsPlain a → EndsPlain c → (a ≡ c) × (b ≡ d)
one_cut a b c d same bs ds plain_a plain_c = elim (overlap a b c d same) [
  | inl more ↦
      let none : more.0 ≡ [] = no_more a more.0 (subst EndsPlain more.1 plain_c) (list_all-split is_ascii_digit more.0 d (subst (λ (w : List ℕ). list_all is_ascii_digit w ≡ true) more.2 bs)).0 in
      (sym (more.1 ∙ ap (λ (w : List ℕ). a ++ w) none ∙ append-nil a), more.2 ∙ ap (λ (w : List ℕ). w ++ d) none)
  | inr more ↦
      let none : more.0 ≡ [] = no_more c more.0 (subst EndsPlain more.1 plain_a) (list_all-split is_ascii_digit more.0 b (subst (λ (w : List ℕ). list_all is_ascii_digit w ≡ true) more.2 ds)).0 in
      (more.1 ∙ ap (λ (w : List ℕ). c ++ w) none ∙ append-nil c, sym (more.2 ∙ ap (λ (w : List ℕ). w ++ b) none))
]

-- texts whose ends have one length are cut there in one way
pub same_ends : (a b c d : List ℕ) → a ++ b ≡ c ++ d → length b ≡ length d → (a ≡ c) × (b ≡ d)
same_ends a b c d same long = elim (overlap a b c d same) [
  | inl more ↦
      let none : more.0 ≡ [] = nil_from_length more.0 (omega (arith, ap length more.2 ∙ length-append more.0 d, long)) in
      (sym (more.1 ∙ ap (λ (w : List ℕ). a ++ w) none ∙ append-nil a), more.2 ∙ ap (λ (w : List ℕ). w ++ d) none)
  | inr more ↦
      let none : more.0 ≡ [] = nil_from_length more.0 (omega (arith, ap length more.2 ∙ length-append more.0 b, long)) in
      (more.1 ∙ ap (λ (w : List ℕ). c ++ w) none ∙ append-nil c, sym (more.2 ∙ ap (λ (w : List ℕ). w ++ b) none))
]

-- the parts of a nonce are those that are found
pub parts_found : (text head sr client : List ℕ) (count : ℕ) (end : List ℕ) → text ≡ head ++ sr → length sr ≡ 36 → IsReauth text client count end → (head ≡ client ++ decimal count) × (sr ≡ end)
parts_found text head sr client count end cut long is =
    same_ends head sr (client ++ decimal count) end (sym cut ∙ is.cut ∙ sym (append_assoc client (decimal count) end)) (long ∙ sym is.long)

pub client_found : (text head sr front digits client : List ℕ) (count : ℕ) (end : List ℕ) → text ≡ head ++ sr → length sr ≡ 36 → head ≡ front ++ digits → list_all is_ascii_digit digits ≡ true → EndsPlain front
    → IsReauth text client count end → (front ≡ client) × (digits ≡ decimal count)
client_found text head sr front digits client count end cut long head_cut all plain is =
    one_cut front digits client (decimal count) (sym head_cut ∙ (parts_found text head sr client count end cut long is).0) all (decimal_digits count is.fits) plain is.plain
