-- Iteration counts as they are written.
use Rattle.std.proofs.Common.{◌≡◌, ◌≢◌, ◌+◌, ◌/◌, ◌%◌, ◌≤◌, ◌<◌, ◌^◌, ℕ, zero, suc, List, [], ◌∷◌, ◌++◌, refl, sym, ◌∙◌, ap, subst, length, length-append, append_assoc, append-nil, take, drop, get_or, ◌⊎◌, inl, inr, arith}
use Rattle.std.specs.Prelude.{decimal}
use Rattle.std.proofs.lemmas.Bool.{cases_lt}
use Rattle.std.proofs.lemmas.Fmt.{decimal_digit, decimal_step}
use Rattle.std.proofs.lemmas.List.{drop_more, length-take-le, take-append-drop, take_all, take_more}
use Rattle.scram_text.specs.Contents.{WritesCount}
use Rattle.scram_text.specs.Reaching.{Reaches}
use Rattle.scram_text.proofs.ReauthLaws.{last_one, same_ends}

abbrev pub IsCountText : List ℕ → Type 0
IsCountText t = (i : ℕ) × WritesCount t i

-- a count without its last digit is one
without_last : (front : List ℕ) (last : ℕ) → front ≢ [] → IsCountText (front ++ last ∷ []) → IsCountText front
without_last front last some is = elim (cases_lt is.0 10) [
  | inl small ↦
      let one : front ++ last ∷ [] ≡ [] ++ (48 + is.0) ∷ [] = is.1.written ∙ decimal_digit is.0 small in
      absurd (some (same_ends front (last ∷ []) [] ((48 + is.0) ∷ []) one refl).0)
  | inr large ↦
      let below = is.1.is_count.fits in
      let cut : front ++ last ∷ [] ≡ decimal (is.0 / 10) ++ (48 + is.0 % 10) ∷ [] = is.1.written ∙ decimal_step is.0 large (omega arith) in
      (is.0 / 10, record { is_count = record { some = omega arith; fits = omega arith }; written = (same_ends front (last ∷ []) (decimal (is.0 / 10)) ((48 + is.0 % 10) ∷ []) cut refl).0 })
]

some_front : (p front : List ℕ) → p ≢ [] → p ++ front ≢ []
some_front [] front some none = some refl
some_front (x ∷ p) front some none = cc

-- so each beginning of a count is one
pub count_begins : (k : ℕ) (p q : List ℕ) → length q ≡ k → p ≢ [] → IsCountText (p ++ q) → IsCountText p
count_begins zero p [] long some is = subst IsCountText (append-nil p) is
count_begins zero p (x ∷ q) long some is = absurd (omega arith)
count_begins (suc k) p q long some is = elim (last_one q) [
  | inl none ↦ absurd (omega (arith, ap length none))
  | inr found ↦
      let cut : p ++ q ≡ (p ++ found.0) ++ found.1 ∷ [] = ap (λ (w : List ℕ). p ++ w) found.2 ∙ sym (append_assoc p found.0 (found.1 ∷ [])) in
      count_begins k p found.0 (omega (arith, ap length found.2, length-append found.0 (found.1 ∷ []))) some
      (without_last (p ++ found.0) found.1 (some_front p found.0 some) (subst IsCountText cut is))
]

-- how far a text goes on as a count
pub count_completes : (front : List ℕ) → (front ≡ []) ⊎ IsCountText front → (rest : List ℕ) × IsCountText (front ++ rest)
count_completes front so_far = elim so_far [
  | inl none ↦ (49 ∷ [], (1, record { is_count = record { some = omega arith; fits = omega arith }; written = ap (λ (w : List ℕ). w ++ 49 ∷ []) none ∙ sym (decimal_digit 1 (omega arith)) }))
  | inr is ↦ ([], subst IsCountText (sym (append-nil front)) is)
]

pub count_stops : (text : List ℕ) (at : ℕ) → at < length text → (take at text ≡ []) ⊎ IsCountText (take at text) → ((n : ℕ) → 1 ≤ n → n < 2 ^ 32 → take (at + 1) text ≢ decimal n) → Reaches IsCountText text at
count_stops text at within so_far none = record {
  front = take at text;
  back = drop at text;
  cut = sym (take-append-drop at text);
  long = length-take-le at text (omega arith);
  rest = (count_completes (take at text) so_far).0;
  lives = (count_completes (take at text) so_far).1;
  stuck = λ b left more e is.
      let f : get_or text at 0 ∷ drop (at + 1) text ≡ b ∷ left = sym (drop_more text at 0 within) ∙ e in
      let same : get_or text at 0 ≡ b = cc in
      let next : take (at + 1) text ≡ take at text ++ b ∷ [] = take_more text at 0 within ∙ ap (λ (x : ℕ). take at text ++ x ∷ []) same in
      let begins = count_begins (length more) (take at text ++ b ∷ []) more refl (not_empty (take at text) b) (subst IsCountText (sym (append_assoc (take at text) (b ∷ []) more)) is) in
      none begins.0 begins.1.is_count.some begins.1.is_count.fits (next ∙ begins.1.written);
}
  where
    not_empty : (front : List ℕ) (b : ℕ) → front ++ b ∷ [] ≢ []
    not_empty [] b e = cc
    not_empty (x ∷ front) b e = cc

pub count_whole : (text : List ℕ) (at : ℕ) → length text ≤ at → (take at text ≡ []) ⊎ IsCountText (take at text) → Reaches IsCountText text (length text)
count_whole text at over so_far = record {
  front = text;
  back = [];
  cut = sym (append-nil text);
  long = refl;
  rest = (count_completes text (all so_far)).0;
  lives = (count_completes text (all so_far)).1;
  stuck = λ b left more e is. cc;
}
  where
    all : (take at text ≡ []) ⊎ IsCountText (take at text) → (text ≡ []) ⊎ IsCountText text
    all so_far = elim so_far [
      | inl none ↦ inl (sym (take_all at text over) ∙ none)
      | inr is ↦ inr (subst IsCountText (take_all at text over) is)
    ]
