-- Lists of the same counts.
use Rattle.std.proofs.Common.{◌≡◌, ℕ, ◌+◌, ◌<◌, ◌≤◌, ◌==◌, Bool, true, false, ◌||◌, cond, max, List, [], ◌∷◌, fold, nat_le, refl, sym, ◌∙◌, ap, arith, ◌⊎◌, inl, inr}
use Rattle.count_window.specs.declared.window.Admit.{Admit}
use Rattle.count_window.specs.declared.window.Admit.TheVariants.{Fresh, Repeated, Behind}
use Rattle.count_window.specs.declared.window.TheConstants.{WIDTH}
use Rattle.count_window.specs.Window.{high, is_admitted, admission, with_fresh}
use Rattle.count_window.specs.Laws.{SameCounts, AnswersFollowFromCounts}
use Rattle.count_window.proofs.Windows.{lt_or_le, none_above, same_test, is_admitted-append}

or_true : (b : Bool) → (b || true) ≡ true
or_true true = refl
or_true false = refl

-- the greatest is what the search began with, or one of the counts
greatest : (a : ℕ) (counts : List ℕ) → (fold max a counts ≡ a) ⊎ (is_admitted counts (fold max a counts) ≡ true)
greatest a [] = inl refl
greatest a (c ∷ cs) = by (greatest (max a c) cs) (lt_or_le a c)
  where
    top : ℕ
    top = fold max (max a c) cs

    by : (top ≡ max a c) ⊎ (is_admitted cs top ≡ true) → (a < c) ⊎ (c ≤ a) → (top ≡ a) ⊎ (((c == top) || is_admitted cs top) ≡ true)
    by (inr later) order = inr (ap (λ b. (c == top) || b) later ∙ or_true (c == top))
    by (inl first) (inl more) = inr (ap (λ b. b || is_admitted cs top) (same_test c top (omega (arith, first))))
    by (inl first) (inr less) = inl (omega (arith, first))

at_most : (one other : List ℕ) → SameCounts one other → high one ≤ high other
at_most one other same = by (greatest 0 one) (lt_or_le (high other) (high one))
  where
    by : (high one ≡ 0) ⊎ (is_admitted one (high one) ≡ true) → (high other < high one) ⊎ (high one ≤ high other) → high one ≤ high other
    by greatest_is (inr less) = less
    by (inl none_is) (inl more) = absurd (omega (arith, none_is))
    by (inr among) (inl more) = absurd (let no : true ≡ false = sym among ∙ same (high one) ∙ none_above 0 other (high one) more in cc)

same_high : (one other : List ℕ) → SameCounts one other → high one ≡ high other
same_high one other same = omega (arith, at_most one other same, at_most other one (λ count. sym (same count)))

still_same : (one other : List ℕ) (count : ℕ) (a : Admit) → SameCounts one other → SameCounts (with_fresh one count a) (with_fresh other count a)
still_same one other count Fresh same next = is_admitted-append one count next ∙ ap (λ b. b || ((count == next) || false)) (same next) ∙ sym (is_admitted-append other count next)
still_same one other count Repeated same next = same next
still_same one other count (Behind top) same next = same next

alike : (one other : List ℕ) (count : ℕ) → SameCounts one other
    → cond (nat_le (count + WIDTH) (high one)) (Behind (high one)) (cond (is_admitted one count) Repeated Fresh) ≡ cond (nat_le (count + WIDTH) (high other)) (Behind (high other)) (cond (is_admitted other count) Repeated Fresh)
alike one other count same = rw (same_high one other same, same count) refl

pub answers_follow : AnswersFollowFromCounts
answers_follow one other same = record {
  windows = λ w stands. record {
    high_is = stands.high_is ∙ same_high one other same;
    marks = λ count below near. stands.marks count below near ∙ same count;
  };
  answers = λ count. alike one other count same;
  lasting = λ count. rw (alike one other count same) (still_same one other count (admission other count) same);
}
