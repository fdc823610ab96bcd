-- Runs of bytes that pass a test.
use Rattle.std.proofs.Common.{◌≡◌, ◌≢◌, ◌+◌, ◌<◌, ◌≤◌, ℕ, Bool, true, false, List, [], ◌∷◌, ◌++◌, refl, sym, ◌∙◌, length, take, drop, get_or, subst, ap, arith}
use Rattle.std.proofs.lemmas.List.{drop_more, length-drop, length-take-le, take-append-drop}
use Rattle.std.specs.List.{list_all}
use Rattle.scram_text.specs.Bytes.{some_of}
use Rattle.scram_text.specs.Reaching.{Reaches}
use Rattle.scram_text.proofs.ByteTests.{both, list_all-split, some_all, some_snoc}

-- a run goes on as far as its bytes pass, where some byte passes
pub run_reaches : (test : ℕ → Bool) (one : ℕ) → test one ≡ true → (text front back : List ℕ) → text ≡ front ++ back → list_all test front ≡ true
    → ((b : ℕ) (left : List ℕ) → back ≡ b ∷ left → test b ≡ false) → Reaches (λ t. some_of test t ≡ true) text (length front)
run_reaches test one passes text front back cut all fails = record {
  front = front;
  back = back;
  cut = cut;
  long = refl;
  rest = one ∷ [];
  lives = some_snoc test front one all passes;
  stuck = λ b left more e some.
      let parts = list_all-split test front (b ∷ more) (some_all test (front ++ b ∷ more) some) in
      let yes : test b ≡ true = (both (test b) (list_all test more) parts.1).0 in
      let fail : test b ≡ false = fails b left e in
      let wrong : true ≡ false = sym yes ∙ fail in cc;
}

-- the same, by its place
pub run_reaches_at : (test : ℕ → Bool) (one : ℕ) → test one ≡ true → (text : List ℕ) (at : ℕ) → at ≤ length text → list_all test (take at text) ≡ true
    → (at < length text → test (get_or text at 0) ≡ false) → Reaches (λ t. some_of test t ≡ true) text at
run_reaches_at test one passes text at within all fails =
    let P : ℕ → Type 0 = λ n. Reaches (λ t. some_of test t ≡ true) text n in
    subst P (length-take-le at text within) (run_reaches test one passes text (take at text) (drop at text) (sym (take-append-drop at text)) all
    (λ b left is.
    let below : at < length text = omega (arith, length-drop at text, ap length is) in
    let e : get_or text at 0 ∷ drop (at + 1) text ≡ b ∷ left = sym (drop_more text at 0 below) ∙ is in
    let same : get_or text at 0 ≡ b = cc in
    subst (λ (x : ℕ). test x ≡ false) same (fails below)))

-- a list that isn't empty is a run where all pass
pub some_is_all : (test : ℕ → Bool) (text : List ℕ) → text ≢ [] → list_all test text ≡ some_of test text
some_is_all test [] some = absurd (some refl)
some_is_all test (b ∷ text) some = refl
