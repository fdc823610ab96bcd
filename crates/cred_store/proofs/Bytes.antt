-- Bytes in texts.
use Rattle.std.proofs.Common.{◌≡◌, ◌≢◌, ◌==◌, ℕ, Bool, true, false, ◌&&◌, ◌||◌, List, [], ◌∷◌, ◌++◌, refl, sym, ap, ◌∙◌, true≢false, eq-eqb, arith, All}
use Rattle.std.specs.List.{list_any, list_all}
use Rattle.std.proofs.lemmas.List.Elements.{All-head, All-tail}
use Rattle.auth_hash.specs.HexText.{is_lower_digit}
use Rattle.cred_store.specs.Values.{HasNo}

-- ---- tests

pub both_first : (a b : Bool) → a && b ≡ true → a ≡ true
both_first true b e = refl
both_first false b e = e

pub both_second : (a b : Bool) → a && b ≡ true → b ≡ true
both_second true b e = e
both_second false b e = absurd (true≢false (sym e))

pub neither : (a b : Bool) → a ≡ false → b ≡ false → a || b ≡ false
neither a b p q = ap (λ (x : Bool). x || b) p ∙ q

pub neither_first : (a b : Bool) → a || b ≡ false → a ≡ false
neither_first false b e = refl
neither_first true b e = e

pub neither_second : (a b : Bool) → a || b ≡ false → b ≡ false
neither_second false b e = e
neither_second true b e = absurd (true≢false e)

either_second : (a b : Bool) → b ≡ true → a || b ≡ true
either_second false b e = e
either_second true b e = refl

-- ---- a byte in a text

-- the byte stands there
pub has_it : (n : ℕ) (a b : List ℕ) → list_any (λ c. c == n) (a ++ n ∷ b) ≡ true
has_it n [] b = ap (λ (v : Bool). v || list_any (λ c. c == n) b) (eq-eqb n n refl)
has_it n (x ∷ a) b = either_second (x == n) _ (has_it n a b)

head_is : (x y : ℕ) (a b : List ℕ) → x ∷ a ≡ y ∷ b → x ≡ y
head_is x y a b e = cc

tail_is : (x y : ℕ) (a b : List ℕ) → x ∷ a ≡ y ∷ b → a ≡ b
tail_is x y a b e = cc

-- a text that begins with the byte has it
not_first : (n x : ℕ) (a b c : List ℕ) → HasNo n (x ∷ a) → n ∷ b ≡ x ∷ c → ⊥
not_first n x a b c none e = true≢false (sym (eq-eqb x n (sym (head_is n x b c e))) ∙ neither_first (x == n) _ none)

-- what stands before the first such byte, and behind it
pub cut_once : (n : ℕ) (a b c d : List ℕ) → HasNo n a → HasNo n c → a ++ n ∷ b ≡ c ++ n ∷ d → (a ≡ c) × (b ≡ d)
cut_once n [] b [] d p q e = (refl, tail_is n n b d e)
cut_once n [] b (x ∷ c) d p q e = absurd (not_first n x c b (c ++ n ∷ d) q e)
cut_once n (x ∷ a) b [] d p q e = absurd (not_first n x a d (a ++ n ∷ b) p (sym e))
cut_once n (x ∷ a) b (y ∷ c) d p q e =
    let rest = cut_once n a b c d (neither_second (x == n) _ p) (neither_second (y == n) _ q) (tail_is x y (a ++ n ∷ b) (c ++ n ∷ d) e) in
    (ap (λ (l : List ℕ). x ∷ l) rest.0 ∙ ap (λ (k : ℕ). k ∷ c) (head_is x y (a ++ n ∷ b) (c ++ n ∷ d) e), rest.1)

-- a text of two parts has the byte in neither
pub no_in_both : (n : ℕ) (a b : List ℕ) → HasNo n a → HasNo n b → HasNo n (a ++ b)
no_in_both n [] b p q = q
no_in_both n (x ∷ a) b p q = neither (x == n) _ (neither_first (x == n) _ p) (no_in_both n a b (neither_second (x == n) _ p) q)

-- a text that is not empty
pub not_empty : (n : ℕ) (a b : List ℕ) → a ++ n ∷ b ≢ []
not_empty n [] b e = cc
not_empty n (x ∷ a) b e = cc

-- one more byte that isn't it
pub no_cons : (n x : ℕ) (a : List ℕ) → x == n ≡ false → HasNo n a → HasNo n (x ∷ a)
no_cons n x a p q = neither (x == n) _ p q

-- a test of bytes that one byte fails
pub passes_no : (test : ℕ → Bool) (n : ℕ) → test n ≡ false → (a : List ℕ) → list_all test a ≡ true → HasNo n a
passes_no test n fails [] e = refl
passes_no test n fails (x ∷ a) e = neither (x == n) _ (by (x == n) refl) (passes_no test n fails a (both_second (test x) _ e))
  where
    by : (v : Bool) → x == n ≡ v → x == n ≡ false
    by true is = absurd (true≢false (sym (both_first (test x) _ e) ∙ ap test (grind (arith, is)) ∙ fails))
    by false is = is

pub digits_pass : (a : List ℕ) → All (λ x. is_lower_digit x ≡ true) a → list_all is_lower_digit a ≡ true
digits_pass [] h = refl
digits_pass (x ∷ a) h = ap (λ (v : Bool). v && list_all is_lower_digit a) (All-head (λ y. is_lower_digit y ≡ true) x a h) ∙ digits_pass a (All-tail (λ y. is_lower_digit y ≡ true) x a h)
