-- Texts are cut at the first byte of a kind.
use Rattle.std.proofs.Common.{◌≡◌, ◌≢◌, ◌==◌, ℕ, Bool, true, false, ◌&&◌, ◌||◌, List, [], ◌∷◌, ◌++◌, refl, sym, ap, ◌∙◌, true≢false, eq-eqb}
use Rattle.std.proofs.lemmas.Bool.{eqb-true}
use Rattle.std.specs.List.{list_any, list_all}

pub both_first : (a b : Bool) → a && b ≡ true → a ≡ true
both_first true b e = refl
both_first false b e = e

pub both_second : (a b : Bool) → a && b ≡ true → b ≡ true
both_second true b e = e
both_second false b e = absurd (true≢false (sym e))

pub both_true : (a b : Bool) → a ≡ true → b ≡ true → a && b ≡ true
both_true a b p q = ap (λ (x : Bool). x && b) p ∙ q

pub neither_first : (a b : Bool) → a || b ≡ false → a ≡ false
neither_first false b e = refl
neither_first true b e = e

pub neither_second : (a b : Bool) → a || b ≡ false → b ≡ false
neither_second false b e = e
neither_second true b e = absurd (true≢false e)

either_second : (a b : Bool) → b ≡ true → a || b ≡ true
either_second false b e = e
either_second true b e = refl

neither : (a b : Bool) → a ≡ false → b ≡ false → a || b ≡ false
neither a b p q = ap (λ (x : Bool). x || b) p ∙ q

-- the byte isn't in the text
abbrev pub Lacks : ℕ → List ℕ → Type 0
Lacks d text = list_any (λ b. b == d) text ≡ false

-- the byte stands there
pub has_byte : (d : ℕ) (a b : List ℕ) → list_any (λ c. c == d) (a ++ d ∷ b) ≡ true
has_byte d [] b = ap (λ (x : Bool). x || list_any (λ c. c == d) b) (eq-eqb d d refl)
has_byte d (x ∷ a) b = either_second (x == d) _ (has_byte d a b)

pub no_byte : (d : ℕ) (text a b : List ℕ) → Lacks d text → text ≢ a ++ d ∷ b
no_byte d text a b lacks is = true≢false (sym (has_byte d a b) ∙ ap (λ (l : List ℕ). list_any (λ c. c == d) l) (sym is) ∙ lacks)

pub lacks_append : (d : ℕ) (a b : List ℕ) → Lacks d a → Lacks d b → Lacks d (a ++ b)
lacks_append d [] b p q = q
lacks_append d (x ∷ a) b p q = neither (x == d) _ (neither_first (x == d) _ p) (lacks_append d a b (neither_second (x == d) _ p) q)

pub lacks_cons : (d x : ℕ) (a : List ℕ) → (x == d) ≡ false → Lacks d a → Lacks d (x ∷ a)
lacks_cons d x a p q = neither (x == d) _ p q

differs : (P : ℕ → Bool) (d x : ℕ) → P d ≡ false → P x ≡ true → (x == d) ≡ false
differs P d x other is = elim (x == d) as (λ v. (x == d) ≡ v → v ≡ false) [
  | true ↦ λ e. absurd (true≢false (sym is ∙ ap P (eqb-true x d e) ∙ other))
  | false ↦ λ e. refl
] refl

-- bytes of a kind that the byte is not of
pub lacks_by : (P : ℕ → Bool) (d : ℕ) → P d ≡ false → (text : List ℕ) → list_all P text ≡ true → Lacks d text
lacks_by P d other [] all = refl
lacks_by P d other (x ∷ text) all = neither (x == d) _ (differs P d x other (both_first (P x) _ all)) (lacks_by P d other text (both_second (P x) _ all))

pub all_append : (P : ℕ → Bool) (a b : List ℕ) → list_all P a ≡ true → list_all P b ≡ true → list_all P (a ++ b) ≡ true
all_append P [] b p q = q
all_append P (x ∷ a) b p q = both_true (P x) _ (both_first (P x) _ p) (all_append P a b (both_second (P x) _ p) q)

head_is : (x y : ℕ) (a b : List ℕ) → x ∷ a ≡ y ∷ b → x ≡ y
head_is x y a b e = cc

tail_is : (x y : ℕ) (a b : List ℕ) → x ∷ a ≡ y ∷ b → a ≡ b
tail_is x y a b e = cc

not_first : (d x : ℕ) (a b c : List ℕ) → Lacks d (x ∷ a) → d ∷ b ≡ x ∷ c → ⊥
not_first d x a b c none e = true≢false (sym (eq-eqb x d (sym (head_is d x b c e))) ∙ neither_first (x == d) _ none)

-- what stands before the first such byte, and behind it
pub cut_once : (d : ℕ) (a b c e : List ℕ) → Lacks d a → Lacks d c → a ++ d ∷ b ≡ c ++ d ∷ e → (a ≡ c) × (b ≡ e)
cut_once d [] b [] e p q is = (refl, tail_is d d b e is)
cut_once d [] b (x ∷ c) e p q is = absurd (not_first d x c b (c ++ d ∷ e) q is)
cut_once d (x ∷ a) b [] e p q is = absurd (not_first d x a e (a ++ d ∷ b) p (sym is))
cut_once d (x ∷ a) b (y ∷ c) e p q is =
    let rest = cut_once d a b c e (neither_second (x == d) _ p) (neither_second (y == d) _ q) (tail_is x y (a ++ d ∷ b) (c ++ d ∷ e) is) in
    (ap (λ (l : List ℕ). x ∷ l) rest.0 ∙ ap (λ (n : ℕ). n ∷ c) (head_is x y (a ++ d ∷ b) (c ++ d ∷ e) is), rest.1)
