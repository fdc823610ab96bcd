-- How far a text goes on as one of two forms.
use Rattle.std.proofs.Common.{◌≡◌, ◌≤◌, ℕ, List, [], ◌∷◌, ◌++◌, refl, sym, ◌∙◌, ap, subst, length, ◌⊎◌, inl, inr, arith}
use Rattle.scram_text.specs.Reaching.{Halts, Reaches}

-- what a text goes on with behind a shorter front
record GoesPast (shorter behind longer : List ℕ) (b : ℕ) : Type 0 where
  first : ℕ
  left : List ℕ
  is : behind ≡ first ∷ left
  on : (more : List ℕ) → (rest : List ℕ) × (longer ++ b ∷ more ≡ shorter ++ first ∷ rest)

goes_past : (longer shorter behind : List ℕ) (b : ℕ) (left : List ℕ) → longer ++ b ∷ left ≡ shorter ++ behind → length shorter ≤ length longer → GoesPast shorter behind longer b
goes_past [] [] behind b left same short = record { first = b; left = left; is = sym same; on = λ more. (more, refl) }
goes_past (x ∷ longer) [] behind b left same short = record { first = x; left = longer ++ b ∷ left; is = sym same; on = λ more. (longer ++ b ∷ more, refl) }
goes_past [] (y ∷ shorter) behind b left same short = absurd (omega arith)
goes_past (x ∷ longer) (y ∷ shorter) behind b left same short =
    let rest : longer ++ b ∷ left ≡ shorter ++ behind = cc in
    let first : x ≡ y = cc in
    let past = goes_past longer shorter behind b left rest (omega arith) in
    record { first = past.first; left = past.left; is = past.is; on = λ more. ((past.on more).0, ap (λ (w : List ℕ). x ∷ w) (past.on more).1 ∙ ap (λ (c : ℕ). c ∷ (shorter ++ past.first ∷ (past.on more).0)) first) }

module _ (A B : List ℕ → Type 0) where
  -- as far as the one that goes further
  reach_left : (text : List ℕ) (m n : ℕ) → n ≤ m → Reaches A text m → Reaches B text n → Reaches (λ t. A t ⊎ B t) text m
  reach_left text m n short a b = record {
    front = a.front;
    back = a.back;
    cut = a.cut;
    long = a.long;
    rest = a.rest;
    lives = inl a.lives;
    stuck = λ x left more e is. elim is [
      | inl form ↦ a.stuck x left more e form
      | inr form ↦
          let past = goes_past a.front b.front b.back x left (sym (a.cut ∙ ap (λ (w : List ℕ). a.front ++ w) e) ∙ b.cut) (omega (arith, a.long, b.long, short)) in
          b.stuck past.first past.left (past.on more).0 past.is (subst B (past.on more).1 form)
    ];
  }

module _ (A B : List ℕ → Type 0) where
  swap : (t : List ℕ) → B t ⊎ A t → A t ⊎ B t
  swap t is = elim is [ inl b ↦ inr b | inr a ↦ inl a ]

  reach_right : (text : List ℕ) (m n : ℕ) → m ≤ n → Reaches A text m → Reaches B text n → Reaches (λ t. A t ⊎ B t) text n
  reach_right text m n short a b =
      let r = reach_left B A text n m short b a in
      record { front = r.front; back = r.back; cut = r.cut; long = r.long; rest = r.rest; lives = swap (r.front ++ r.rest) r.lives; stuck = λ x left more e is. r.stuck x left more e (elim is [ inl form ↦ inr form | inr form ↦ inl form ]) }

  pub either_reaches : (text : List ℕ) (m n at : ℕ) → m ≤ at → n ≤ at → (at ≡ m) ⊎ (at ≡ n) → Reaches A text m → Reaches B text n → Reaches (λ t. A t ⊎ B t) text at
  either_reaches text m n at first second one a b = elim one [
    | inl same ↦ subst (λ (k : ℕ). Reaches (λ t. A t ⊎ B t) text k) (sym same) (reach_left A B text m n (subst (λ (k : ℕ). n ≤ k) same second) a b)
    | inr same ↦ subst (λ (k : ℕ). Reaches (λ t. A t ⊎ B t) text k) (sym same) (reach_right text m n (subst (λ (k : ℕ). m ≤ k) same first) a b)
  ]

  pub either_halts : (text : List ℕ) (m n at : ℕ) → m ≤ at → n ≤ at → (at ≡ m) ⊎ (at ≡ n) → Halts A text m → Halts B text n → Halts (λ t. A t ⊎ B t) text at
  either_halts text m n at first second one a b = record {
    reach = either_reaches text m n at first second one a.reach b.reach;
    none = λ is. elim is [ inl form ↦ a.none form | inr form ↦ b.none form ];
  }
