use Rattle.std.proofs.Common.{◌≡◌, ℕ, ◌⊎◌, inl, inr, List, [], ◌∷◌, ◌++◌, IsTrue, refl, ap, sym, ◌∙◌, subst, arith, ◌+◌, suc, length}
use Rattle.auth_grammar.specs.Kinds.{kind_of, is_token, is_escapable, is_plain_byte}
use Rattle.auth_grammar.specs.Grammar.{Spot, Text, spots, IsElement, Splits}
use Rattle.auth_grammar.specs.declared.elements.Element.{Element}
use Rattle.auth_grammar.specs.States.{Rules, Resumes, fresh, Spelled, Lives, Fit}
use Rattle.auth_grammar.specs.declared.elements.Element.TheVariants.{Blank, Scheme, SchemeToken68}
use Rattle.auth_grammar.specs.Readings.{Allowed, Means, AnyMeans, Reading, after, with_value}
use Rattle.auth_grammar.proofs.Moves.{after_to, after_from}
use Rattle.auth_grammar.specs.Readings.Reading.{Start, InScheme, AfterScheme, InToken68, Padding, InName, AfterName, AfterEquals, InValue, InLoose, LoosePadding, InQuotes, Escaped, Trailing}
use Rattle.auth_grammar.proofs.FormReadings.{element_from, element_to, quote_34, equals_61}

pub token_97 : IsTrue (is_token (kind_of 97))
unfolding kind_of is_plain_byte
token_97 = refl

escapable_97 : IsTrue (is_escapable (kind_of 97))
unfolding kind_of is_plain_byte
escapable_97 = refl

-- each reading can be brought to an end, wherever it stands
pub completes : (r : Reading) → (text : List ℕ) × (e : Element) × ((at : ℕ) → Means e r (spots at text))
completes (Start params schemes) = ([], Blank, λ _. refl)
completes (InScheme s) = ([], Scheme s, λ _. refl)
completes (AfterScheme s) = ([], Scheme s, λ _. refl)
completes (InToken68 s x) = ([], SchemeToken68 s x, λ _. refl)
completes (Padding s x) = ([], SchemeToken68 s x, λ _. refl)
completes (InName s at n) = (61 ∷ 97 ∷ [], with_value s at n (97 ∷ []), λ _. inr (inr (inl (equals_61, inr (inl (token_97, refl))))))
completes (AfterName s at n) = (61 ∷ 97 ∷ [], with_value s at n (97 ∷ []), λ _. inr (inl (equals_61, inr (inl (token_97, refl)))))
completes (AfterEquals s at n) = (97 ∷ [], with_value s at n (97 ∷ []), λ _. inr (inl (token_97, refl)))
completes (InValue s at n v) = ([], with_value s at n v, λ _. refl)
completes (InLoose s at n v) = ([], with_value s at n v, λ _. refl)
completes (LoosePadding s at n v) = ([], with_value s at n v, λ _. refl)
completes (InQuotes s at n v) = (34 ∷ [], with_value s at n v, λ _. inl (quote_34, refl))
completes (Escaped s at n v) = (97 ∷ 34 ∷ [], with_value s at n (v ++ 97 ∷ []), λ _. inl (escapable_97, inl (quote_34, refl)))
completes (Trailing made) = ([], made, λ _. refl)

-- the laws of such rules
pub record Lawful (R : Rules) : Type 0 where
  pub back : (g : R.Made) (e : Element) (es : List Element) (x : R.X) → R.Goes g (e ∷ es) x → Allowed (R.params g) (R.schemes g) e × R.Goes (R.add g e) es x
  pub forth : (g : R.Made) (e : Element) (es : List Element) (x : R.X) → Allowed (R.params g) (R.schemes g) e → R.Goes (R.add g e) es x → R.Goes g (e ∷ es) x
  pub more : (g : R.Made) → ((x : R.X) × R.Goes g [] x) ⊎ ((text : List ℕ) × (e : Element) × (es : List Element) × (x : R.X) × ((at : ℕ) → Splits (spots at text) (e ∷ es)) × R.Goes g (e ∷ es) x)

-- the places go on behind a text
pub spots_append : (at : ℕ) (a b : List ℕ) → spots at (a ++ b) ≡ spots at a ++ spots (at + length a) b
spots_append at [] b = ap (λ (n : ℕ). spots n b) (omega arith)
spots_append at (x ∷ a) b = let s : Spot = record { at = at; byte = x } in let e : (at + 1) + length a ≡ at + suc (length a) = omega arith in
    ap (λ (y : Text). s ∷ y) (spots_append (at + 1) a b ∙ ap (λ (n : ℕ). spots (at + 1) a ++ spots n b) e)

resumes_to : (rs : List Reading) (b : Spot) (text : Text) (es : List Element) → Resumes rs (b ∷ text) es
    → Resumes (after (kind_of b.byte) b rs) text es ⊎ ((e f : Element) × (more : List Element) × (es ≡ e ∷ f ∷ more) × (b.byte ≡ 44) × AnyMeans e rs [] × Splits text (f ∷ more))
resumes_to rs b text [] h = absurd h
resumes_to rs b text (e ∷ []) h = inl (after_to e b text rs h)
resumes_to rs b text (e ∷ f ∷ es) h = cut h.0 h.1 h.2 h.3 h.4 h.5 h.6
  where
    cut : (front : Text) (comma : Spot) (back : Text) → b ∷ text ≡ front ++ comma ∷ back → comma.byte ≡ 44 → AnyMeans e rs front → Splits back (f ∷ es)
        → Resumes (after (kind_of b.byte) b rs) text (e ∷ f ∷ es) ⊎ ((e' f' : Element) × (more : List Element) × (e ∷ f ∷ es ≡ e' ∷ f' ∷ more) × (b.byte ≡ 44) × AnyMeans e' rs [] × Splits text (f' ∷ more))
    cut [] comma back h q m s = let t : back ≡ text = cc in let k : b ≡ comma = cc in inr (e, f, es, refl, ap (λ (x : Spot). x.byte) k ∙ q, m, subst (λ (x : Text). Splits x (f ∷ es)) t s)
    cut (c ∷ front) comma back h q m s =
        let t : text ≡ front ++ comma ∷ back = cc in
        let k : c ≡ b = cc in
        inl (front, comma, back, t, q, after_to e b front rs (subst (λ (x : Spot). AnyMeans e rs (x ∷ front)) k m), s)

resumes_from : (rs : List Reading) (b : Spot) (text : Text) (es : List Element) → Resumes (after (kind_of b.byte) b rs) text es → Resumes rs (b ∷ text) es
resumes_from rs b text [] h = absurd h
resumes_from rs b text (e ∷ []) h = after_from e b text rs h
resumes_from rs b text (e ∷ f ∷ es) h = (b ∷ h.0, h.1, h.2, ap (λ (x : Text). b ∷ x) h.3, h.4, after_from e b h.0 rs h.5, h.6)

module _ (R : Rules) (L : Lawful R) where
  fresh_to : (g : R.Made) (e : Element) (text : Text) → AnyMeans e (fresh R g) text → IsElement text e × Allowed (R.params g) (R.schemes g) e
  fresh_to g e text (inl h) = element_to (R.params g) (R.schemes g) e text h
  fresh_to g e text (inr h) = absurd h

  pub fresh_fits : (g : R.Made) → Fit R g (fresh R g)
  fresh_fits g e text h = (fresh_to g e text h).1

  pub spelled_lives : (g : R.Made) (text : Text) (x : R.X) → Spelled R g text x → Lives R g (fresh R g) text x
  spelled_lives g text x h = go h.0 h.1 h.2
    where
      go : (es : List Element) → Splits text es → R.Goes g es x → Lives R g (fresh R g) text x
      go [] s k = absurd s
      go (e ∷ []) s k = (e ∷ [], inl (element_from (R.params g) (R.schemes g) e text s (L.back g e [] x k).0), k)
      go (e ∷ f ∷ es) s k = (e ∷ f ∷ es, (s.0, s.1, s.2, s.3, s.4, inl (element_from (R.params g) (R.schemes g) e s.0 s.5 (L.back g e (f ∷ es) x k).0), s.6), k)

  pub lives_spelled : (g : R.Made) (text : Text) (x : R.X) → Lives R g (fresh R g) text x → Spelled R g text x
  lives_spelled g text x h = go h.0 h.1 h.2
    where
      go : (es : List Element) → Resumes (fresh R g) text es → R.Goes g es x → Spelled R g text x
      go [] s k = absurd s
      go (e ∷ []) s k = (e ∷ [], (fresh_to g e text s).0, k)
      go (e ∷ f ∷ es) s k = (e ∷ f ∷ es, (s.0, s.1, s.2, s.3, s.4, (fresh_to g e s.0 s.5).0, s.6), k)

  -- a byte that ends no element
  pub stays_to : (g : R.Made) (rs : List Reading) (b : Spot) (text : Text) (x : R.X) → ((e : Element) → b.byte ≡ 44 → AnyMeans e rs [] → ⊥) → Lives R g rs (b ∷ text) x → Lives R g (after (kind_of b.byte) b rs) text x
  stays_to g rs b text x never h = elim (resumes_to rs b text h.0 h.1) [ inl r ↦ (h.0, r, h.2) | inr r ↦ absurd (never r.0 r.4 r.5) ]

  pub stays_from : (g : R.Made) (rs : List Reading) (b : Spot) (text : Text) (x : R.X) → Lives R g (after (kind_of b.byte) b rs) text x → Lives R g rs (b ∷ text) x
  stays_from g rs b text x h = (h.0, resumes_from rs b text h.0 h.1, h.2)

  pub stays_fit : (g : R.Made) (rs : List Reading) (b : Spot) → Fit R g rs → Fit R g (after (kind_of b.byte) b rs)
  stays_fit g rs b fit e text h = fit e (b ∷ text) (after_from e b text rs h)

  -- a comma that ends the one element that may end
  pub ends_to : (g : R.Made) (rs : List Reading) (made : Element) (comma : Spot) (text : Text) (x : R.X) → after (kind_of comma.byte) comma rs ≡ [] → ((e : Element) → AnyMeans e rs [] → made ≡ e)
      → Lives R g rs (comma ∷ text) x → Lives R (R.add g made) (fresh R (R.add g made)) text x
  ends_to g rs made comma text x none only h = elim (resumes_to rs comma text h.0 h.1) [
    | inl r ↦ absurd (nothing h.0 r)
    | inr r ↦ (
        let e : r.0 ≡ made = sym (only r.0 r.5) in
        let k : R.Goes g (made ∷ r.1 ∷ r.2) x = subst (λ (y : List Element). R.Goes g y x) (r.3 ∙ ap (λ (y : Element). y ∷ r.1 ∷ r.2) e) h.2 in
        spelled_lives (R.add g made) text x (r.1 ∷ r.2, r.6, (L.back g made (r.1 ∷ r.2) x k).1))
  ]
    where
      nothing : (es : List Element) → Resumes (after (kind_of comma.byte) comma rs) text es → ⊥
      nothing [] r = r
      nothing (e ∷ []) r = subst (λ (y : List Reading). AnyMeans e y text) none r
      nothing (e ∷ f ∷ es) r = subst (λ (y : List Reading). AnyMeans e y r.0) none r.5

  pub ends_from : (g : R.Made) (rs : List Reading) (made : Element) (comma : Spot) (text : Text) (x : R.X) → comma.byte ≡ 44 → Fit R g rs → AnyMeans made rs []
      → Lives R (R.add g made) (fresh R (R.add g made)) text x → Lives R g rs (comma ∷ text) x
  ends_from g rs made comma text x is fit end h = go (s.0) s.1 s.2
    where
      s : Spelled R (R.add g made) text x
      s = lives_spelled (R.add g made) text x h

      go : (es : List Element) → Splits text es → R.Goes (R.add g made) es x → Lives R g rs (comma ∷ text) x
      go [] p k = absurd p
      go (f ∷ es) p k = (made ∷ f ∷ es, ([], comma, text, refl, is, end, p), L.forth g made (f ∷ es) x (fit made [] end) k)

  -- the end of the text
  pub last_to : (g : R.Made) (rs : List Reading) (x : R.X) → Lives R g rs [] x → (e : Element) × AnyMeans e rs [] × R.Goes (R.add g e) [] x
  last_to g rs x h = go h.0 h.1 h.2
    where
      clash : (front : Text) (comma : Spot) (back : Text) → [] ≡ front ++ comma ∷ back → ⊥
      clash [] comma back h = cc
      clash (c ∷ front) comma back h = cc

      go : (es : List Element) → Resumes rs [] es → R.Goes g es x → (e : Element) × AnyMeans e rs [] × R.Goes (R.add g e) [] x
      go [] s k = absurd s
      go (e ∷ []) s k = (e, s, (L.back g e [] x k).1)
      go (e ∷ f ∷ es) s k = absurd (clash s.0 s.1 s.2 s.3)

  pub last_from : (g : R.Made) (rs : List Reading) (e : Element) (x : R.X) → Fit R g rs → AnyMeans e rs [] → R.Goes (R.add g e) [] x → Lives R g rs [] x
  last_from g rs e x fit m k = (e ∷ [], m, L.forth g e [] x (fit e [] m) k)

  -- where a reading is left the text can be brought to an end
  pub revives : (g : R.Made) (at : ℕ) (r : Reading) (rs : List Reading) → Fit R g (r ∷ rs) → (text : List ℕ) × (x : R.X) × Lives R g (r ∷ rs) (spots at text) x
  revives g at r rs fit =
      let c = completes r in
      let n : ℕ = at + length c.0 in
      let comma : Spot = record { at = n; byte = 44 } in
      elim (L.more (R.add g c.1)) [
        | inl m ↦ (c.0, m.0, (c.1 ∷ [], inl (c.2 at), L.forth g c.1 [] m.0 (fit c.1 (spots at c.0) (inl (c.2 at))) m.1))
        | inr m ↦ (
          c.0 ++ 44 ∷ m.0,
          m.3,
          (
            c.1 ∷ m.1 ∷ m.2,
            (spots at c.0, comma, spots (n + 1) m.0, spots_append at c.0 (44 ∷ m.0), refl, inl (c.2 at), m.4 (n + 1)),
            L.forth g c.1 (m.1 ∷ m.2) m.3 (fit c.1 (spots at c.0) (inl (c.2 at))) m.5,
          ),
        )
      ]

  pub is_dead : (g : R.Made) (text : Text) (x : R.X) → Lives R g [] text x → ⊥
  is_dead g text x h = go h.0 h.1
    where
      go : (es : List Element) → Resumes [] text es → ⊥
      go [] s = s
      go (e ∷ []) s = s
      go (e ∷ f ∷ es) s = s.5
