-- Texts cut into parts at their commas, and how far they go on.
use Rattle.std.proofs.Common.{◌≡◌, ◌≢◌, ◌==◌, ◌+◌, ℕ, Bool, true, false, List, [], ◌∷◌, ◌++◌, refl, sym, ◌∙◌, ap, subst, length, length-append, append_assoc, append-nil, inl, inr, arith}
use Rattle.std.specs.List.{list_any}
use Rattle.scram_text.specs.Bytes.{HasNoComma}
use Rattle.scram_text.specs.Parts.{BreaksOff, IsAtComma, LedBy, Then}
use Rattle.scram_text.specs.Reaching.{Halts, Reaches}
use Rattle.scram_text.proofs.ByteTests.{neither, same_or_not}

-- the first byte is no comma, and none is behind it
pub no_comma : (b : ℕ) (text : List ℕ) → HasNoComma (b ∷ text) → (b ≢ 44) × HasNoComma text
no_comma b text whole =
    let parts = neither (b == 44) (list_any (λ x. x == 44) text) whole in
    (λ same. let e : (44 == 44) ≡ false = subst (λ (x : ℕ). (x == 44) ≡ false) same parts.0 in cc, parts.1)

pub no_comma_cons : (b : ℕ) (text : List ℕ) → b ≢ 44 → HasNoComma text → HasNoComma (b ∷ text)
no_comma_cons b text other whole = elim (same_or_not b 44) [
  | inl is ↦ absurd (other is.0)
  | inr not ↦ rw (not.1, whole) refl
]

pub no_comma_split : (front back : List ℕ) → HasNoComma (front ++ back) → HasNoComma front × HasNoComma back
no_comma_split [] back whole = (refl, whole)
no_comma_split (b ∷ front) back whole =
    let parts = no_comma b (front ++ back) whole in
    let rest = no_comma_split front back parts.1 in
    (no_comma_cons b front parts.0 rest.0, rest.1)

pub no_comma_join : (front back : List ℕ) → HasNoComma front → HasNoComma back → HasNoComma (front ++ back)
no_comma_join [] back whole more = more
no_comma_join (b ∷ front) back whole more =
    let parts = no_comma b front whole in no_comma_cons b (front ++ back) parts.0 (no_comma_join front back parts.1 more)

-- a text is cut at its first comma in one way
pub parted : (p q s t : List ℕ) → HasNoComma p → HasNoComma q → IsAtComma s → IsAtComma t → p ++ s ≡ q ++ t → (p ≡ q) × (s ≡ t)
parted [] [] s t whole whole2 at at2 same = (refl, same)
parted [] (y ∷ q) [] t whole whole2 at at2 same = cc
parted [] (y ∷ q) (x ∷ s) t whole whole2 at at2 same =
    let is : x ≡ y = cc in absurd ((no_comma y q whole2).0 (sym is ∙ at))
parted (x ∷ p) [] s [] whole whole2 at at2 same = cc
parted (x ∷ p) [] s (y ∷ t) whole whole2 at at2 same =
    let is : x ≡ y = cc in absurd ((no_comma x p whole).0 (is ∙ at2))
parted (x ∷ p) (y ∷ q) s t whole whole2 at at2 same =
    let rest : p ++ s ≡ q ++ t = cc in
    let next = parted p q s t (no_comma x p whole).1 (no_comma y q whole2).1 at at2 rest in
    let first : x ≡ y = cc in
    let e = next.0 in (cc, next.1)

-- what stands behind the same front
pub same_front : (front s t : List ℕ) → front ++ s ≡ front ++ t → s ≡ t
same_front [] s t same = same
same_front (x ∷ front) s t same = same_front front s t cc

-- what has no comma lies inside the first part
pub inside : (front more p s : List ℕ) → HasNoComma front → IsAtComma s → front ++ more ≡ p ++ s → (rest : List ℕ) × (p ≡ front ++ rest)
inside [] more p s whole at same = (p, refl)
inside (x ∷ front) more [] [] whole at same = cc
inside (x ∷ front) more [] (y ∷ s) whole at same = let is : x ≡ y = cc in absurd ((no_comma x front whole).0 (is ∙ at))
inside (x ∷ front) more (y ∷ p) s whole at same =
    let rest : front ++ more ≡ p ++ s = cc in
    let next = inside front more p s (no_comma x front whole).1 at rest in
    let first : x ≡ y = cc in
    (next.0, let e = next.1 in cc)

-- a text of the form reaches its end
pub reach_stops : (Form : List ℕ → Type 0) (text : List ℕ) (at : ℕ) → (Form text → ⊥) → Reaches Form text at → Halts Form text at
reach_stops Form text at none reach = record { reach = reach; none = none }

module _ (test : ℕ → Bool) (Form : List ℕ → Type 0) where
  -- a byte that leads on
  pub led_on : (b : ℕ) (text : List ℕ) (at : ℕ) → test b ≡ true → Reaches Form text at → Reaches (LedBy test Form) (b ∷ text) (1 + at)
  led_on b text at leads reach = record {
    front = b ∷ reach.front;
    back = reach.back;
    cut = ap (λ (w : List ℕ). b ∷ w) reach.cut;
    long = (let l = reach.long in omega arith);
    rest = reach.rest;
    lives = record { first = b; more = reach.front ++ reach.rest; cut = refl; leads = leads; follows = reach.lives };
    stuck = λ x left more e led. reach.stuck x left more e (let same : led.more ≡ reach.front ++ x ∷ more = (let c = led.cut in cc) in subst Form same led.follows);
  }

  -- no byte that does
  pub led_off : (one : ℕ) (word : List ℕ) → test one ≡ true → Form word → (text : List ℕ) → ((b : ℕ) (left : List ℕ) → text ≡ b ∷ left → test b ≡ false) → Reaches (LedBy test Form) text 0
  led_off one word leads follows text fails = record {
    front = [];
    back = text;
    cut = refl;
    long = refl;
    rest = one ∷ word;
    lives = record { first = one; more = word; cut = refl; leads = leads; follows = follows };
    stuck = λ b left more e led.
        let same : led.first ≡ b = (let c = led.cut in cc) in
        let yes : test b ≡ true = subst (λ (x : ℕ). test x ≡ true) same led.leads in
        let fail : test b ≡ false = fails b left e in
        let wrong : true ≡ false = sym yes ∙ fail in cc;
  }

  pub led_none : (b : ℕ) (text : List ℕ) → (Form text → ⊥) → LedBy test Form (b ∷ text) → ⊥
  led_none b text none led = none (let same : led.more ≡ text = (let c = led.cut in cc) in subst Form same led.follows)

module _ (Part : List ℕ → Type 0) (whole : (part : List ℕ) → Part part → HasNoComma part) where
  -- a byte more in the first part, where the parts of the form have none there
  pub inside_part : (front back part : List ℕ) (b : ℕ) (left more p s : List ℕ) → HasNoComma part → part ≡ front ++ back → back ≡ b ∷ left
      → ((rest : List ℕ) → Part (front ++ b ∷ rest) → ⊥) → IsAtComma s → front ++ b ∷ more ≡ p ++ s → Part p → ⊥
  inside_part front back part b left more p s clear cut is stuck at same is_part =
      let one : HasNoComma ((front ++ b ∷ []) ++ left) = subst HasNoComma (cut ∙ ap (λ (w : List ℕ). front ++ w) is ∙ sym (append_assoc front (b ∷ []) left)) clear in
      let found = inside (front ++ b ∷ []) more p s (no_comma_split (front ++ b ∷ []) left one).0 at (append_assoc front (b ∷ []) more ∙ same) in
      stuck found.0 (subst Part (found.1 ∙ append_assoc front (b ∷ []) found.0) is_part)

  module _ (More : List ℕ → Type 0) where
    -- a part of the form, and how far the rest goes on
    pub then_on : (part text : List ℕ) (at : ℕ) → Part part → Halts More text at → Halts (Then Part More) (part ++ 44 ∷ text) (length part + (1 + at))
    then_on part text at is_part halts = record {
      none = λ then. halts.none (subst More (snd_eq (parted then.part part (44 ∷ then.more) (44 ∷ text) (whole then.part then.is_part) (whole part is_part) refl refl (sym then.cut)).1) then.is_more);
      reach = record {
        front = part ++ 44 ∷ halts.reach.front;
        back = halts.reach.back;
        cut = ap (λ (w : List ℕ). part ++ 44 ∷ w) halts.reach.cut ∙ sym (append_assoc part (44 ∷ halts.reach.front) halts.reach.back);
        long = (let l = halts.reach.long in length-append part (44 ∷ halts.reach.front) ∙ omega arith);
        rest = halts.reach.rest;
        lives = record { part = part; more = halts.reach.front ++ halts.reach.rest; cut = append_assoc part (44 ∷ halts.reach.front) halts.reach.rest; is_part = is_part; is_more = halts.reach.lives };
        stuck = λ b left more e then. halts.reach.stuck b left more e
            (subst More (snd_eq (parted then.part part (44 ∷ then.more) (44 ∷ (halts.reach.front ++ b ∷ more)) (whole then.part then.is_part) (whole part is_part) refl refl (sym then.cut ∙ append_assoc part (44 ∷ halts.reach.front) (b ∷ more))).1) then.is_more);
      };
    }
      where
        snd_eq : {s t : List ℕ} → 44 ∷ s ≡ 44 ∷ t → s ≡ t
        snd_eq same = cc

    -- no part of the form with a comma behind it
    pub then_off : (word : List ℕ) → More word → (text : List ℕ) (at : ℕ) → BreaksOff Part text at → Halts (Then Part More) text at
    then_off word is_word text at off = record {
      none = λ then. breaks then (parted then.part off.part (44 ∷ then.more) off.more (whole then.part then.is_part) off.first.whole refl off.first.at_comma (sym then.cut ∙ off.first.cut));
      reach = record {
        front = off.reach.front;
        back = off.reach.back ++ off.more;
        cut = off.first.cut ∙ ap (λ (w : List ℕ). w ++ off.more) off.reach.cut ∙ append_assoc off.reach.front off.reach.back off.more;
        long = off.reach.long;
        rest = off.reach.rest ++ 44 ∷ word;
        lives = record { part = off.reach.front ++ off.reach.rest; more = word; cut = sym (append_assoc off.reach.front off.reach.rest (44 ∷ word)); is_part = off.reach.lives; is_more = is_word };
        stuck = λ b left more e then. go b left more then off.reach.back refl e;
      };
    }
      where
        breaks : (then : Then Part More text) → (then.part ≡ off.part) × (44 ∷ then.more ≡ off.more) → ⊥
        breaks then same = elim off.ends [
          | inl empty ↦ let e : 44 ∷ then.more ≡ [] = same.1 ∙ empty in cc
          | inr none ↦ none (subst Part same.0 then.is_part)
        ]

        go : (b : ℕ) (left more : List ℕ) → Then Part More (off.reach.front ++ b ∷ more) → (back : List ℕ) → off.reach.back ≡ back → off.reach.back ++ off.more ≡ b ∷ left → ⊥
        go b left more then [] is e =
            let all : off.part ≡ off.reach.front = off.reach.cut ∙ ap (λ (w : List ℕ). off.reach.front ++ w) is ∙ append-nil off.reach.front in
            let next : off.more ≡ b ∷ left = sym (ap (λ (w : List ℕ). w ++ off.more) is) ∙ e in
            let comma : b ≡ 44 = subst IsAtComma next off.first.at_comma in
            let cut : then.part ++ 44 ∷ then.more ≡ off.part ++ b ∷ more = sym then.cut ∙ ap (λ (w : List ℕ). w ++ b ∷ more) (sym all) in
            let same = parted then.part off.part (44 ∷ then.more) (b ∷ more) (whole then.part then.is_part) off.first.whole refl comma cut in
            elim off.ends [
              | inl empty ↦ let f : b ∷ left ≡ [] = sym next ∙ empty in cc
              | inr none ↦ none (subst Part same.0 then.is_part)
            ]
        go b left more then (x ∷ back) is e =
            let here : x ≡ b = (let f : (x ∷ back) ++ off.more ≡ b ∷ left = sym (ap (λ (w : List ℕ). w ++ off.more) is) ∙ e in cc) in
            inside_part off.reach.front off.reach.back off.part b back more then.part (44 ∷ then.more) off.first.whole off.reach.cut (is ∙ ap (λ (y : ℕ). y ∷ back) here)
            (λ rest. off.reach.stuck b back rest (is ∙ ap (λ (y : ℕ). y ∷ back) here)) refl then.cut then.is_part
