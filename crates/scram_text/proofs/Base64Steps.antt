-- Base64 texts place by place.
use Rattle.std.proofs.Common.{◌≡◌, ◌≢◌, ℕ, zero, suc, ◌+◌, ◌-◌, ◌<◌, ◌≤◌, ◌==◌, ◌&&◌, ◌||◌, nat_lt, Bool, true, false, List, [], ◌∷◌, ◌++◌, length, take, drop, get_or, length-append, append-nil, refl, sym, ◌∙◌, ap, subst, arith, ◌⊎◌, inl, inr, if◌then◌else◌}
use Rattle.std.specs.declared.option.Option.{Option}
use Rattle.std.specs.declared.option.Option.TheVariants.{None, Some}
use Rattle.std.proofs.lemmas.Bool.{lt-ltb}
use Rattle.std.proofs.lemmas.Bool.Decides.{Decides-eqb}
use Rattle.std.proofs.lemmas.List.{drop_more, length-take-le, take-append-drop, take_all, take_more}
use Rattle.scram_text.specs.Base64Places.{Walks, ends_in_zeros, is_end, may_end, may_follow, next_place, place_behind}
use Rattle.scram_text.specs.Bytes.{is_symbol}
use Rattle.scram_text.specs.Reaching.{Reaches}
use Rattle.scram_text.specs.declared.base64_places.Place.{Place}
use Rattle.scram_text.specs.declared.base64_places.Place.TheVariants.{Start, Group, One, Two, Three, Sign, End, Sized}
use Rattle.scram_text.proofs.ByteTests.{both, same_or_not}

pub one_step : (p q : Place) (b : ℕ) (t : List ℕ) → next_place p b ≡ Some q → place_behind p (b ∷ t) ≡ place_behind q t
one_step p q b t e = let f : Option Place → Option Place = λ o. elim o [ None ↦ None | Some next ↦ place_behind next t ] in ap f e

pub no_step : (p : Place) (b : ℕ) (t : List ℕ) → next_place p b ≡ None → place_behind p (b ∷ t) ≡ None
no_step p b t e = let f : Option Place → Option Place = λ o. elim o [ None ↦ None | Some next ↦ place_behind next t ] in ap f e

pub some_or_none : (o : Option Place) → (o ≡ None) ⊎ ((q : Place) × (o ≡ Some q))
some_or_none None = inl refl
some_or_none (Some q) = inr (q, refl)

-- the first byte led on
pub record Stepped (p : Place) (b : ℕ) (t : List ℕ) : Type 0 where
  pub to : Place
  pub leads : next_place p b ≡ Some to
  pub follows : may_follow to t ≡ true

pub stepped : (p : Place) (b : ℕ) (t : List ℕ) → may_follow p (b ∷ t) ≡ true → Stepped p b t
stepped p b t follows = elim (some_or_none (next_place p b)) [
  | inl none ↦ absurd (let e : false ≡ true = sym (ap is_end (no_step p b t none)) ∙ follows in cc)
  | inr some ↦ record { to = some.0; leads = some.1; follows = sym (ap is_end (one_step p some.0 b t some.1)) ∙ follows }
]

pub behind-append : (p q : Place) (front t : List ℕ) → place_behind p front ≡ Some q → place_behind p (front ++ t) ≡ place_behind q t
behind-append p q [] t e = let same : p ≡ q = cc in ap (λ (x : Place). place_behind x t) same
behind-append p q (b ∷ front) t e = elim (some_or_none (next_place p b)) [
  | inl none ↦ absurd (let wrong : None ≡ Some q = sym (no_step p b front none) ∙ e in cc)
  | inr some ↦ one_step p some.0 b (front ++ t) some.1 ∙ behind-append some.0 q front t (sym (one_step p some.0 b front some.1) ∙ e)
]

-- one more byte
pub behind-snoc : (p q r : Place) (front : List ℕ) (b : ℕ) → place_behind p front ≡ Some q → next_place q b ≡ Some r → place_behind p (front ++ b ∷ []) ≡ Some r
behind-snoc p q r front b e next = behind-append p q front (b ∷ []) e ∙ one_step q r b [] next

-- a character where two or more are to follow
sized_is : (n b : ℕ) → 2 ≤ n → next_place (Sized n) b ≡ (if is_symbol b then Some (Sized (n - 1)) else None)
sized_is n b more =
    let f : Bool → Bool → Bool → Option Place = λ x y z. if x then (if b == 61 then Some End else None) else (if y && (z || ends_in_zeros 4 b) then Some (Sized (n - 1)) else None) in
    ap (λ (x : Bool). f x (is_symbol b) (nat_lt 1 n)) some ∙ ap (λ (z : Bool). f false (is_symbol b) z) (lt-ltb 1 n (omega arith)) ∙ plain (is_symbol b)
  where
    some : (n == 0) ≡ false
    some = elim (same_or_not n 0) [ inl same ↦ absurd (omega (arith, same.0)) | inr other ↦ other.1 ]

    plain : (y : Bool) → (if y && true then Some (Sized (n - 1)) else None) ≡ (if y then Some (Sized (n - 1)) else None)
    plain true = refl
    plain false = refl

pub sized_next : (n b : ℕ) → 2 ≤ n → is_symbol b ≡ true → next_place (Sized n) b ≡ Some (Sized (n - 1))
sized_next n b more is = let f : Bool → Option Place = λ t. if t then Some (Sized (n - 1)) else None in sized_is n b more ∙ ap f is

-- a text that may stand at each place
sized_word : (n : ℕ) → (w : List ℕ) × (may_follow (Sized n) w ≡ true)
sized_word zero = (61 ∷ [], refl)
sized_word (suc zero) = (65 ∷ 61 ∷ [], refl)
sized_word (suc (suc n)) =
    let rest = sized_word (suc n) in
    let leads = sized_next (suc (suc n)) 65 (omega arith) refl in
    let P : ℕ → Type 0 = λ k. may_follow (Sized k) rest.0 ≡ true in
    (65 ∷ rest.0, ap is_end (one_step (Sized (suc (suc n))) (Sized (suc (suc n) - 1)) 65 rest.0 leads) ∙ subst P (let e : suc n ≡ suc (suc n) - 1 = omega arith in e) rest.1)

pub word_at : (p : Place) → (w : List ℕ) × (may_follow p w ≡ true)
word_at Start = (65 ∷ 65 ∷ 65 ∷ 65 ∷ [], refl)
word_at Group = ([], refl)
word_at One = (65 ∷ 65 ∷ 65 ∷ [], refl)
word_at (Two zeros) = (65 ∷ 65 ∷ [], refl)
word_at (Three zeros) = (65 ∷ [], refl)
word_at Sign = (61 ∷ [], refl)
word_at End = ([], refl)
word_at (Sized n) = sized_word n

-- so a walk tells how far a text goes on
pub walk_reaches : (from to : Place) (text : List ℕ) (at : ℕ) → Walks from text at to → Reaches (λ t. may_follow from t ≡ true) text at
walk_reaches from to text at walks = record {
  front = walks.front;
  back = walks.back;
  cut = walks.cut;
  long = walks.long;
  rest = (word_at to).0;
  lives = ap is_end (behind-append from to walks.front (word_at to).0 walks.leads) ∙ (word_at to).1;
  stuck = λ b left more e follows.
      let none = no_step to b more (walks.stuck b left e) in
      let wrong : false ≡ true = sym (ap is_end (behind-append from to walks.front (b ∷ more) walks.leads ∙ none)) ∙ follows in cc;
}

-- what each place tells of the byte that led on
pub led_by_symbol : (b : ℕ) (next to : Place) → (if is_symbol b then Some next else None) ≡ Some to → (is_symbol b ≡ true) × (to ≡ next)
led_by_symbol b next to e = elim (is_symbol b) as (λ t. is_symbol b ≡ t → (if t then Some next else None) ≡ Some to → (is_symbol b ≡ true) × (to ≡ next)) [
  | true ↦ λ is same. (is, cc)
  | false ↦ λ is same. cc
] refl e

pub led_by_sign : (b : ℕ) (zeros : Bool) (next to : Place) → (if zeros && (b == 61) then Some next else None) ≡ Some to → (zeros ≡ true) × (b ≡ 61) × (to ≡ next)
led_by_sign b zeros next to e = elim (zeros && (b == 61)) as (λ t. (zeros && (b == 61)) ≡ t → (if t then Some next else None) ≡ Some to → (zeros ≡ true) × (b ≡ 61) × (to ≡ next)) [
  | true ↦ λ is same. let parts = both zeros (b == 61) is in (parts.0, (Decides-eqb b 61).0 parts.1, cc)
  | false ↦ λ is same. cc
] refl e

pub led_by_either : (b : ℕ) (zeros : Bool) (on padded to : Place) → (if is_symbol b then Some on else (if zeros && (b == 61) then Some padded else None)) ≡ Some to
    → ((is_symbol b ≡ true) × (to ≡ on)) ⊎ ((zeros ≡ true) × (b ≡ 61) × (to ≡ padded))
led_by_either b zeros on padded to e = elim (is_symbol b) as (λ t. is_symbol b ≡ t → (if t then Some on else (if zeros && (b == 61) then Some padded else None)) ≡ Some to
    → ((is_symbol b ≡ true) × (to ≡ on)) ⊎ ((zeros ≡ true) × (b ≡ 61) × (to ≡ padded))) [
      | true ↦ λ is same. inl (is, cc)
      | false ↦ λ is same. inr (led_by_sign b zeros padded to same)
    ] refl e

pub sized_on : (n b : ℕ) (to : Place) → 2 ≤ n → next_place (Sized n) b ≡ Some to → (is_symbol b ≡ true) × (to ≡ Sized (n - 1))
sized_on n b to more e = led_by_symbol b (Sized (n - 1)) to (sym (sized_is n b more) ∙ e)

-- nothing may follow at the end
pub end_empty : (t : List ℕ) → may_follow End t ≡ true → t ≡ []
end_empty [] follows = refl
end_empty (b ∷ t) follows = let s = stepped End b t follows in let wrong : None ≡ Some s.to = s.leads in cc

-- a sign, and then nothing
pub sign_end : (t : List ℕ) → may_follow Sign t ≡ true → t ≡ 61 ∷ []
sign_end [] follows = cc
sign_end (b ∷ t) follows =
    let s = stepped Sign b t follows in
    let led = led_by_sign b true End s.to s.leads in
    let rest = end_empty t (subst (λ (p : Place). may_follow p t ≡ true) led.2 s.follows) in
    ap (λ (x : ℕ). x ∷ t) led.1 ∙ ap (λ (w : List ℕ). 61 ∷ w) rest

-- a walk to the end of the text, and one that stops before
pub walk_ends : (from to : Place) (text : List ℕ) (at : ℕ) → length text ≤ at → place_behind from (take at text) ≡ Some to → Walks from text (length text) to
walk_ends from to text at over leads = record {
  front = text;
  back = [];
  cut = sym (append-nil text);
  long = refl;
  leads = ap (place_behind from) (sym (take_all at text over)) ∙ leads;
  stuck = λ b left e. cc;
}

pub walk_stops : (from to : Place) (text : List ℕ) (at : ℕ) → at < length text → place_behind from (take at text) ≡ Some to → next_place to (get_or text at 0) ≡ None → Walks from text at to
walk_stops from to text at within leads none = record {
  front = take at text;
  back = drop at text;
  cut = sym (take-append-drop at text);
  long = length-take-le at text (omega arith);
  leads = leads;
  stuck = λ b left e.
      let f : get_or text at 0 ∷ drop (at + 1) text ≡ b ∷ left = sym (drop_more text at 0 within) ∙ e in
      let same : get_or text at 0 ≡ b = cc in
      subst (λ (x : ℕ). next_place to x ≡ None) same none;
}

pub walk_goes : (from to next : Place) (text : List ℕ) (at : ℕ) → at < length text → place_behind from (take at text) ≡ Some to → next_place to (get_or text at 0) ≡ Some next → place_behind from (take (at + 1) text) ≡ Some next
walk_goes from to next text at within leads step =
    ap (place_behind from) (take_more text at 0 within) ∙ behind-snoc from to next (take at text) (get_or text at 0) leads step

-- so the text may follow where the walk ends well
pub walk_whole : (from to : Place) (text : List ℕ) (at : ℕ) → Walks from text at to → at ≡ length text → may_follow from text ≡ may_end to
walk_whole from to text at walks whole = go walks.back refl
  where
    go : (back : List ℕ) → walks.back ≡ back → may_follow from text ≡ may_end to
    go [] is = ap (may_follow from) (walks.cut ∙ ap (λ (w : List ℕ). walks.front ++ w) is ∙ append-nil walks.front) ∙ ap is_end walks.leads
    go (b ∷ left) is = absurd (let l = walks.long in let e = ap length walks.cut in let s = length-append walks.front walks.back in let k = ap length is in omega arith)

pub walk_short : (from to : Place) (text : List ℕ) (at : ℕ) → Walks from text at to → at ≢ length text → may_follow from text ≡ false
walk_short from to text at walks short = go walks.back refl
  where
    go : (back : List ℕ) → walks.back ≡ back → may_follow from text ≡ false
    go [] is = absurd (short (let l = walks.long in let e = ap length walks.cut in let s = length-append walks.front walks.back in let k = ap length is in omega arith))
    go (b ∷ left) is =
        ap (may_follow from) (walks.cut ∙ ap (λ (w : List ℕ). walks.front ++ w) is) ∙ ap is_end (behind-append from to walks.front (b ∷ left) walks.leads ∙ no_step to b left (walks.stuck b left is))
