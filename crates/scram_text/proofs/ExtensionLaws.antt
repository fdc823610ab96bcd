-- Extensions behind a part, and how far they go on.
use Rattle.std.proofs.Common.{◌≡◌, ◌+◌, ◌-◌, ℕ, List, [], ◌∷◌, ◌++◌, refl, sym, ◌∙◌, ap, subst, length, length-append, append_assoc, append-nil, arith}
use Rattle.std.specs.List.{AllByRecursion}
use Rattle.scram_text.specs.Bytes.{HasNoComma}
use Rattle.scram_text.specs.Parts.{AreAll, AreExtensions, Ends, FirstPart, IsAtComma, IsAttribute, behind_commas}
use Rattle.scram_text.specs.Reaching.{Halts, Reaches}
use Rattle.scram_text.specs.declared.attribute.Attribute.{Attribute}
use Rattle.scram_text.specs.declared.attribute.Attribute.TheVariants.{Extension}
use Rattle.scram_text.proofs.AttributeLaws.{attribute_whole}
use Rattle.scram_text.proofs.PartLaws.{inside_part, parted}

-- no extension at all
pub no_extensions : AreExtensions []
no_extensions = record { parts = []; cut = refl; each = tt }

-- such attributes begin with a comma, or aren't there
pub all_at_comma : (a : Attribute) (text : List ℕ) → AreAll a text → IsAtComma text
all_at_comma a text are = go are.parts are.cut
  where
    go : (parts : List (List ℕ)) → text ≡ behind_commas parts → IsAtComma text
    go [] cut = subst IsAtComma (sym cut) tt
    go (part ∷ parts) cut = subst IsAtComma (sym cut) refl

pub at_comma : (text : List ℕ) → AreExtensions text → IsAtComma text
at_comma text are = all_at_comma Extension text are

-- the text behind the first comma is an extension, and more of them
pub behind_first : (text : List ℕ) → AreExtensions (44 ∷ text) → Ends (IsAttribute Extension) text
behind_first text are = go are.parts are.cut are.each
  where
    go : (parts : List (List ℕ)) → 44 ∷ text ≡ behind_commas parts → AllByRecursion (IsAttribute Extension) parts → Ends (IsAttribute Extension) text
    go [] cut each = cc
    go (part ∷ parts) cut each = record { part = part; more = behind_commas parts; cut = (let c : 44 ∷ text ≡ 44 ∷ (part ++ behind_commas parts) = cut in cc); is_part = each.0; extensions = record { parts = parts; cut = refl; each = each.1 } }

pub before_first : (text : List ℕ) → Ends (IsAttribute Extension) text → AreExtensions (44 ∷ text)
before_first text ends = record { parts = ends.part ∷ ends.extensions.parts; cut = ap (λ (w : List ℕ). 44 ∷ w) (ends.cut ∙ ap (λ (w : List ℕ). ends.part ++ w) ends.extensions.cut); each = (ends.is_part, ends.extensions.each) }

-- another byte behind the same front
same_start : (front left more : List ℕ) (b : ℕ) → IsAtComma (front ++ b ∷ left) → IsAtComma (front ++ b ∷ more)
same_start [] left more b at = at
same_start (x ∷ front) left more b at = at

module _ (Part : List ℕ → Type 0) (whole : (part : List ℕ) → Part part → HasNoComma part) where
  -- a part of the form, and how far the extensions behind it go on
  pub ends_on : (part text : List ℕ) (at : ℕ) → Part part → IsAtComma text → Halts AreExtensions text at → Halts (Ends Part) (part ++ text) (length part + at)
  ends_on part text at is_part comma halts = record {
    none = λ ends. halts.none (subst AreExtensions (parted ends.part part ends.more text (whole ends.part ends.is_part) (whole part is_part) (at_comma ends.more ends.extensions) comma (sym ends.cut)).1 ends.extensions);
    reach = record {
      front = part ++ halts.reach.front;
      back = halts.reach.back;
      cut = ap (λ (w : List ℕ). part ++ w) halts.reach.cut ∙ sym (append_assoc part halts.reach.front halts.reach.back);
      long = length-append part halts.reach.front ∙ ap (λ (n : ℕ). length part + n) halts.reach.long;
      rest = halts.reach.rest;
      lives = record { part = part; more = halts.reach.front ++ halts.reach.rest; cut = append_assoc part halts.reach.front halts.reach.rest; is_part = is_part; extensions = halts.reach.lives };
      stuck = λ b left more e ends. halts.reach.stuck b left more e
          (subst AreExtensions (parted ends.part part ends.more (halts.reach.front ++ b ∷ more) (whole ends.part ends.is_part) (whole part is_part) (at_comma ends.more ends.extensions)
          (same_start halts.reach.front left more b (subst IsAtComma (halts.reach.cut ∙ ap (λ (w : List ℕ). halts.reach.front ++ w) e) comma)) (sym ends.cut ∙ append_assoc part halts.reach.front (b ∷ more))).1 ends.extensions);
    };
  }

  -- no part of the form
  pub ends_off : (text part more : List ℕ) (at : ℕ) → FirstPart text part more → (Part part → ⊥) → Reaches Part part at → Halts (Ends Part) text at
  ends_off text part more at first wrong reach = record {
    none = λ ends. wrong (subst Part (parted ends.part part ends.more more (whole ends.part ends.is_part) first.whole (at_comma ends.more ends.extensions) first.at_comma (sym ends.cut ∙ first.cut)).0 ends.is_part);
    reach = record {
      front = reach.front;
      back = reach.back ++ more;
      cut = first.cut ∙ ap (λ (w : List ℕ). w ++ more) reach.cut ∙ append_assoc reach.front reach.back more;
      long = reach.long;
      rest = reach.rest;
      lives = record { part = reach.front ++ reach.rest; more = []; cut = sym (append-nil (reach.front ++ reach.rest)); is_part = reach.lives; extensions = no_extensions };
      stuck = λ b left after e ends. go b left after ends reach.back refl e;
    };
  }
    where
      go : (b : ℕ) (left after : List ℕ) → Ends Part (reach.front ++ b ∷ after) → (back : List ℕ) → reach.back ≡ back → reach.back ++ more ≡ b ∷ left → ⊥
      go b left after ends [] is e =
          let all : part ≡ reach.front = reach.cut ∙ ap (λ (w : List ℕ). reach.front ++ w) is ∙ append-nil reach.front in
          let next : more ≡ b ∷ left = sym (ap (λ (w : List ℕ). w ++ more) is) ∙ e in
          let comma : b ≡ 44 = subst IsAtComma next first.at_comma in
          wrong (subst Part (parted ends.part part ends.more (b ∷ after) (whole ends.part ends.is_part) first.whole (at_comma ends.more ends.extensions) comma (sym ends.cut ∙ ap (λ (w : List ℕ). w ++ b ∷ after) (sym all))).0 ends.is_part)
      go b left after ends (x ∷ back) is e =
          let here : x ≡ b = (let f : (x ∷ back) ++ more ≡ b ∷ left = sym (ap (λ (w : List ℕ). w ++ more) is) ∙ e in cc) in
          let at_b : reach.back ≡ b ∷ back = is ∙ ap (λ (y : ℕ). y ∷ back) here in
          inside_part Part whole reach.front reach.back part b back after ends.part ends.more first.whole reach.cut at_b (λ rest. reach.stuck b back rest at_b) (at_comma ends.more ends.extensions) ends.cut ends.is_part

-- behind a comma
at_first : (text : List ℕ) (at : ℕ) → Halts (Ends (IsAttribute Extension)) text at → Halts AreExtensions (44 ∷ text) (1 + at)
at_first text at halts = record {
  none = λ are. halts.none (behind_first text are);
  reach = record {
    front = 44 ∷ halts.reach.front;
    back = halts.reach.back;
    cut = ap (λ (w : List ℕ). 44 ∷ w) halts.reach.cut;
    long = (let l = halts.reach.long in omega arith);
    rest = halts.reach.rest;
    lives = before_first (halts.reach.front ++ halts.reach.rest) halts.reach.lives;
    stuck = λ b left more e are. halts.reach.stuck b left more e (behind_first (halts.reach.front ++ b ∷ more) are);
  };
}

-- behind extensions
behind_all : (parts : List (List ℕ)) (text : List ℕ) (at : ℕ) → AllByRecursion (IsAttribute Extension) parts → IsAtComma text → Halts AreExtensions text at
    → Halts AreExtensions (behind_commas parts ++ text) (length (behind_commas parts) + at)
behind_all [] text at each comma halts = let P : ℕ → Type 0 = λ n. Halts AreExtensions text n in subst P (let e : at ≡ 0 + at = omega arith in e) halts
behind_all (part ∷ parts) text at each comma halts =
    let rest = behind_all parts text at each.1 comma halts in
    let starts : IsAtComma (behind_commas parts ++ text) = go parts in
    let whole = at_first (part ++ (behind_commas parts ++ text)) (length part + (length (behind_commas parts) + at))
    (ends_on (IsAttribute Extension) (attribute_whole Extension) part (behind_commas parts ++ text) (length (behind_commas parts) + at) each.0 starts rest) in
    let P : List ℕ → Type 0 = λ t. Halts AreExtensions t (length (behind_commas (part ∷ parts)) + at) in
    let Q : ℕ → Type 0 = λ n. Halts AreExtensions (44 ∷ (part ++ (behind_commas parts ++ text))) n in
    subst P (ap (λ (w : List ℕ). 44 ∷ w) (sym (append_assoc part (behind_commas parts) text)))
    (subst Q (let e = length-append part (behind_commas parts) in let f : 1 + (length part + (length (behind_commas parts) + at)) ≡ length (behind_commas (part ∷ parts)) + at = omega (arith, e) in f) whole)
  where
    go : (parts : List (List ℕ)) → IsAtComma (behind_commas parts ++ text)
    go [] = comma
    go (p ∷ ps) = refl

-- one more
snoc_commas : (parts : List (List ℕ)) (part : List ℕ) → behind_commas (parts ++ part ∷ []) ≡ behind_commas parts ++ 44 ∷ part
snoc_commas [] part = ap (λ (w : List ℕ). 44 ∷ w) (append-nil part)
snoc_commas (p ∷ ps) part = ap (λ (w : List ℕ). 44 ∷ (p ++ w)) (snoc_commas ps part) ∙ ap (λ (w : List ℕ). 44 ∷ w) (sym (append_assoc p (behind_commas ps) (44 ∷ part)))

snoc_all : (P : List ℕ → Type 0) (parts : List (List ℕ)) (part : List ℕ) → AllByRecursion P parts → P part → AllByRecursion P (parts ++ part ∷ [])
snoc_all P [] part each is = (is, tt)
snoc_all P (p ∷ ps) part each is = (each.0, snoc_all P ps part each.1 is)

-- the next part is an extension too
pub one_more : (text rest more part next : List ℕ) → ((parts : List (List ℕ)) × AllByRecursion (IsAttribute Extension) parts × (text ≡ behind_commas parts ++ rest) × IsAtComma rest)
    → rest ≡ 44 ∷ more → FirstPart more part next → IsAttribute Extension part
    → (parts : List (List ℕ)) × AllByRecursion (IsAttribute Extension) parts × (text ≡ behind_commas parts ++ next) × IsAtComma next
one_more text rest more part next before comma first is = (
  before.0 ++ part ∷ [],
  snoc_all (IsAttribute Extension) before.0 part before.1 is,
  before.2 ∙ ap (λ (w : List ℕ). behind_commas before.0 ++ w) (comma ∙ ap (λ (w : List ℕ). 44 ∷ w) first.cut) ∙ sym (append_assoc (behind_commas before.0) (44 ∷ part) next) ∙ ap (λ (w : List ℕ). w ++ next) (sym (snoc_commas before.0 part)),
  first.at_comma,
)

-- the next part is none
pub one_faulty : (text rest more part next : List ℕ) (at : ℕ) → ((parts : List (List ℕ)) × AllByRecursion (IsAttribute Extension) parts × (text ≡ behind_commas parts ++ rest) × IsAtComma rest)
    → rest ≡ 44 ∷ more → FirstPart more part next → (IsAttribute Extension part → ⊥) → Reaches (IsAttribute Extension) part at → Halts AreExtensions text (length text - length more + at)
one_faulty text rest more part next at before comma first wrong reach =
    let here = at_first more at (ends_off (IsAttribute Extension) (attribute_whole Extension) more part next at first wrong reach) in
    let all = behind_all before.0 (44 ∷ more) (1 + at) before.1 refl here in
    let cut : text ≡ behind_commas before.0 ++ 44 ∷ more = before.2 ∙ ap (λ (w : List ℕ). behind_commas before.0 ++ w) comma in
    let P : List ℕ → Type 0 = λ t. Halts AreExtensions t (length text - length more + at) in
    let Q : ℕ → Type 0 = λ n. Halts AreExtensions (behind_commas before.0 ++ 44 ∷ more) n in
    subst P (sym cut) (subst Q (let e : length text ≡ length (behind_commas before.0) + (1 + length more) = ap length cut ∙ length-append (behind_commas before.0) (44 ∷ more) ∙ omega arith in
    let f : length (behind_commas before.0) + (1 + at) ≡ length text - length more + at = omega arith in f) all)
