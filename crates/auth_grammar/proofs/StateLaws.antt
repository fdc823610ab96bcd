use Rattle.std.proofs.Common.{◌≡◌, ℕ, Bool, inl, inr, List, [], ◌∷◌, ◌++◌, Option, Some, None, refl, ap, sym, ◌∙◌, append_assoc, subst, IsSome, IsTrue, length, ◌+◌}
use Rattle.std.proofs.lemmas.List.{append-nil, length-append}
use Rattle.auth_grammar.specs.Kinds.{kind_of, is_comma}
use Rattle.auth_grammar.specs.declared.kinds.Kind.{Kind}
use Rattle.auth_grammar.specs.declared.kinds.Kind.TheVariants.{Comma}
use Rattle.auth_grammar.specs.declared.kept.Kept.{Kept}
use Rattle.auth_grammar.specs.declared.position.Position.{Position}
use Rattle.auth_grammar.specs.declared.position.Position.TheVariants as At
use Rattle.auth_grammar.specs.Grammar.{Spot, Text, spots}
use Rattle.auth_grammar.specs.declared.elements.Element.{Element}
use Rattle.auth_grammar.specs.declared.elements.Element.TheVariants.{Blank, Scheme, SchemeToken68}
use Rattle.auth_grammar.specs.Readings.{AnyMeans, Reading, after, with_value}
use Rattle.auth_grammar.specs.Positions.{readings, ending, first_of, Leaves}
use Rattle.auth_grammar.proofs.Moves.{any_left, any_split}
use Rattle.auth_grammar.proofs.FormReadings.{comma_is, kind_44}
use Rattle.auth_grammar.specs.States.{Rules, Resumes, fresh, Spelled, Lives, Fit, Follows}
use Rattle.auth_grammar.proofs.ElementLists.{Lawful, fresh_fits, spelled_lives, lives_spelled, stays_to, stays_from, stays_fit, ends_to, ends_from, last_to, last_from, revives, is_dead}

-- what a reading's end makes is the element that may end there
pub ending_to : (params schemes : Bool) (p : Position) (w : Kept) (e : Element) → AnyMeans e (readings params schemes p w) [] → ending p w ≡ Some e
ending_to params schemes At.Start w e (inl h) = ap Some h
ending_to params schemes At.Start w e (inr h) = absurd h
ending_to params schemes At.Scheme w e (inl h) = ap Some h
ending_to params schemes At.Scheme w e (inr h) = absurd h
ending_to params schemes At.SchemeSpace w e (inl h) = ap Some h
ending_to params schemes At.SchemeSpace w e (inr h) = absurd h
ending_to params schemes At.SchemeWhite w e (inl h) = ap Some h
ending_to params schemes At.SchemeWhite w e (inr h) = absurd h
ending_to params schemes At.Token68 w e (inl h) = ap Some h
ending_to params schemes At.Token68 w e (inr h) = absurd h
ending_to params schemes At.Padding w e (inl h) = ap Some h
ending_to params schemes At.Padding w e (inr h) = absurd h
ending_to params schemes At.Token68White w e (inl h) = ap Some h
ending_to params schemes At.Token68White w e (inr h) = absurd h
ending_to params schemes At.Token w e (inl h) = ap Some h
ending_to params schemes At.Token w e (inr h) = absurd h
ending_to params schemes At.Loose w e (inl h) = ap Some h
ending_to params schemes At.Loose w e (inr h) = absurd h
ending_to params schemes At.LoosePadding w e (inl h) = ap Some h
ending_to params schemes At.LoosePadding w e (inr h) = absurd h
ending_to params schemes At.ValueWhite w e (inl h) = ap Some h
ending_to params schemes At.ValueWhite w e (inr h) = absurd h
ending_to params schemes At.Word w e (inl h) = ap Some h
ending_to params schemes At.Word w e (inr (inl h)) = absurd h
ending_to params schemes At.Word w e (inr (inr h)) = absurd h
ending_to params schemes At.WordSpace w e (inl h) = ap Some h
ending_to params schemes At.WordSpace w e (inr (inl h)) = absurd h
ending_to params schemes At.WordSpace w e (inr (inr h)) = absurd h
ending_to params schemes At.WordWhite w e (inl h) = ap Some h
ending_to params schemes At.WordWhite w e (inr (inl h)) = absurd h
ending_to params schemes At.WordWhite w e (inr (inr h)) = absurd h
ending_to params schemes At.Second w e (inl h) = ap Some h
ending_to params schemes At.Second w e (inr (inl h)) = absurd h
ending_to params schemes At.Second w e (inr (inr h)) = absurd h
ending_to params schemes At.SecondWhite w e (inl h) = ap Some h
ending_to params schemes At.SecondWhite w e (inr (inl h)) = absurd h
ending_to params schemes At.SecondWhite w e (inr (inr h)) = absurd h
ending_to params schemes At.SecondEquals w e (inl h) = ap Some h
ending_to params schemes At.SecondEquals w e (inr (inl h)) = absurd h
ending_to params schemes At.SecondEquals w e (inr (inr h)) = absurd h
ending_to params schemes At.SecondEqualsWhite w e (inl h) = ap Some h
ending_to params schemes At.SecondEqualsWhite w e (inr (inl h)) = absurd h
ending_to params schemes At.SecondEqualsWhite w e (inr (inr h)) = absurd h
ending_to params schemes At.Name w e (inl h) = absurd h
ending_to params schemes At.Name w e (inr h) = absurd h
ending_to params schemes At.NameWhite w e (inl h) = absurd h
ending_to params schemes At.NameWhite w e (inr h) = absurd h
ending_to params schemes At.Equals w e (inl h) = absurd h
ending_to params schemes At.Equals w e (inr h) = absurd h
ending_to params schemes At.Quoted w e (inl h) = absurd h
ending_to params schemes At.Quoted w e (inr h) = absurd h
ending_to params schemes At.Escaped w e (inl h) = absurd h
ending_to params schemes At.Escaped w e (inr h) = absurd h
ending_to params schemes At.Value w e (inl h) = ap Some h
ending_to params schemes At.Value w e (inr (inl h)) = ap Some h
ending_to params schemes At.Value w e (inr (inr h)) = absurd h

pub ending_from : (params schemes : Bool) (p : Position) (w : Kept) (e : Element) → ending p w ≡ Some e → AnyMeans e (readings params schemes p w) []
ending_from params schemes At.Start w e h = (let k : Blank ≡ e = cc in inl k)
ending_from params schemes At.Scheme w e h = (let k : Scheme w.word ≡ e = cc in inl k)
ending_from params schemes At.SchemeSpace w e h = (let k : Scheme w.word ≡ e = cc in inl k)
ending_from params schemes At.SchemeWhite w e h = (let k : Scheme w.word ≡ e = cc in inl k)
ending_from params schemes At.Token68 w e h = (let k : SchemeToken68 (first_of w) w.word ≡ e = cc in inl k)
ending_from params schemes At.Padding w e h = (let k : SchemeToken68 (first_of w) w.word ≡ e = cc in inl k)
ending_from params schemes At.Token68White w e h = (let k : SchemeToken68 (first_of w) w.word ≡ e = cc in inl k)
ending_from params schemes At.Token w e h = (let k : with_value w.scheme w.at w.word w.value ≡ e = cc in inl k)
ending_from params schemes At.Loose w e h = (let k : with_value w.scheme w.at w.word w.value ≡ e = cc in inl k)
ending_from params schemes At.LoosePadding w e h = (let k : with_value w.scheme w.at w.word w.value ≡ e = cc in inl k)
ending_from params schemes At.ValueWhite w e h = (let k : with_value w.scheme w.at w.word w.value ≡ e = cc in inl k)
ending_from params schemes At.Word w e h = (let k : Scheme w.word ≡ e = cc in inl k)
ending_from params schemes At.WordSpace w e h = (let k : Scheme w.word ≡ e = cc in inl k)
ending_from params schemes At.WordWhite w e h = (let k : Scheme w.word ≡ e = cc in inl k)
ending_from params schemes At.Second w e h = (let k : SchemeToken68 (first_of w) w.word ≡ e = cc in inl k)
ending_from params schemes At.SecondWhite w e h = (let k : SchemeToken68 (first_of w) w.word ≡ e = cc in inl k)
ending_from params schemes At.SecondEquals w e h = (let k : SchemeToken68 (first_of w) (w.word ++ 61 ∷ []) ≡ e = cc in inl k)
ending_from params schemes At.SecondEqualsWhite w e h = (let k : SchemeToken68 (first_of w) (w.word ++ 61 ∷ []) ≡ e = cc in inl k)
ending_from params schemes At.Value w e h = (let k : with_value w.scheme w.at w.word w.value ≡ e = cc in inl k)
ending_from params schemes At.Name w e h = absurd (cc (h))
ending_from params schemes At.NameWhite w e h = absurd (cc (h))
ending_from params schemes At.Equals w e h = absurd (cc (h))
ending_from params schemes At.Quoted w e h = absurd (cc (h))
ending_from params schemes At.Escaped w e h = absurd (cc (h))

pub some_is : {A : Type 0} (o : Option A) → IsSome o → (x : A) × (o ≡ Some x)
some_is (Some x) h = (x, refl)
some_is None h = absurd (cc (h))

-- readings that are left as they are, or twice
leaves_to : (rs qs : List Reading) → Leaves rs qs → (e : Element) (text : Text) → AnyMeans e qs text → AnyMeans e rs text
leaves_to rs qs (inl h) e text m = subst (λ (y : List Reading). AnyMeans e y text) (sym h) m
leaves_to rs qs (inr h) e text m = elim (any_split e text rs rs (subst (λ (y : List Reading). AnyMeans e y text) (sym h) m)) [ inl x ↦ x | inr y ↦ y ]

leaves_from : (rs qs : List Reading) → Leaves rs qs → (e : Element) (text : Text) → AnyMeans e rs text → AnyMeans e qs text
leaves_from rs qs (inl h) e text m = subst (λ (y : List Reading). AnyMeans e y text) h m
leaves_from rs qs (inr h) e text m = subst (λ (y : List Reading). AnyMeans e y text) h (any_left e text rs rs m)

none_left : (qs : List Reading) → Leaves [] qs → qs ≡ []
none_left qs (inl h) = sym h
none_left qs (inr h) = sym h

readings_some : (params schemes : Bool) (p : Position) (w : Kept) → readings params schemes p w ≡ [] → ⊥
readings_some params schemes At.Start w h = cc
readings_some params schemes At.Scheme w h = cc
readings_some params schemes At.SchemeSpace w h = cc
readings_some params schemes At.SchemeWhite w h = cc
readings_some params schemes At.Token68 w h = cc
readings_some params schemes At.Padding w h = cc
readings_some params schemes At.Token68White w h = cc
readings_some params schemes At.Token w h = cc
readings_some params schemes At.Loose w h = cc
readings_some params schemes At.LoosePadding w h = cc
readings_some params schemes At.ValueWhite w h = cc
readings_some params schemes At.Word w h = cc
readings_some params schemes At.WordSpace w h = cc
readings_some params schemes At.WordWhite w h = cc
readings_some params schemes At.Second w h = cc
readings_some params schemes At.SecondWhite w h = cc
readings_some params schemes At.SecondEquals w h = cc
readings_some params schemes At.SecondEqualsWhite w h = cc
readings_some params schemes At.Name w h = cc
readings_some params schemes At.NameWhite w h = cc
readings_some params schemes At.Equals w h = cc
readings_some params schemes At.Quoted w h = cc
readings_some params schemes At.Escaped w h = cc
readings_some params schemes At.Value w h = cc

module _ (R : Rules) (L : Lawful R) where
  lives_map : (g : R.Made) (rs qs : List Reading) (text : Text) (x : R.X) → ((e : Element) (t : Text) → AnyMeans e rs t → AnyMeans e qs t) → Lives R g rs text x → Lives R g qs text x
  lives_map g rs qs text x f h = (h.0, go h.0 h.1, h.2)
    where
      go : (es : List Element) → Resumes rs text es → Resumes qs text es
      go [] s = s
      go (e ∷ []) s = f e text s
      go (e ∷ d ∷ es) s = (s.0, s.1, s.2, s.3, s.4, f e s.0 s.5, s.6)

  pub follows_begun : (w : Kept) → Follows R R.begun At.Start w []
  follows_begun w = record {
    lives = λ rest x h. spelled_lives R L R.begun (spots 0 rest) x h;
    spells = λ rest x h. lives_spelled R L R.begun (spots 0 rest) x h;
    fits = fresh_fits R L R.begun;
  }

  one_more : (P : List ℕ → Type 0) (fed rest : List ℕ) (b : ℕ) → P ((fed ++ b ∷ []) ++ rest) → P (fed ++ b ∷ rest)
  one_more P fed rest b h = subst P (append_assoc fed (b ∷ []) rest) h

  one_less : (P : List ℕ → Type 0) (fed rest : List ℕ) (b : ℕ) → P (fed ++ b ∷ rest) → P ((fed ++ b ∷ []) ++ rest)
  one_less P fed rest b h = subst P (sym (append_assoc fed (b ∷ []) rest)) h

  -- the next byte stands where the text so far ends
  next_at : (fed : List ℕ) (b : ℕ) → length (fed ++ b ∷ []) ≡ length fed + 1
  next_at fed b = length-append fed (b ∷ [])

  abbrev spot_of : List ℕ → ℕ → Spot
  spot_of fed b = record { at = length fed; byte = b }

  -- a byte that ends no element
  pub follows_on : (g : R.Made) (p q : Position) (w v : Kept) (fed : List ℕ) (b : ℕ) → Follows R g p w fed
      → Leaves (readings (R.params g) (R.schemes g) q v) (after (kind_of b) (record { at = length fed; byte = b }) (readings (R.params g) (R.schemes g) p w))
      → (kind_of b ≡ Comma → ending p w ≡ None) → Follows R g q v (fed ++ b ∷ [])
  follows_on g p q w v fed b f l ends =
      let c : Spot = record { at = length fed; byte = b } in
      let rs : List Reading = readings (R.params g) (R.schemes g) p w in
      let qs : List Reading = readings (R.params g) (R.schemes g) q v in
      let ms : List Reading = after (kind_of b) c rs in
      let never : (e : Element) → b ≡ 44 → AnyMeans e rs [] → ⊥ = λ e k m. absurd (cc (ends (ap kind_of k ∙ kind_44), ending_to (R.params g) (R.schemes g) p w e m)) in
      record {
        lives = λ rest x h. subst (λ (n : ℕ). Lives R g qs (spots n rest) x) (sym (next_at fed b))
            (lives_map g ms qs (spots (length fed + 1) rest) x (leaves_to qs ms l) (stays_to R L g rs c (spots (length fed + 1) rest) x never (f.lives (b ∷ rest) x (one_more (λ (t : List ℕ). Spelled R R.begun (spots 0 t) x) fed rest b h))));
        spells = λ rest x h. one_less (λ (t : List ℕ). Spelled R R.begun (spots 0 t) x) fed rest b (f.spells (b ∷ rest) x (stays_from R L g rs c (spots (length fed + 1) rest) x (lives_map g qs ms (spots (length fed + 1) rest) x (leaves_from qs ms l)
            (subst (λ (n : ℕ). Lives R g qs (spots n rest) x) (next_at fed b) h))));
        fits = λ e text m. stays_fit R L g rs c f.fits e text (leaves_from qs ms l e text m);
      }

  -- a comma that ends one
  pub follows_end : (g : R.Made) (p : Position) (w v : Kept) (made : Element) (fed : List ℕ) (b : ℕ) → Follows R g p w fed
      → Leaves [] (after (kind_of b) (record { at = length fed; byte = b }) (readings (R.params g) (R.schemes g) p w))
      → kind_of b ≡ Comma → ending p w ≡ Some made → Follows R (R.add g made) At.Start v (fed ++ b ∷ [])
  follows_end g p w v made fed b f l k ends =
      let c : Spot = record { at = length fed; byte = b } in
      let rs : List Reading = readings (R.params g) (R.schemes g) p w in
      let is : b ≡ 44 = comma_is b (subst (λ (y : Kind). IsTrue (is_comma y)) (sym k) refl) in
      let none : after (kind_of b) c rs ≡ [] = none_left (after (kind_of b) c rs) l in
      let only : (e : Element) → AnyMeans e rs [] → made ≡ e = λ e m. cc (ends, ending_to (R.params g) (R.schemes g) p w e m) in
      let end : AnyMeans made rs [] = ending_from (R.params g) (R.schemes g) p w made ends in
      record {
        lives = λ rest x h. subst (λ (n : ℕ). Lives R (R.add g made) (fresh R (R.add g made)) (spots n rest) x) (sym (next_at fed b))
            (ends_to R L g rs made c (spots (length fed + 1) rest) x none only (f.lives (b ∷ rest) x (one_more (λ (t : List ℕ). Spelled R R.begun (spots 0 t) x) fed rest b h)));
        spells = λ rest x h. one_less (λ (t : List ℕ). Spelled R R.begun (spots 0 t) x) fed rest b (f.spells (b ∷ rest) x (ends_from R L g rs made c (spots (length fed + 1) rest) x is f.fits end
            (subst (λ (n : ℕ). Lives R (R.add g made) (fresh R (R.add g made)) (spots n rest) x) (next_at fed b) h)));
        fits = fresh_fits R L (R.add g made);
      }

  -- no text goes on with that byte
  pub follows_dead : (g : R.Made) (p : Position) (w : Kept) (fed : List ℕ) (b : ℕ) → Follows R g p w fed
      → Leaves [] (after (kind_of b) (record { at = length fed; byte = b }) (readings (R.params g) (R.schemes g) p w))
      → (kind_of b ≡ Comma → ending p w ≡ None) → (rest : List ℕ) (x : R.X) → Spelled R R.begun (spots 0 ((fed ++ b ∷ []) ++ rest)) x → ⊥
  follows_dead g p w fed b f l ends rest x h =
      let c : Spot = record { at = length fed; byte = b } in
      let rs : List Reading = readings (R.params g) (R.schemes g) p w in
      let never : (e : Element) → b ≡ 44 → AnyMeans e rs [] → ⊥ = λ e k m. absurd (cc (ends (ap kind_of k ∙ kind_44), ending_to (R.params g) (R.schemes g) p w e m)) in
      is_dead R L g (spots (length fed + 1) rest) x (subst (λ (y : List Reading). Lives R g y (spots (length fed + 1) rest) x) (none_left (after (kind_of b) c rs) l)
      (stays_to R L g rs c (spots (length fed + 1) rest) x never (f.lives (b ∷ rest) x (one_more (λ (t : List ℕ). Spelled R R.begun (spots 0 t) x) fed rest b h))))

  -- some text goes on from each state
  pub follows_begins : (g : R.Made) (p : Position) (w : Kept) (fed : List ℕ) → Follows R g p w fed → (rest : List ℕ) × (x : R.X) × Spelled R R.begun (spots 0 (fed ++ rest)) x
  follows_begins g p w fed f = go (readings (R.params g) (R.schemes g) p w) refl (readings_some (R.params g) (R.schemes g) p w)
    where
      go : (rs : List Reading) → readings (R.params g) (R.schemes g) p w ≡ rs → (rs ≡ [] → ⊥) → (rest : List ℕ) × (x : R.X) × Spelled R R.begun (spots 0 (fed ++ rest)) x
      go [] h k = absurd (k refl)
      go (r ∷ rs) h k =
          let l = revives R L g (length fed) r rs (subst (λ (y : List Reading). Fit R g y) h f.fits) in
          (l.0, l.1, f.spells l.0 l.1 (subst (λ (y : List Reading). Lives R g y (spots (length fed) l.0) l.1) (sym h) l.2))

  -- what the whole text spells
  pub follows_made : (g : R.Made) (p : Position) (w : Kept) (fed : List ℕ) (made : Element) (x : R.X) → Follows R g p w fed → ending p w ≡ Some made → R.Goes (R.add g made) [] x → Spelled R R.begun (spots 0 fed) x
  follows_made g p w fed made x f ends k =
      subst (λ (t : List ℕ). Spelled R R.begun (spots 0 t) x) (append-nil fed)
      (f.spells [] x (last_from R L g (readings (R.params g) (R.schemes g) p w) made x f.fits (ending_from (R.params g) (R.schemes g) p w made ends) k))

  pub follows_only : (g : R.Made) (p : Position) (w : Kept) (fed : List ℕ) (x : R.X) → Follows R g p w fed → Spelled R R.begun (spots 0 fed) x → (e : Element) × (ending p w ≡ Some e) × R.Goes (R.add g e) [] x
  follows_only g p w fed x f h =
      let l = last_to R L g (readings (R.params g) (R.schemes g) p w) x (f.lives [] x (subst (λ (t : List ℕ). Spelled R R.begun (spots 0 t) x) (sym (append-nil fed)) h)) in
      (l.0, ending_to (R.params g) (R.schemes g) p w l.0 l.1, l.2)
