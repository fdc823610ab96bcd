use Rattle.std.proofs.Common.{◌≡◌, ℕ, Bool, true, false, List, [], ◌∷◌, ◌++◌, Option, Some, None, Err, refl, ap, sym, ◌∙◌, append_assoc, subst, IsTrue, ◌<◌, ◌+◌, length, take, get_or, arith}
use Rattle.std.proofs.lemmas.Grind.{take_at_read}
use Rattle.std.proofs.lemmas.List.{length-append}
use Rattle.std.proofs.Math.Seq.{take-length, take-append-add}
use Rattle.auth_grammar.specs.Kinds.{kind_of}
use Rattle.auth_grammar.specs.declared.kept.Kept.{Kept}
use Rattle.auth_grammar.specs.declared.position.Position.{Position}
use Rattle.auth_grammar.specs.declared.position.Position.TheVariants as At
use Rattle.auth_grammar.specs.declared.position.Effect.{Effect}
use Rattle.auth_grammar.specs.declared.position.Turn.{Turn}
use Rattle.auth_grammar.specs.declared.position.Turn.TheVariants as To
use Rattle.auth_grammar.specs.declared.elements.Element.{Element}
use Rattle.auth_grammar.specs.declared.elements.Element.TheVariants.{Blank, Scheme, SchemeToken68, SchemeParam, Further}
use Rattle.auth_grammar.specs.declared.grammar.Grammar.{Grammar}
use Rattle.auth_grammar.specs.declared.grammar.Grammar.TheVariants.{Challenges, Credentials, Params}
use Rattle.auth_grammar.specs.declared.groups.Grouped.{Grouped}
use Rattle.auth_grammar.specs.declared.groups.Group.{Group}
use Rattle.auth_grammar.specs.declared.groups.Group.TheVariants.{WithParams, WithToken68}
use Rattle.auth_grammar.specs.declared.groups.Placed.{Placed}
use Rattle.auth_grammar.specs.declared.kinds.Kind.{Kind}
use Rattle.auth_grammar.specs.declared.collected.Collected.{Collected}
use Rattle.auth_grammar.specs.declared.collected.Collected.TheVariants.{Bare, Many, One}
use Rattle.auth_grammar.specs.declared.walker.Made.{Made}
use Rattle.auth_grammar.specs.declared.walker.Made.TheVariants.{Nothing, Open, Closed}
use Rattle.auth_grammar.specs.declared.walker.Walker.{Walker}
use Rattle.auth_grammar.specs.Grammar.{Spot}
use Rattle.auth_grammar.specs.Reach.{Begins, IsReach, Stops}
use Rattle.auth_grammar.specs.Readings.{Allowed, with_value}
use Rattle.auth_grammar.specs.Positions.{ending, first_of, kept_after, Turns}
use Rattle.auth_grammar.specs.Items.{placed, Spells}
use Rattle.auth_grammar.specs.States.{Follows}
use Rattle.auth_grammar.specs.Collecting.{is_open, with_param, pushed, rules, begun_of, begun, add_element, takes_param, takes_scheme, joined}
use Rattle.auth_grammar.specs.Walks.{is_many, made_at, walker_of, walker_after, Stands, Leads, Walked}
use Rattle.auth_grammar.proofs.StateLaws.{follows_begun, follows_on, follows_end, follows_dead, follows_begins, follows_only, some_is, ending_from}
use Rattle.auth_grammar.proofs.CollectingLaws.{laws, spelled_to, spelled_from}
use Rattle.auth_grammar.proofs.ReaderSteps.{dead_stops}

pub stands_begun : (k : Grammar) → Stands k (walker_of k) []
stands_begun k = go k
  where
    nothing : Kept
    nothing = record { scheme = None; word = []; at = 0; value = [] }

    go : (k : Grammar) → Stands k (walker_of k) []
    go Challenges = record { collected = begun_of Challenges; kept = nothing; follows = follows_begun (rules Challenges) (laws Challenges) nothing; params = refl; schemes = refl; many = refl }
    go Credentials = record { collected = begun_of Credentials; kept = nothing; follows = follows_begun (rules Credentials) (laws Credentials) nothing; params = refl; schemes = refl; many = refl }
    go Params = record { collected = begun_of Params; kept = nothing; follows = follows_begun (rules Params) (laws Params) nothing; params = refl; schemes = refl; many = refl }

-- what an element makes
abbrev Making : Made → Element → Type 0
Making Nothing Blank = Unit {0}
Making Open (Scheme s) = Unit {0}
Making Open (SchemeParam s at p) = Unit {0}
Making Open (Further at p) = Unit {0}
Making Closed (SchemeToken68 s t) = Unit {0}
Making _ _ = ⊥

value_opens : (s : Option (List ℕ)) (at : ℕ) (n v : List ℕ) → Making Open (with_value s at n v)
value_opens None at n v = tt
value_opens (Some s) at n v = tt

making_is : (m : Made) (d e : Element) → Making m d → Some d ≡ Some e → Making m e
making_is m d e h k = (let j : d ≡ e = cc in subst (λ (x : Element). Making m x) j h)

making_none : (m : Made) (e : Element) → None ≡ Some e → Making m e
making_none m e h = absurd (cc (h))

ending_makes : (p : Position) (w : Kept) (e : Element) → ending p w ≡ Some e → Making (made_at p) e
ending_makes At.Start w e h = making_is Nothing Blank e tt h
ending_makes At.Word w e h = making_is Open (Scheme w.word) e tt h
ending_makes At.WordSpace w e h = making_is Open (Scheme w.word) e tt h
ending_makes At.WordWhite w e h = making_is Open (Scheme w.word) e tt h
ending_makes At.Scheme w e h = making_is Open (Scheme w.word) e tt h
ending_makes At.SchemeSpace w e h = making_is Open (Scheme w.word) e tt h
ending_makes At.SchemeWhite w e h = making_is Open (Scheme w.word) e tt h
ending_makes At.Second w e h = making_is Closed (SchemeToken68 (first_of w) w.word) e tt h
ending_makes At.SecondWhite w e h = making_is Closed (SchemeToken68 (first_of w) w.word) e tt h
ending_makes At.SecondEquals w e h = making_is Closed (SchemeToken68 (first_of w) (w.word ++ 61 ∷ [])) e tt h
ending_makes At.SecondEqualsWhite w e h = making_is Closed (SchemeToken68 (first_of w) (w.word ++ 61 ∷ [])) e tt h
ending_makes At.Token68 w e h = making_is Closed (SchemeToken68 (first_of w) w.word) e tt h
ending_makes At.Padding w e h = making_is Closed (SchemeToken68 (first_of w) w.word) e tt h
ending_makes At.Token68White w e h = making_is Closed (SchemeToken68 (first_of w) w.word) e tt h
ending_makes At.Name w e h = making_none Open e h
ending_makes At.NameWhite w e h = making_none Open e h
ending_makes At.Equals w e h = making_none Open e h
ending_makes At.Quoted w e h = making_none Open e h
ending_makes At.Escaped w e h = making_none Open e h
ending_makes At.Value w e h = making_is Open (with_value w.scheme w.at w.word w.value) e (value_opens w.scheme w.at w.word w.value) h
ending_makes At.Token w e h = making_is Open (with_value w.scheme w.at w.word w.value) e (value_opens w.scheme w.at w.word w.value) h
ending_makes At.Loose w e h = making_is Open (with_value w.scheme w.at w.word w.value) e (value_opens w.scheme w.at w.word w.value) h
ending_makes At.LoosePadding w e h = making_is Open (with_value w.scheme w.at w.word w.value) e (value_opens w.scheme w.at w.word w.value) h
ending_makes At.ValueWhite w e h = making_is Open (with_value w.scheme w.at w.word w.value) e (value_opens w.scheme w.at w.word w.value) h

-- what a walker knows of what is collected
record Shape (v : Walker) (c : Collected) : Type 0 where
  params : v.params ≡ takes_param c
  schemes : v.schemes ≡ takes_scheme c
  many : v.many ≡ is_many c

-- an item more, where a scheme may come
begun_shape : (v : Walker) (c : Collected) (g : Group) (b : Bool) → IsTrue (takes_scheme c) → Shape v c → is_open g ≡ b
    → (b ≡ takes_param (begun c g)) × (v.many ≡ takes_scheme (begun c g)) × (v.many ≡ is_many (begun c g))
begun_shape v (Bare ps) g b t s o = absurd (cc (t))
begun_shape v (Many gs None) g b t s o = (sym o, s.many, s.many)
begun_shape v (Many gs (Some l)) g b t s o = (sym o, s.many, s.many)
begun_shape v (One None) g b t s o = (sym o, s.many, s.many)
begun_shape v (One (Some l)) g b t s o = absurd (cc (t))

pushed_open : (g : Group) (p : Placed) → is_open (with_param p g) ≡ is_open g
pushed_open (WithParams s ps) p = refl
pushed_open (WithToken68 s t) p = refl

pushed_shape : (v : Walker) (c : Collected) (p : Placed) → IsTrue (takes_param c) → Shape v c → (true ≡ takes_param (pushed c p)) × (v.many ≡ takes_scheme (pushed c p)) × (v.many ≡ is_many (pushed c p))
pushed_shape v (Bare ps) p t s = (refl, s.many, s.many)
pushed_shape v (Many gs None) p t s = absurd (cc (t))
pushed_shape v (Many gs (Some l)) p t s = (sym (pushed_open l p ∙ t), s.many, s.many)
pushed_shape v (One None) p t s = absurd (cc (t))
pushed_shape v (One (Some l)) p t s = (sym (pushed_open l p ∙ t), s.many, s.many)

shaped : (v : Walker) (c : Collected) (h : (v.params ≡ takes_param c) × (v.schemes ≡ takes_scheme c) × (v.many ≡ is_many c)) → Shape v c
shaped v c h = record { params = h.0; schemes = h.1; many = h.2 }

end_shape : (m : Made) (e : Element) (v : Walker) (c : Collected) → Making m e → Allowed (takes_param c) (takes_scheme c) e → Shape v c → Shape (walker_after m v) (add_element c e)
end_shape Nothing Blank v c k a s = record { params = s.params; schemes = s.schemes; many = s.many }
end_shape Open (Scheme n) v c k a s = shaped (walker_after Open v) (add_element c (Scheme n)) (begun_shape v c (WithParams n []) true a s refl)
end_shape Open (SchemeParam n at p) v c k a s = shaped (walker_after Open v) (add_element c (SchemeParam n at p)) (begun_shape v c (WithParams n (placed at p ∷ [])) true a s refl)
end_shape Open (Further at p) v c k a s = shaped (walker_after Open v) (add_element c (Further at p)) (pushed_shape v c (placed at p) a s)
end_shape Closed (SchemeToken68 n t) v c k a s = shaped (walker_after Closed v) (add_element c (SchemeToken68 n t)) (begun_shape v c (WithToken68 n t) false a s refl)
end_shape Nothing (Scheme n) v c k a s = absurd k
end_shape Nothing (SchemeParam n at p) v c k a s = absurd k
end_shape Nothing (Further at p) v c k a s = absurd k
end_shape Nothing (SchemeToken68 n t) v c k a s = absurd k
end_shape Open Blank v c k a s = absurd k
end_shape Open (SchemeToken68 n t) v c k a s = absurd k
end_shape Closed Blank v c k a s = absurd k
end_shape Closed (Scheme n) v c k a s = absurd k
end_shape Closed (SchemeParam n at p) v c k a s = absurd k
end_shape Closed (Further at p) v c k a s = absurd k

module _ (k : Grammar) where
  abbrev spot_at : List ℕ → ℕ → Spot
  spot_at fed b = record { at = length fed; byte = b }

  told : (v : Walker) (fed : List ℕ) (kind : Kind) (t : Turn) (s : Stands k v fed) → Turns v.position kind v.params v.schemes t → Turns v.position kind (takes_param s.collected) (takes_scheme s.collected) t
  told v fed kind t s u = subst (λ (x : Bool). Turns v.position kind x (takes_scheme s.collected) t) s.params (subst (λ (x : Bool). Turns v.position kind v.params x t) s.schemes u)

  pub step_dead : (v : Walker) (fed : List ℕ) (b : ℕ) (kind : Kind) → kind ≡ kind_of b → Turns v.position kind v.params v.schemes To.Dead → Stands k v fed → (rest : List ℕ) (x : Grouped) → Spells k ((fed ++ b ∷ []) ++ rest) x → ⊥
  step_dead v fed b kind e u s rest x h =
      let t = told v fed (kind_of b) To.Dead s (subst (λ (y : Kind). Turns v.position y v.params v.schemes To.Dead) e u) s.kept (spot_at fed b) refl in
      follows_dead (rules k) (laws k) s.collected v.position s.kept fed b s.follows t.0 t.1 rest x (spelled_to k ((fed ++ b ∷ []) ++ rest) x h)

  pub step_go : (v : Walker) (fed : List ℕ) (b : ℕ) (kind : Kind) (p : Position) (e : Effect) → kind ≡ kind_of b → Turns v.position kind v.params v.schemes (To.Go p e) → Stands k v fed → Stands k (record v { position = p }) (fed ++ b ∷ [])
  step_go v fed b kind p e i u s =
      let t = told v fed (kind_of b) (To.Go p e) s (subst (λ (y : Kind). Turns v.position y v.params v.schemes (To.Go p e)) i u) s.kept (spot_at fed b) refl in
      record {
        collected = s.collected;
        kept = kept_after e s.kept (spot_at fed b);
        follows = follows_on (rules k) (laws k) s.collected v.position p s.kept (kept_after e s.kept (spot_at fed b)) fed b s.follows t.0 t.1;
        params = s.params;
        schemes = s.schemes;
        many = s.many;
      }

  pub step_end : (v n : Walker) (fed : List ℕ) (b : ℕ) (kind : Kind) → kind ≡ kind_of b → Turns v.position kind v.params v.schemes To.End → n ≡ walker_after (made_at v.position) v → Stands k v fed → Stands k n (fed ++ b ∷ [])
  step_end v n fed b kind i u e s =
      let t = told v fed (kind_of b) To.End s (subst (λ (y : Kind). Turns v.position y v.params v.schemes To.End) i u) s.kept (spot_at fed b) refl in
      let made = some_is (ending v.position s.kept) t.1.1 in
      let fits : Allowed (takes_param s.collected) (takes_scheme s.collected) made.0 = s.follows.fits made.0 [] (ending_from (takes_param s.collected) (takes_scheme s.collected) v.position s.kept made.0 made.1) in
      let shape = end_shape (made_at v.position) made.0 v s.collected (ending_makes v.position s.kept made.0 made.1) fits (record { params = s.params; schemes = s.schemes; many = s.many }) in
      subst (λ (y : Walker). Stands k y (fed ++ b ∷ [])) (sym e)
      (ended (made_at v.position) made.0 shape (follows_end (rules k) (laws k) s.collected v.position s.kept s.kept made.0 fed b s.follows t.0 t.1.0 made.1))
    where
      ended : (m : Made) (e : Element) → Shape (walker_after m v) (add_element s.collected e) → Follows (rules k) (add_element s.collected e) At.Start s.kept (fed ++ b ∷ []) → Stands k (walker_after m v) (fed ++ b ∷ [])
      ended Nothing e h f = record { collected = add_element s.collected e; kept = s.kept; follows = f; params = h.params; schemes = h.schemes; many = h.many }
      ended Open e h f = record { collected = add_element s.collected e; kept = s.kept; follows = f; params = h.params; schemes = h.schemes; many = h.many }
      ended Closed e h f = record { collected = add_element s.collected e; kept = s.kept; follows = f; params = h.params; schemes = h.schemes; many = h.many }

  pub stands_begins : (v : Walker) (fed : List ℕ) → Stands k v fed → Begins (Spells k) fed
  stands_begins v fed s = let b = follows_begins (rules k) (laws k) s.collected v.position s.kept fed s.follows in (b.0, b.1, spelled_from k (fed ++ b.0) b.1 b.2)

  -- two readings of one text are one
  pub stands_one : (v : Walker) (text : List ℕ) → Stands k v text → (x y : Grouped) → Spells k text x → Spells k text y → x ≡ y
  stands_one v text s x y h j =
      let a = follows_only (rules k) (laws k) s.collected v.position s.kept text x s.follows (spelled_to k text x h) in
      let b = follows_only (rules k) (laws k) s.collected v.position s.kept text y s.follows (spelled_to k text y j) in
      same a.0 b.0 (cc (a.1, b.1)) a.2 b.2
    where
      same : (d e : Element) → d ≡ e → joined (add_element s.collected d) [] [] ≡ Some x → joined (add_element s.collected e) [] [] ≡ Some y → x ≡ y
      same d e i p q = (let r : joined (add_element s.collected e) [] [] ≡ Some x = subst (λ (z : Element). joined (add_element s.collected z) [] [] ≡ Some x) i p in cc (r, q))

  -- one byte more of a piece
  piece_read : (fed piece : List ℕ) (i : ℕ) → i < length piece → (fed ++ take i piece) ++ get_or piece i 0 ∷ [] ≡ fed ++ take (i + 1) piece
  piece_read fed piece i l = append_assoc fed (take i piece) (get_or piece i 0 ∷ []) ∙ ap (λ (x : List ℕ). fed ++ x) (sym (take_at_read piece i 0 l).1)

  pub walked_on : (v : Walker) (fed piece : List ℕ) (i : ℕ) → i < length piece → Stands k v ((fed ++ take i piece) ++ get_or piece i 0 ∷ []) → Stands k v (fed ++ take (i + 1) piece)
  walked_on v fed piece i l s = subst (λ (x : List ℕ). Stands k v x) (piece_read fed piece i l) s

  pub walked_err : (v : Walker) (fed piece : List ℕ) (i : ℕ) → i < length piece → Stands k v (fed ++ take i piece) → Leads k ((fed ++ take i piece) ++ get_or piece i 0 ∷ []) None → Walked k fed piece (Err i)
  walked_err v fed piece i l s d =
      let text : List ℕ = fed ++ piece in
      let at : ℕ = length fed + i in
      let here : take at text ≡ fed ++ take i piece = take-append-add fed piece i in
      let past : at + 1 ≡ length fed + (i + 1) = omega arith in
      let next : take (at + 1) text ≡ (fed ++ take i piece) ++ get_or piece i 0 ∷ [] = ap (λ (n : ℕ). take n text) past ∙ take-append-add fed piece (i + 1) ∙ sym (piece_read fed piece i l) in
      let size : length text ≡ length fed + length piece = length-append fed piece in
      let low : at < length text = omega arith in (
        l,
        dead_stops k text at (subst (λ (x : List ℕ). Begins (Spells k) x) (sym here) (stands_begins v (fed ++ take i piece) s)) low
            (λ rest x h. d rest x (subst (λ (y : List ℕ). Spells k (y ++ rest) x) next h)),
      )

  -- the whole text
  pub reach_whole : (v : Walker) (text : List ℕ) → Stands k v text → IsReach (Spells k) text (length text)
  reach_whole v text s = record {
    within = omega arith;
    begins = subst (λ (x : List ℕ). Begins (Spells k) x) (sym (take-length text)) (stands_begins v text s);
    longest = λ n low high h. absurd (omega arith);
  }

  pub begun_walker : (v : Walker) → v ≡ walker_of k → Stands k v []
  begun_walker v e = subst (λ (y : Walker). Stands k y []) (sym e) (stands_begun k)

  pub stops_from_none : (text : List ℕ) (i : ℕ) → Walked k [] text (Err i) → Stops (Spells k) text i
  stops_from_none text i w = let e : 0 + i ≡ i = omega arith in subst (λ (n : ℕ). Stops (Spells k) text n) e w.1
