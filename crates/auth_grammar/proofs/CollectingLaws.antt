use Rattle.std.proofs.Common.{◌≡◌, ℕ, Bool, true, false, ◌⊎◌, inl, inr, List, [], ◌∷◌, ◌++◌, Option, Some, None, refl, ap, sym, ◌∙◌, append_assoc, IsTrue}
use Rattle.std.proofs.lemmas.List.{append-nil}
use Rattle.auth_grammar.specs.declared.elements.Element.{Element}
use Rattle.auth_grammar.specs.declared.elements.Element.TheVariants.{Blank, Scheme, SchemeToken68, SchemeParam, Further}
use Rattle.auth_grammar.specs.declared.grammar.Grammar.{Grammar}
use Rattle.auth_grammar.specs.declared.grammar.Grammar.TheVariants.{Challenges, Credentials, Params}
use Rattle.auth_grammar.specs.declared.groups.Placed.{Placed}
use Rattle.auth_grammar.specs.declared.groups.Group.{Group}
use Rattle.auth_grammar.specs.declared.groups.Group.TheVariants.{WithParams, WithToken68}
use Rattle.auth_grammar.specs.declared.groups.Grouped.{Grouped}
use Rattle.auth_grammar.specs.declared.collected.Collected.{Collected}
use Rattle.auth_grammar.specs.declared.collected.Collected.TheVariants.{Bare, Many, One}
use Rattle.auth_grammar.specs.Grammar.{Splits, spots}
use Rattle.auth_grammar.specs.Items.{placed, with_element, grouping, IsOf, Spells}
use Rattle.auth_grammar.specs.Readings.{Allowed}
use Rattle.auth_grammar.specs.States.{Spelled}
use Rattle.auth_grammar.specs.Collecting.{is_open, with_param, begun_of, takes_param, takes_scheme, begun, pushed, add_element, finished, completed, joined, joined_with, Makes, rules}
use Rattle.auth_grammar.proofs.ElementLists.{Lawful, token_97}

abbrev grouped_of : List Placed → List Group → Grouped
grouped_of params groups = record { params = params; groups = groups }

-- an item with nothing behind it stays
completed_none : (g : Group) → completed g [] ≡ Some g
completed_none (WithParams s ps) = ap (λ (y : List Placed). Some (WithParams s y)) (append-nil ps)
completed_none (WithToken68 s t) = refl

-- a scheme where one may come: its item is completed by what comes behind it
begins : (c : Collected) (g h : Group) (ps : List Placed) (gs : List Group) → IsTrue (takes_scheme c) → completed g ps ≡ Some h → joined (begun c g) ps gs ≡ joined c [] (h ∷ gs)
begins (Bare qs) g h ps gs t e = absurd (cc (t))
begins (Many hs None) g h ps gs t e = rw e
begins (Many hs (Some l)) g h ps gs t e = rw (e, completed_none l) (ap (λ (y : List Group). Some (grouped_of [] y)) (append_assoc hs (l ∷ []) (h ∷ gs)))
begins (One None) g h ps [] t e = rw e
begins (One None) g h ps (k ∷ gs) t e = refl
begins (One (Some l)) g h ps gs t e = absurd (cc (t))

-- and where none may come, there is none
begins_none : (c : Collected) (h : Group) (gs : List Group) → takes_scheme c ≡ false → joined c [] (h ∷ gs) ≡ None
begins_none (Bare qs) h gs t = refl
begins_none (Many hs l) h gs t = absurd (cc (t))
begins_none (One None) h gs t = absurd (cc (t))
begins_none (One (Some l)) h gs t = refl

-- nothing comes behind a token68
begins_full : (c : Collected) (s t : List ℕ) (p : Placed) (ps : List Placed) (gs : List Group) → IsTrue (takes_scheme c) → joined (begun c (WithToken68 s t)) (p ∷ ps) gs ≡ None
begins_full (Bare qs) s t p ps gs m = absurd (cc (m))
begins_full (Many hs None) s t p ps gs m = refl
begins_full (Many hs (Some l)) s t p ps gs m = refl
begins_full (One None) s t p ps [] m = refl
begins_full (One None) s t p ps (k ∷ gs) m = refl
begins_full (One (Some l)) s t p ps gs m = absurd (cc (m))

completes_more : (g : Group) (p : Placed) (ps : List Placed) → IsTrue (is_open g) → completed (with_param p g) ps ≡ completed g (p ∷ ps)
completes_more (WithParams s qs) p ps o = ap (λ (y : List Placed). Some (WithParams s y)) (append_assoc qs (p ∷ []) ps)
completes_more (WithToken68 s t) p ps o = absurd (cc (o))

completes_none : (g : Group) (p : Placed) (ps : List Placed) → is_open g ≡ false → completed g (p ∷ ps) ≡ None
completes_none (WithParams s qs) p ps o = absurd (cc (o))
completes_none (WithToken68 s t) p ps o = refl

-- the same of a parameter
pushes : (c : Collected) (p : Placed) (ps : List Placed) (gs : List Group) → IsTrue (takes_param c) → joined (pushed c p) ps gs ≡ joined c (p ∷ ps) gs
pushes (Bare qs) p ps [] t = ap (λ (y : List Placed). Some (grouped_of y [])) (append_assoc qs (p ∷ []) ps)
pushes (Bare qs) p ps (g ∷ gs) t = refl
pushes (Many hs None) p ps gs t = absurd (cc (t))
pushes (Many hs (Some l)) p ps gs t = rw (completes_more l p ps t)
pushes (One None) p ps gs t = absurd (cc (t))
pushes (One (Some l)) p ps [] t = rw (completes_more l p ps t)
pushes (One (Some l)) p ps (g ∷ gs) t = refl

pushes_none : (c : Collected) (p : Placed) (ps : List Placed) (gs : List Group) → takes_param c ≡ false → joined c (p ∷ ps) gs ≡ None
pushes_none (Bare qs) p ps gs t = absurd (cc (t))
pushes_none (Many hs None) p ps gs t = refl
pushes_none (Many hs (Some l)) p ps gs t = rw (completes_none l p ps t)
pushes_none (One None) p ps gs t = refl
pushes_none (One (Some l)) p ps [] t = rw (completes_none l p ps t)
pushes_none (One (Some l)) p ps (g ∷ gs) t = refl

clash : {A : Type 0} (o : Option A) (x : A) → o ≡ None → o ≡ Some x → ⊥
clash o x n s = cc

-- what may come makes the same before and after it is collected, and what may not makes nothing
tested : (b : Bool) (before after : Option Grouped) (x : Grouped) → (IsTrue b → after ≡ before) → (b ≡ false → before ≡ None) → before ≡ Some x → IsTrue b × (after ≡ Some x)
tested true before after x same none h = (refl, same refl ∙ h)
tested false before after x same none h = absurd (clash before x (none refl) h)

collected_back : (c : Collected) (e : Element) (y : Option Grouped) (x : Grouped) → joined_with c (with_element e y) ≡ Some x → Allowed (takes_param c) (takes_scheme c) e × (joined_with (add_element c e) y ≡ Some x)
collected_back c e None x h = absurd (cc (h))
collected_back c Blank (Some y) x h = (tt, h)
collected_back c (Scheme s) (Some y) x h =
    let g : Group = WithParams s y.params in
    tested (takes_scheme c) (joined c [] (g ∷ y.groups)) (joined (begun c (WithParams s [])) y.params y.groups) x (λ t. begins c (WithParams s []) g y.params y.groups t refl) (begins_none c g y.groups) h
collected_back c (SchemeParam s at p) (Some y) x h =
    let g : Group = WithParams s (placed at p ∷ y.params) in
    tested (takes_scheme c) (joined c [] (g ∷ y.groups)) (joined (begun c (WithParams s (placed at p ∷ []))) y.params y.groups) x (λ t. begins c (WithParams s (placed at p ∷ [])) g y.params y.groups t refl) (begins_none c g y.groups) h
collected_back c (SchemeToken68 s t) (Some y) x h = full y.params y.groups h
  where
    full : (ps : List Placed) (gs : List Group) → joined_with c (with_element (SchemeToken68 s t) (Some (grouped_of ps gs))) ≡ Some x → IsTrue (takes_scheme c) × (joined (begun c (WithToken68 s t)) ps gs ≡ Some x)
    full [] gs k = tested (takes_scheme c) (joined c [] (WithToken68 s t ∷ gs)) (joined (begun c (WithToken68 s t)) [] gs) x (λ m. begins c (WithToken68 s t) (WithToken68 s t) [] gs m refl) (begins_none c (WithToken68 s t) gs) k
    full (p ∷ ps) gs k = absurd (cc (k))
collected_back c (Further at p) (Some y) x h =
    tested (takes_param c) (joined c (placed at p ∷ y.params) y.groups) (joined (pushed c (placed at p)) y.params y.groups) x (pushes c (placed at p) y.params y.groups) (pushes_none c (placed at p) y.params y.groups) h

collected_forth : (c : Collected) (e : Element) (y : Option Grouped) (x : Grouped) → Allowed (takes_param c) (takes_scheme c) e → joined_with (add_element c e) y ≡ Some x → joined_with c (with_element e y) ≡ Some x
collected_forth c e None x a h = absurd (cc (h))
collected_forth c Blank (Some y) x a h = h
collected_forth c (Scheme s) (Some y) x a h = sym (begins c (WithParams s []) (WithParams s y.params) y.params y.groups a refl) ∙ h
collected_forth c (SchemeParam s at p) (Some y) x a h = sym (begins c (WithParams s (placed at p ∷ [])) (WithParams s (placed at p ∷ y.params)) y.params y.groups a refl) ∙ h
collected_forth c (SchemeToken68 s t) (Some y) x a h = full y.params y.groups h
  where
    full : (ps : List Placed) (gs : List Group) → joined (begun c (WithToken68 s t)) ps gs ≡ Some x → joined_with c (with_element (SchemeToken68 s t) (Some (grouped_of ps gs))) ≡ Some x
    full [] gs k = sym (begins c (WithToken68 s t) (WithToken68 s t) [] gs a refl) ∙ k
    full (p ∷ ps) gs k = absurd (clash (joined (begun c (WithToken68 s t)) (p ∷ ps) gs) x (begins_full c s t p ps gs a) k)
collected_forth c (Further at p) (Some y) x a h = sym (pushes c (placed at p) y.params y.groups a) ∙ h

-- what is collected at the end is what the text makes
pub makes_end : (c : Collected) → joined c [] [] ≡ finished c
makes_end (Bare qs) = ap (λ (y : List Placed). Some (grouped_of y [])) (append-nil qs)
makes_end (Many hs None) = ap (λ (y : List Group). Some (grouped_of [] y)) (append-nil hs)
makes_end (Many hs (Some l)) = rw (completed_none l)
makes_end (One None) = refl
makes_end (One (Some l)) = rw (completed_none l)

-- some text goes on: nothing more, or an item where there is none
abbrev GoesOn : Collected → Type 0
GoesOn c = ((x : Grouped) × Makes c [] x) ⊎ ((text : List ℕ) × (e : Element) × (es : List Element) × (x : Grouped) × ((at : ℕ) → Splits (spots at text) (e ∷ es)) × Makes c (e ∷ es) x)

goes_on : (c : Collected) → GoesOn c
goes_on (Bare qs) = inl (grouped_of qs [], makes_end (Bare qs))
goes_on (Many hs None) = inl (grouped_of [] hs, makes_end (Many hs None))
goes_on (Many hs (Some l)) = inl (grouped_of [] (hs ++ l ∷ []), makes_end (Many hs (Some l)))
goes_on (One None) = inr (97 ∷ [], Scheme (97 ∷ []), [], grouped_of [] (WithParams (97 ∷ []) [] ∷ []), λ at. ([], spots at (97 ∷ []), [], refl, tt, tt, (refl, (token_97, tt))), refl)
goes_on (One (Some l)) = inl (grouped_of [] (l ∷ []), makes_end (One (Some l)))

pub laws : (grammar : Grammar) → Lawful (rules grammar)
laws grammar = record {
  back = λ c e es x h. collected_back c e (grouping es) x h;
  forth = λ c e es x a h. collected_forth c e (grouping es) x a h;
  more = goes_on;
}

-- what a whole text makes of nothing
begun_to : (grammar : Grammar) (ps : List Placed) (gs : List Group) → IsOf grammar (grouped_of ps gs) → joined (begun_of grammar) ps gs ≡ Some (grouped_of ps gs)
begun_to Challenges [] gs i = refl
begun_to Challenges (p ∷ ps) gs i = absurd (cc (i))
begun_to Credentials [] [] i = (let e : [] ≡ i.1 ∷ [] = i.2 in absurd (cc (e)))
begun_to Credentials [] (g ∷ []) i = refl
begun_to Credentials [] (g ∷ k ∷ gs) i = (let e : g ∷ k ∷ gs ≡ i.1 ∷ [] = i.2 in absurd (cc (e)))
begun_to Credentials (p ∷ ps) gs i = (let e : p ∷ ps ≡ [] = i.0 in absurd (cc (e)))
begun_to Params ps [] i = refl
begun_to Params ps (g ∷ gs) i = absurd (cc (i))

begun_from : (grammar : Grammar) (ps : List Placed) (gs : List Group) (x : Grouped) → joined (begun_of grammar) ps gs ≡ Some x → (grouped_of ps gs ≡ x) × IsOf grammar x
begun_from Challenges [] gs x h = (cc, cc)
begun_from Challenges (p ∷ ps) gs x h = absurd (cc (h))
begun_from Credentials [] [] x h = absurd (cc (h))
begun_from Credentials [] (g ∷ []) x h = (cc, (cc, g, cc))
begun_from Credentials [] (g ∷ k ∷ gs) x h = absurd (cc (h))
begun_from Credentials (p ∷ ps) gs x h = absurd (cc (h))
begun_from Params ps [] x h = (cc, cc)
begun_from Params ps (g ∷ gs) x h = absurd (cc (h))

begun_option : (grammar : Grammar) (y : Option Grouped) (x : Grouped) → joined_with (begun_of grammar) y ≡ Some x → (y ≡ Some x) × IsOf grammar x
begun_option grammar None x h = absurd (cc (h))
begun_option grammar (Some y) x h = let r = begun_from grammar y.params y.groups x h in (ap Some r.0, r.1)

pub spelled_to : (grammar : Grammar) (text : List ℕ) (x : Grouped) → Spells grammar text x → Spelled (rules grammar) (begun_of grammar) (spots 0 text) x
spelled_to grammar text x h = (h.0, h.1, ap (joined_with (begun_of grammar)) h.2 ∙ begun_to grammar x.params x.groups h.3)

pub spelled_from : (grammar : Grammar) (text : List ℕ) (x : Grouped) → Spelled (rules grammar) (begun_of grammar) (spots 0 text) x → Spells grammar text x
spelled_from grammar text x h = let r = begun_option grammar (grouping h.0) x h.2 in (h.0, h.1, r.0, r.1)
