use Rattle.std.proofs.Common.{◌≡◌, ℕ, Bool, true, false, ◌&&◌, ◌||◌, ◌==◌, if◌then◌else◌, inl, inr, List, [], ◌∷◌, ◌++◌, Some, refl, ap, sym, ◌∙◌, append_assoc, subst, IsTrue, map, not, ◌+◌, ◌<◌, nat_lt, length, take, drop, arith}
use Rattle.std.specs.List.{list_all, list_any, take_while, flat_map}
use Rattle.std.proofs.lemmas.List.{append-nil, take-append-drop}
use Rattle.std.proofs.lemmas.List.Sums.{take_while-cons}
use Rattle.std.proofs.lemmas.List.Folds.{length-prefix_len}
use Rattle.std.proofs.lemmas.Bool.Decides.{Decides-eqb, Decides-ltb}
use Rattle.auth_grammar.specs.Kinds.{kind_of, is_token, is_token68, is_white, is_space, is_equals, is_quote, is_backslash, is_escapable, is_quotable}
use Rattle.auth_grammar.specs.declared.kinds.Kind.{Kind}
use Rattle.auth_grammar.specs.declared.kinds.Kind.TheVariants.{Quote, Backslash, Control}
use Rattle.auth_grammar.specs.declared.items.Param.{Param}
use Rattle.auth_grammar.specs.declared.items.Item.{Item}
use Rattle.auth_grammar.specs.declared.items.Rest.{Rest}
use Rattle.auth_grammar.specs.declared.items.Rest.TheVariants.{Empty, Token68, Params}
use Rattle.auth_grammar.specs.declared.items.Quoting.{Quoting}
use Rattle.auth_grammar.specs.declared.elements.Element.{Element}
use Rattle.auth_grammar.specs.declared.elements.Element.TheVariants.{Blank, Scheme, SchemeToken68, SchemeParam, Further}
use Rattle.auth_grammar.specs.declared.groups.Placed.{Placed}
use Rattle.auth_grammar.specs.declared.groups.Group.{Group}
use Rattle.auth_grammar.specs.declared.groups.Group.TheVariants.{WithParams, WithToken68}
use Rattle.auth_grammar.specs.declared.groups.Grouped.{Grouped}
use Rattle.auth_grammar.specs.Grammar.{Spot, Text, spots, bytes, StartsAt, AllOf, SomeOf, IsToken68, Quotes, IsValue, IsParam, IsForm, IsElement, Splits}
use Rattle.auth_grammar.specs.Items.{placed, with_element, grouping, unplaced, item_of, SpellsChallenges, SpellsCredentials, SpellsParams}
use Rattle.auth_grammar.specs.Names.{has_repeat}
use Rattle.auth_grammar.specs.Valid.{is_token_text, token68_len, is_token68_text, is_quotable_text, is_valid_param, are_valid_params, is_valid_rest, is_valid}
use Rattle.auth_grammar.specs.Writing.{is_bare_name, is_escaped, escaped, value_text, param_text, params_text, item_text, items_text}
use Rattle.auth_grammar.proofs.FormReadings.{left_of, right_of, equals_61}
use Rattle.auth_grammar.proofs.ElementLists.{spots_append}

-- a text of which nothing is escaped is written as it is
one_unescaped : (here later : Bool) (b : ℕ) (value written : List ℕ) → (here || later) ≡ false → (later ≡ false → written ≡ value)
    → (if here then 92 ∷ b ∷ written else (b ∷ written)) ≡ b ∷ value
one_unescaped true later b value written h rest = absurd (cc h)
one_unescaped false later b value written h rest = ap (λ (x : List ℕ). b ∷ x) (rest h)

pub none_escaped : (value : List ℕ) → list_any is_escaped value ≡ false → escaped value ≡ value
none_escaped [] h = refl
none_escaped (b ∷ value) h = one_unescaped (is_escaped b) (list_any is_escaped value) b value (escaped value) h (none_escaped value)

-- bytes that know their places
bytes_spots : (at : ℕ) (a : List ℕ) → bytes (spots at a) ≡ a
bytes_spots at [] = refl
bytes_spots at (b ∷ a) = ap (λ (x : List ℕ). b ∷ x) (bytes_spots (at + 1) a)

all_spots : (p : Kind → Bool) (at : ℕ) (a : List ℕ) → IsTrue (list_all (λ b. p (kind_of b)) a) → AllOf p (spots at a)
all_spots p at [] h = tt
all_spots p at (b ∷ a) h = (left_of (p (kind_of b)) (list_all (λ c. p (kind_of c)) a) h, all_spots p (at + 1) a (right_of (p (kind_of b)) (list_all (λ c. p (kind_of c)) a) h))

token_spots : (at : ℕ) (a : List ℕ) → IsTrue (is_token_text a) → SomeOf is_token (spots at a) × StartsAt (spots at a) at
token_spots at [] h = absurd (cc (left_of (nat_lt 0 (length {A = ℕ} [])) true h))
token_spots at (b ∷ a) h =
    let all : IsTrue (list_all (λ c. is_token (kind_of c)) (b ∷ a)) = right_of (nat_lt 0 (length (b ∷ a))) (list_all (λ c. is_token (kind_of c)) (b ∷ a)) h in
    (all_spots is_token at (b ∷ a) all, refl)

-- the front of a token68
front_passes : (p : ℕ → Bool) (a : List ℕ) → IsTrue (list_all p (take_while p a))
front_passes p [] = refl
front_passes p (b ∷ a) = go (p b) refl (front_passes p a)
  where
    go : (t : Bool) → p b ≡ t → IsTrue (list_all p (take_while p a)) → IsTrue (list_all p (take_while p (b ∷ a)))
    go true e h = rw (take_while-cons p b a, e) (rw e h)
    go false e h = rw (take_while-cons p b a, e) refl

some_from_length : (p : Kind → Bool) (at : ℕ) (a : List ℕ) → 0 < length a → AllOf p (spots at a) → SomeOf p (spots at a)
some_from_length p at [] l h = absurd (omega (arith, l))
some_from_length p at (b ∷ a) l h = h

equals_all : (a : List ℕ) → IsTrue (list_all (λ b. b == 61) a) → IsTrue (list_all (λ b. is_equals (kind_of b)) a)
equals_all [] h = refl
equals_all (b ∷ a) h =
    let e : b ≡ 61 = (Decides-eqb b 61).0 (left_of (b == 61) (list_all (λ c. c == 61) a) h) in
    rw (subst (λ (x : ℕ). is_equals (kind_of x) ≡ true) (sym e) equals_61) (equals_all a (right_of (b == 61) (list_all (λ c. c == 61) a) h))

token68_spots : (at : ℕ) (a : List ℕ) → IsTrue (is_token68_text a) → IsToken68 (spots at a)
token68_spots at a h =
    let in_body : ℕ → Bool = λ b. is_token68 (kind_of b) in
    let body : List ℕ = take (token68_len a) a in
    let equals : List ℕ = drop (token68_len a) a in
    let some : 0 < token68_len a = (Decides-ltb 0 (token68_len a)).0 (left_of (nat_lt 0 (token68_len a)) (list_all (λ b. b == 61) equals) h) in
    let size : length body ≡ token68_len a = length-prefix_len in_body a in (
      spots at body,
      spots (at + length body) equals,
      ap (spots at) (sym (take-append-drop (token68_len a) a)) ∙ spots_append at body equals,
      some_from_length is_token68 at body (omega arith) (all_spots is_token68 at body (front_passes in_body a)),
      all_spots is_equals (at + length body) equals (equals_all equals (right_of (nat_lt 0 (token68_len a)) (list_all (λ b. b == 61) equals) h)),
    )

-- a quoted string
quotable_is : (k : Kind) → IsTrue (is_escapable k) → (is_quote k || is_backslash k) ≡ false → IsTrue (is_quotable k)
quotable_is Control h e = h
quotable_is Quote h e = absurd (cc (e))
quotable_is Backslash h e = absurd (cc (e))
quotable_is _ h e = refl

quotes_spots : (at : ℕ) (value : List ℕ) → IsTrue (is_quotable_text value) → Quotes (spots at (escaped value)) value
quotes_spots at [] h = refl
quotes_spots at (b ∷ value) h = go (is_quote (kind_of b) || is_backslash (kind_of b)) refl (λ n. quotes_spots n value (right_of (is_escapable (kind_of b)) (is_quotable_text value) h))
  where
    here : IsTrue (is_escapable (kind_of b))
    here = left_of (is_escapable (kind_of b)) (is_quotable_text value) h

    go : (t : Bool) → (is_quote (kind_of b) || is_backslash (kind_of b)) ≡ t → ((n : ℕ) → Quotes (spots n (escaped value)) value) → Quotes (spots at (if t then 92 ∷ b ∷ escaped value else (b ∷ escaped value))) (b ∷ value)
    go true e rest = inr (record { at = at; byte = 92 }, record { at = at + 1; byte = b }, spots (at + 1 + 1) (escaped value), refl, refl, refl, here, rest (at + 1 + 1))
    go false e rest = inl (record { at = at; byte = b }, spots (at + 1) (escaped value), refl, refl, quotable_is (kind_of b) here e, rest (at + 1))

value_spots : (at : ℕ) (bare : Bool) (value : List ℕ) → IsTrue (is_quotable_text value) → (IsTrue bare → IsTrue (is_token_text value)) → IsValue (spots at (value_text bare value)) value
value_spots at true value h k = inl ((token_spots at value (k refl)).0, bytes_spots at value)
value_spots at false value h k =
    let left : Spot = record { at = at; byte = 34 } in
    let right : Spot = record { at = at + 1 + length (escaped value); byte = 34 } in
    inr (inr (left, right, spots (at + 1) (escaped value), ap (λ (x : Text). left ∷ x) (spots_append (at + 1) (escaped value) (34 ∷ [])), refl, refl, quotes_spots (at + 1) value h))

-- a parameter
param_spots : (q : Quoting) (at : ℕ) (p : Param) → IsTrue (is_valid_param p) → IsParam (spots at (param_text q p)) at p
param_spots q at p h =
    let name = token_spots at p.name (left_of (is_token_text p.name) (is_quotable_text p.value) h) in
    let bare : Bool = is_bare_name q p.name && is_token_text p.value in
    let behind : ℕ = at + length p.name in
    let equals : Spot = record { at = behind; byte = 61 } in
    let value : Text = spots (behind + 1) (value_text bare p.value) in (
      spots at p.name,
      [],
      equals,
      [],
      value,
      spots_append at p.name (61 ∷ value_text bare p.value) ∙ sym (simp (append_assoc, append-nil)),
      bytes_spots at p.name,
      name.1,
      refl,
      name.0,
      tt,
      tt,
      value_spots (behind + 1) bare p.value (right_of (is_token_text p.name) (is_quotable_text p.value) h) (right_of (is_bare_name q p.name) (is_token_text p.value)),
    )

-- lists

-- texts with a comma between them
splits_join : (a b : Text) (comma : Spot) (es fs : List Element) → comma.byte ≡ 44 → Splits a es → Splits b fs → Splits (a ++ comma ∷ b) (es ++ fs)
splits_join a b comma [] fs k h j = absurd h
splits_join a b comma (e ∷ []) [] k h j = absurd j
splits_join a b comma (e ∷ []) (f ∷ fs) k h j = (a, comma, b, refl, k, h, j)
splits_join a b comma (e ∷ d ∷ es) fs k h j =
    (h.0, h.1, h.2 ++ comma ∷ b, ap (λ (x : Text). x ++ comma ∷ b) h.3 ∙ append_assoc h.0 (h.1 ∷ h.2) (comma ∷ b), h.4, h.5, splits_join h.2 b comma (d ∷ es) fs k h.6 j)

-- what stands before a part: nothing, or the space behind a comma
abbrev IsLead : List ℕ → Type 0
IsLead lead = (at : ℕ) → AllOf is_white (spots at lead)

no_lead : IsLead []
no_lead at = tt

space_lead : IsLead (32 ∷ [])
unfolding kind_of
space_lead at = (refl, tt)

-- a part with a lead is an element
lead_element : (lead form : List ℕ) (at : ℕ) (e : Element) → IsLead lead → IsForm (spots (at + length lead) form) e → IsElement (spots at (lead ++ form)) e
lead_element lead form at e w f = (spots at lead, spots (at + length lead) form, [], spots_append at lead form ∙ sym (append-nil (spots at lead ++ spots (at + length lead) form)), w at, tt, f)

-- a text, a comma and a space, and a text
two_parts : (at : ℕ) (a b : List ℕ) (es fs : List Element) → Splits (spots at a) es → Splits (spots (at + length a + 1) (32 ∷ b)) fs → Splits (spots at (a ++ 44 ∷ 32 ∷ b)) (es ++ fs)
two_parts at a b es fs h j =
    subst (λ (x : Text). Splits x (es ++ fs)) (sym (spots_append at a (44 ∷ 32 ∷ b)))
    (splits_join (spots at a) (spots (at + length a + 1) (32 ∷ b)) (record { at = at + length a; byte = 44 }) es fs refl h j)

further : Placed → Element
further p = Further p.at p.param

-- parameters, from a place on
abbrev ParamsAt : Quoting → ℕ → List ℕ → List Param → Type 0
ParamsAt q at lead params = (placed : List Placed) × (unplaced placed ≡ params) × Splits (spots at (lead ++ params_text q params)) (map further placed)

params_written : (q : Quoting) (p : Param) (params : List Param) → IsTrue (list_all is_valid_param (p ∷ params)) → (lead : List ℕ) → IsLead lead → (at : ℕ) → ParamsAt q at lead (p ∷ params)
unfolding further
params_written q p [] h lead w at =
    let n : ℕ = at + length lead in
    (placed n p ∷ [], refl, lead_element lead (param_text q p) at (Further n p) w (param_spots q n p (left_of (is_valid_param p) true h)))
params_written q p (r ∷ params) h lead w at =
    let n : ℕ = at + length lead in
    let front : List ℕ = lead ++ param_text q p in
    let first = lead_element lead (param_text q p) at (Further n p) w (param_spots q n p (left_of (is_valid_param p) (list_all is_valid_param (r ∷ params)) h)) in
    let rest = params_written q r params (right_of (is_valid_param p) (list_all is_valid_param (r ∷ params)) h) (32 ∷ []) space_lead (at + length front + 1) in (
      placed n p ∷ rest.0,
      ap (λ (x : List Param). p ∷ x) rest.1,
      subst (λ (x : List ℕ). Splits (spots at x) (Further n p ∷ map further rest.0)) (append_assoc lead (param_text q p) (44 ∷ 32 ∷ params_text q (r ∷ params)))
          (two_parts at front (params_text q (r ∷ params)) (Further n p ∷ []) (map further rest.0) first rest.2),
    )

-- an item's elements
abbrev elements_of : Group → List Element
elements_of (WithParams scheme []) = Scheme scheme ∷ []
elements_of (WithParams scheme (p ∷ params)) = SchemeParam scheme p.at p.param ∷ map further params
elements_of (WithToken68 scheme token68) = SchemeToken68 scheme token68 ∷ []

abbrev ItemAt : Quoting → ℕ → List ℕ → Item → Type 0
ItemAt q at lead item = (g : Group) × (item_of g ≡ item) × Splits (spots at (lead ++ item_text q item)) (elements_of g)

-- a scheme, a space and what stands behind it
spaced : (at : ℕ) (scheme rest : List ℕ) → spots at (scheme ++ 32 ∷ rest) ≡ (spots at scheme ++ record { at = at + length scheme; byte = 32 } ∷ []) ++ spots (at + length scheme + 1) rest
spaced at scheme rest = spots_append at scheme (32 ∷ rest) ∙ sym (append_assoc (spots at scheme) (record { at = at + length scheme; byte = 32 } ∷ []) (spots (at + length scheme + 1) rest))

space_is : IsTrue (is_space (kind_of 32))
unfolding kind_of
space_is = refl

param_form : (q : Quoting) (at : ℕ) (scheme : List ℕ) (p : Param) → IsTrue (is_token_text scheme) → IsTrue (is_valid_param p) → IsForm (spots at (scheme ++ 32 ∷ param_text q p)) (SchemeParam scheme (at + length scheme + 1) p)
param_form q at scheme p s h =
    let n : ℕ = at + length scheme in
    let space : Spot = record { at = n; byte = 32 } in
    (spots at scheme, space ∷ [], spots (n + 1) (param_text q p), spaced at scheme (param_text q p), bytes_spots at scheme, (token_spots at scheme s).0, (space_is, tt), param_spots q (n + 1) p h)

item_written : (q : Quoting) (scheme : List ℕ) (rest : Rest) → IsTrue (is_token_text scheme) → IsTrue (is_valid_rest rest) → (lead : List ℕ) → IsLead lead → (at : ℕ) → ItemAt q at lead (record { scheme = scheme; rest = rest })
item_written q scheme Empty s h lead w at =
    let n : ℕ = at + length lead in (
      WithParams scheme [],
      refl,
      subst (λ (x : List ℕ). Splits (spots at (lead ++ x)) (Scheme scheme ∷ [])) (sym (append-nil scheme))
          (lead_element lead scheme at (Scheme scheme) w (bytes_spots n scheme, (token_spots n scheme s).0)),
    )
item_written q scheme (Token68 text) s h lead w at =
    let n : ℕ = at + length lead in
    let space : Spot = record { at = n + length scheme; byte = 32 } in (
      WithToken68 scheme text,
      refl,
      lead_element lead (scheme ++ 32 ∷ text) at (SchemeToken68 scheme text) w
          (spots n scheme, space ∷ [], spots (n + length scheme + 1) text, spaced n scheme text, bytes_spots n scheme, bytes_spots (n + length scheme + 1) text, (token_spots n scheme s).0, (space_is, tt), token68_spots (n + length scheme + 1) text h),
    )
item_written q scheme (Params []) s h lead w at = absurd (cc (left_of (nat_lt 0 (length {A = Param} [])) true h))
item_written q scheme (Params (p ∷ [])) s h lead w at =
    let n : ℕ = at + length lead in
    let all : IsTrue (list_all is_valid_param (p ∷ [])) = left_of (list_all is_valid_param (p ∷ [])) (not (has_repeat (p ∷ []))) h in (
      WithParams scheme (placed (n + length scheme + 1) p ∷ []),
      refl,
      lead_element lead (scheme ++ 32 ∷ param_text q p) at (SchemeParam scheme (n + length scheme + 1) p) w (param_form q n scheme p s (left_of (is_valid_param p) true all)),
    )
item_written q scheme (Params (p ∷ r ∷ params)) s h lead w at =
    let n : ℕ = at + length lead in
    let all : IsTrue (list_all is_valid_param (p ∷ r ∷ params)) = left_of (list_all is_valid_param (p ∷ r ∷ params)) (not (has_repeat (p ∷ r ∷ params))) (right_of (nat_lt 0 (length (p ∷ r ∷ params))) (are_valid_params (p ∷ r ∷ params)) h) in
    let front : List ℕ = lead ++ (scheme ++ 32 ∷ param_text q p) in
    let element : Element = SchemeParam scheme (n + length scheme + 1) p in
    let first = lead_element lead (scheme ++ 32 ∷ param_text q p) at element w (param_form q n scheme p s (left_of (is_valid_param p) (list_all is_valid_param (r ∷ params)) all)) in
    let rest = params_written q r params (right_of (is_valid_param p) (list_all is_valid_param (r ∷ params)) all) (32 ∷ []) space_lead (at + length front + 1) in (
      WithParams scheme (placed (n + length scheme + 1) p ∷ rest.0),
      ap (λ (x : List Param). record { scheme = scheme; rest = Params (p ∷ x) }) rest.1,
      subst (λ (x : List ℕ). Splits (spots at x) (element ∷ map further rest.0)) (simp append_assoc)
          (two_parts at front (params_text q (r ∷ params)) (element ∷ []) (map further rest.0) first rest.2),
    )

-- items, from a place on
abbrev ItemsAt : Quoting → ℕ → List ℕ → List Item → Type 0
ItemsAt q at lead items = (groups : List Group) × (map item_of groups ≡ items) × Splits (spots at (lead ++ items_text q items)) (flat_map elements_of groups)

items_written : (q : Quoting) (item : Item) (items : List Item) → IsTrue (list_all is_valid (item ∷ items)) → (lead : List ℕ) → IsLead lead → (at : ℕ) → ItemsAt q at lead (item ∷ items)
items_written q item [] h lead w at =
    let valid : IsTrue (is_valid item) = left_of (is_valid item) true h in
    let one = item_written q item.scheme item.rest (left_of (is_token_text item.scheme) (is_valid_rest item.rest) valid) (right_of (is_token_text item.scheme) (is_valid_rest item.rest) valid) lead w at in
    (one.0 ∷ [], ap (λ (x : Item). x ∷ []) one.1, subst (λ (x : List Element). Splits (spots at (lead ++ item_text q item)) x) (sym (append-nil (elements_of one.0))) one.2)
items_written q item (next ∷ items) h lead w at =
    let valid : IsTrue (is_valid item) = left_of (is_valid item) (list_all is_valid (next ∷ items)) h in
    let front : List ℕ = lead ++ item_text q item in
    let one = item_written q item.scheme item.rest (left_of (is_token_text item.scheme) (is_valid_rest item.rest) valid) (right_of (is_token_text item.scheme) (is_valid_rest item.rest) valid) lead w at in
    let rest = items_written q next items (right_of (is_valid item) (list_all is_valid (next ∷ items)) h) (32 ∷ []) space_lead (at + length front + 1) in (
      one.0 ∷ rest.0,
      ap (λ (x : Item). x ∷ map item_of rest.0) one.1 ∙ ap (λ (x : List Item). item ∷ x) rest.1,
      subst (λ (x : List ℕ). Splits (spots at x) (flat_map elements_of (one.0 ∷ rest.0))) (append_assoc lead (item_text q item) (44 ∷ 32 ∷ items_text q (next ∷ items)))
          (two_parts at front (items_text q (next ∷ items)) (elements_of one.0) (flat_map elements_of rest.0) one.2 rest.2),
    )

-- what the elements make
abbrev grouped_of : List Placed → List Group → Grouped
grouped_of params groups = record { params = params; groups = groups }

furthers_group : (params : List Placed) (es : List Element) (groups : List Group) → grouping es ≡ Some (grouped_of [] groups) → grouping (map further params ++ es) ≡ Some (grouped_of params groups)
unfolding further
furthers_group [] es groups h = h
furthers_group (p ∷ params) es groups h = ap (with_element (Further p.at p.param)) (furthers_group params es groups h)

group_groups : (g : Group) (es : List Element) (groups : List Group) → grouping es ≡ Some (grouped_of [] groups) → grouping (elements_of g ++ es) ≡ Some (grouped_of [] (g ∷ groups))
group_groups (WithParams scheme []) es groups h = ap (with_element (Scheme scheme)) h
group_groups (WithParams scheme (p ∷ params)) es groups h = ap (with_element (SchemeParam scheme p.at p.param)) (furthers_group params es groups h)
group_groups (WithToken68 scheme token68) es groups h = ap (with_element (SchemeToken68 scheme token68)) h

groups_group : (groups : List Group) → grouping (flat_map elements_of groups) ≡ Some (grouped_of [] groups)
groups_group [] = refl
groups_group (g ∷ groups) = group_groups g (flat_map elements_of groups) groups (groups_group groups)

params_group : (params : List Placed) → grouping (map further params) ≡ Some (grouped_of params [])
params_group params = ap grouping (sym (append-nil (map further params))) ∙ furthers_group params [] [] refl

blank_element : IsElement [] Blank
blank_element = ([], [], [], refl, tt, tt, refl)

-- what is written of items spells them
pub challenges_written : (q : Quoting) (items : List Item) → IsTrue (list_all is_valid items) → SpellsChallenges (items_text q items) items
challenges_written q [] h = (grouped_of [] [], (Blank ∷ [], blank_element, refl, refl), refl)
challenges_written q (item ∷ items) h =
    let w = items_written q item items h [] no_lead 0 in
    (grouped_of [] w.0, (flat_map elements_of w.0, w.2, groups_group w.0, refl), w.1)

-- what is written of one item spells it
pub credentials_written : (q : Quoting) (item : Item) → IsTrue (is_valid item) → SpellsCredentials (items_text q (item ∷ [])) item
credentials_written q item h =
    let one = item_written q item.scheme item.rest (left_of (is_token_text item.scheme) (is_valid_rest item.rest) h) (right_of (is_token_text item.scheme) (is_valid_rest item.rest) h) [] no_lead 0 in (
      grouped_of [] (one.0 ∷ []),
      (elements_of one.0, one.2, ap grouping (sym (append-nil (elements_of one.0))) ∙ group_groups one.0 [] [] refl, (refl, one.0, refl)),
      ap (λ (x : Item). x ∷ []) one.1,
    )

-- what is written of parameters spells them
pub params_spelled : (q : Quoting) (params : List Param) → IsTrue (are_valid_params params) → SpellsParams (params_text q params) params
params_spelled q [] h = (grouped_of [] [], (Blank ∷ [], blank_element, refl, refl), refl)
params_spelled q (p ∷ params) h =
    let w = params_written q p params (left_of (list_all is_valid_param (p ∷ params)) (not (has_repeat (p ∷ params))) h) [] no_lead 0 in
    (grouped_of w.0 [], (map further w.0, w.2, params_group w.0, refl), w.1)
