-- What a text spells can be written.
use Rattle.std.proofs.Common.{◌≡◌, ℕ, Bool, true, false, ◌&&◌, ◌==◌, not, inl, inr, List, [], ◌∷◌, ◌++◌, Option, Some, None, refl, ap, sym, ◌∙◌, subst, IsTrue, map, ◌+◌, ◌<◌, nat_lt, length, drop, arith}
use Rattle.std.specs.List.{list_all}
use Rattle.std.proofs.lemmas.Bool.Decides.{Decides-ltb, Decides-eqb}
use Rattle.std.proofs.Math.Numerals.{one-add}
use Rattle.std.proofs.Math.Seq.{drop-append_seam}
use Rattle.auth_grammar.specs.Kinds.{kind_of, is_token, is_token68, is_equals, is_escapable, is_quotable}
use Rattle.auth_grammar.specs.declared.kinds.Kind.{Kind}
use Rattle.auth_grammar.specs.declared.kinds.Kind.TheVariants.{Equals, Control}
use Rattle.auth_grammar.specs.declared.items.Param.{Param}
use Rattle.auth_grammar.specs.declared.grammar.Grammar.{Grammar}
use Rattle.auth_grammar.specs.declared.elements.Element.{Element}
use Rattle.auth_grammar.specs.declared.elements.Element.TheVariants.{Blank, Scheme, SchemeToken68, SchemeParam, Further}
use Rattle.auth_grammar.specs.declared.groups.Placed.{Placed}
use Rattle.auth_grammar.specs.declared.groups.Group.{Group}
use Rattle.auth_grammar.specs.declared.groups.Group.TheVariants.{WithParams, WithToken68}
use Rattle.auth_grammar.specs.declared.groups.Grouped.{Grouped}
use Rattle.auth_grammar.specs.Grammar.{Text, spots, bytes, AllOf, SomeOf, IsToken68, Quotes, IsValue, IsParam, IsForm, Splits}
use Rattle.auth_grammar.specs.Items.{with_element, with_token68, grouping, unplaced, item_of, Spells}
use Rattle.auth_grammar.specs.Names.{has_repeat}
use Rattle.auth_grammar.specs.Repeats.{AreSingle, lists_in, params_in}
use Rattle.auth_grammar.specs.Valid.{is_token_text, token68_len, is_token68_text, is_quotable_text, is_valid_param, are_valid_params, is_valid}
use Rattle.std.proofs.lemmas.List.Elements.{All-head, All-tail}
use Rattle.auth_grammar.proofs.FormReadings.{both, bytes_append, equals_is}

all_bytes : (p : Kind → Bool) (a : Text) → AllOf p a → IsTrue (list_all (λ b. p (kind_of b)) (bytes a))
all_bytes p [] h = refl
all_bytes p (b ∷ a) h = both (p (kind_of b.byte)) (list_all (λ c. p (kind_of c)) (bytes a)) h.0 (all_bytes p a h.1)

some_length : (p : Kind → Bool) (a : Text) → SomeOf p a → 0 < length (bytes a)
some_length p [] h = absurd h
some_length p (b ∷ a) h = omega arith

is_above : (n : ℕ) → 0 < n → nat_lt 0 n ≡ true
is_above n h = (Decides-ltb 0 n).1 h

token_bytes : (a : Text) → SomeOf is_token a → IsTrue (is_token_text (bytes a))
token_bytes [] h = absurd h
token_bytes (b ∷ a) h =
    let text : List ℕ = bytes (b ∷ a) in
    both (nat_lt 0 (length text)) (list_all (λ c. is_token (kind_of c)) text) (is_above (length text) (some_length is_token (b ∷ a) h)) (all_bytes is_token (b ∷ a) h)

-- the front of a token68 ends where its `=` begin
equals_no_body : (k : Kind) → IsTrue (is_equals k) → is_token68 k ≡ false
equals_no_body Equals h = refl
equals_no_body _ h = absurd (cc (h))

body_len : (body equals : Text) → AllOf is_token68 body → AllOf is_equals equals → token68_len (bytes body ++ bytes equals) ≡ length (bytes body)
body_len [] [] h k = refl
body_len [] (e ∷ equals) h k = rw (equals_no_body (kind_of e.byte) k.0) refl
body_len (b ∷ body) equals h k = rw h.0 (ap (λ (n : ℕ). 1 + n) (body_len body equals h.1 k) ∙ one-add (length (bytes body)))

equals_bytes : (a : Text) → AllOf is_equals a → IsTrue (list_all (λ b. b == 61) (bytes a))
equals_bytes [] h = refl
equals_bytes (b ∷ a) h = both (b.byte == 61) (list_all (λ c. c == 61) (bytes a)) ((Decides-eqb b.byte 61).1 (equals_is b.byte h.0)) (equals_bytes a h.1)

some_all : (p : Kind → Bool) (a : Text) → SomeOf p a → AllOf p a
some_all p [] h = absurd h
some_all p (b ∷ a) h = h

token68_bytes : (a : Text) → IsToken68 a → IsTrue (is_token68_text (bytes a))
token68_bytes a h =
    let body : List ℕ = bytes h.0 in
    let equals : List ℕ = bytes h.1 in
    let text : bytes a ≡ body ++ equals = ap bytes h.2 ∙ bytes_append h.0 h.1 in
    let len : token68_len (body ++ equals) ≡ length body = body_len h.0 h.1 (some_all is_token68 h.0 h.3) h.4 in
    subst (λ (x : List ℕ). IsTrue (is_token68_text x)) (sym text)
    (both (nat_lt 0 (token68_len (body ++ equals))) (list_all (λ b. b == 61) (drop (token68_len (body ++ equals)) (body ++ equals)))
    (ap (nat_lt 0) len ∙ is_above (length body) (some_length is_token68 h.0 h.3))
    (subst (λ (x : List ℕ). IsTrue (list_all (λ b. b == 61) x)) (sym (ap (λ (n : ℕ). drop n (body ++ equals)) len ∙ drop-append_seam body equals)) (equals_bytes h.1 h.4)))

-- values
token_escapable : (k : Kind) → IsTrue (is_token k) → IsTrue (is_escapable k)
token_escapable Control h = absurd (cc (h))
token_escapable _ h = refl

token68_escapable : (k : Kind) → IsTrue (is_token68 k) → IsTrue (is_escapable k)
token68_escapable Control h = absurd (cc (h))
token68_escapable _ h = refl

equals_escapable : (k : Kind) → IsTrue (is_equals k) → IsTrue (is_escapable k)
equals_escapable Control h = absurd (cc (h))
equals_escapable _ h = refl

quotable_escapable : (k : Kind) → IsTrue (is_quotable k) → IsTrue (is_escapable k)
quotable_escapable Control h = absurd (cc (h))
quotable_escapable _ h = refl

all_weaker : (p q : Kind → Bool) → ((k : Kind) → IsTrue (p k) → IsTrue (q k)) → (a : Text) → AllOf p a → AllOf q a
all_weaker p q f [] h = tt
all_weaker p q f (b ∷ a) h = (f (kind_of b.byte) h.0, all_weaker p q f a h.1)

all_append : (p : Kind → Bool) (a b : Text) → AllOf p a → AllOf p b → AllOf p (a ++ b)
all_append p [] b h k = k
all_append p (c ∷ a) b h k = (h.0, all_append p a b h.1 k)

quotes_escapable : (a : Text) (value : List ℕ) → Quotes a value → IsTrue (is_quotable_text value)
quotes_escapable a [] h = refl
quotes_escapable a (v ∷ value) (inl h) = both (is_escapable (kind_of v)) (is_quotable_text value) (quotable_escapable (kind_of v) h.4) (quotes_escapable h.1 value h.5)
quotes_escapable a (v ∷ value) (inr h) = both (is_escapable (kind_of v)) (is_quotable_text value) h.6 (quotes_escapable h.2 value h.7)

value_escapable : (a : Text) (value : List ℕ) → IsValue a value → IsTrue (is_quotable_text value)
value_escapable a value (inl h) = subst (λ (x : List ℕ). IsTrue (is_quotable_text x)) h.1 (all_bytes is_escapable a (all_weaker is_token is_escapable token_escapable a (some_all is_token a h.0)))
value_escapable a value (inr (inl h)) =
    let t = h.0 in
    let all : AllOf is_escapable (t.0 ++ t.1) = all_append is_escapable t.0 t.1 (all_weaker is_token68 is_escapable token68_escapable t.0 (some_all is_token68 t.0 t.3)) (all_weaker is_equals is_escapable equals_escapable t.1 t.4) in
    subst (λ (x : List ℕ). IsTrue (is_quotable_text x)) h.1 (all_bytes is_escapable a (subst (λ (x : Text). AllOf is_escapable x) (sym t.2) all))
value_escapable a value (inr (inr h)) = quotes_escapable h.2 value h.6

param_valid : (a : Text) (at : ℕ) (p : Param) → IsParam a at p → IsTrue (is_valid_param p)
param_valid a at p h =
    both (is_token_text p.name) (is_quotable_text p.value) (subst (λ (x : List ℕ). IsTrue (is_token_text x)) h.6 (token_bytes h.0 h.9)) (value_escapable h.4 p.value h.12)

-- what an element has can be written
abbrev ValidElement : Element → Type 0
ValidElement Blank = Unit {0}
ValidElement (Scheme s) = IsTrue (is_token_text s)
ValidElement (SchemeToken68 s t) = IsTrue (is_token_text s) × IsTrue (is_token68_text t)
ValidElement (SchemeParam s at p) = IsTrue (is_token_text s) × IsTrue (is_valid_param p)
ValidElement (Further at p) = IsTrue (is_valid_param p)

abbrev ValidElements : List Element → Type 0
ValidElements [] = Unit {0}
ValidElements (e ∷ es) = ValidElement e × ValidElements es

token_is : (a : Text) (s : List ℕ) → bytes a ≡ s → SomeOf is_token a → IsTrue (is_token_text s)
token_is a s e h = subst (λ (x : List ℕ). IsTrue (is_token_text x)) e (token_bytes a h)

form_valid : (a : Text) (e : Element) → IsForm a e → ValidElement e
form_valid a Blank h = tt
form_valid a (Scheme s) h = token_is a s h.0 h.1
form_valid a (SchemeToken68 s t) h = (token_is h.0 s h.4 h.6, subst (λ (x : List ℕ). IsTrue (is_token68_text x)) h.5 (token68_bytes h.2 h.8))
form_valid a (SchemeParam s at p) h = (token_is h.0 s h.4 h.5, param_valid h.2 at p h.7)
form_valid a (Further at p) h = param_valid a at p h

splits_valid : (a : Text) (es : List Element) → Splits a es → ValidElements es
splits_valid a [] h = absurd h
splits_valid a (e ∷ []) h = (form_valid h.1 e h.6, tt)
splits_valid a (e ∷ f ∷ es) h = (form_valid h.5.1 e h.5.6, splits_valid h.2 (f ∷ es) h.6)

-- and so can what the elements make
abbrev ValidParams : List Placed → Type 0
ValidParams params = IsTrue (list_all is_valid_param (unplaced params))

abbrev ValidGroup : Group → Type 0
ValidGroup (WithParams s params) = IsTrue (is_token_text s) × ValidParams params
ValidGroup (WithToken68 s t) = IsTrue (is_token_text s) × IsTrue (is_token68_text t)

abbrev ValidGroups : List Group → Type 0
ValidGroups [] = Unit {0}
ValidGroups (g ∷ groups) = ValidGroup g × ValidGroups groups

abbrev ValidGrouped : Option Grouped → Type 0
ValidGrouped None = Unit {0}
ValidGrouped (Some x) = ValidParams x.params × ValidGroups x.groups

with_valid : (e : Element) (o : Option Grouped) → ValidElement e → ValidGrouped o → ValidGrouped (with_element e o)
with_valid e None h k = tt
with_valid Blank (Some x) h k = k
with_valid (Scheme s) (Some x) h k = (refl, ((h, k.0), k.1))
with_valid (SchemeToken68 s t) (Some x) h k = none_behind x.params
  where
    none_behind : (params : List Placed) → ValidGrouped (with_token68 s t params x.groups)
    none_behind [] = (refl, (h, k.1))
    none_behind (p ∷ params) = tt
with_valid (SchemeParam s at p) (Some x) h k = (refl, ((h.0, both (is_valid_param p) (list_all is_valid_param (unplaced x.params)) h.1 k.0), k.1))
with_valid (Further at p) (Some x) h k = (both (is_valid_param p) (list_all is_valid_param (unplaced x.params)) h k.0, k.1)

grouping_valid : (es : List Element) → ValidElements es → ValidGrouped (grouping es)
grouping_valid [] h = (refl, tt)
grouping_valid (e ∷ es) h = with_valid e (grouping es) h.0 (grouping_valid es h.1)

spelled_valid : (k : Grammar) (text : List ℕ) (x : Grouped) → Spells k text x → ValidParams x.params × ValidGroups x.groups
spelled_valid k text x s = subst ValidGrouped s.2 (grouping_valid s.0 (splits_valid (spots 0 text) s.0 s.1))

false_not : (b : Bool) → b ≡ false → IsTrue (not b)
false_not true h = absurd (cc (h))
false_not false h = refl

params_valid : (params : List Param) → IsTrue (list_all is_valid_param params) → has_repeat params ≡ false → IsTrue (are_valid_params params)
params_valid params h s = both (list_all is_valid_param params) (not (has_repeat params)) h (false_not (has_repeat params) s)

item_valid : (g : Group) → ValidGroup g → has_repeat (unplaced (params_in g)) ≡ false → IsTrue (is_valid (item_of g))
item_valid (WithParams s []) h r = both (is_token_text s) true h.0 refl
item_valid (WithParams s (p ∷ params)) h r =
    let all : List Param = unplaced (p ∷ params) in
    both (is_token_text s) (nat_lt 0 (length all) && are_valid_params all) h.0
    (both (nat_lt 0 (length all)) (are_valid_params all) (is_above (length all) (omega arith)) (params_valid all h.1 r))
item_valid (WithToken68 s t) h r = both (is_token_text s) (is_token68_text t) h.0 h.1

abbrev IsSingle : List Placed → Type 0
IsSingle params = has_repeat (unplaced params) ≡ false

items_valid : (groups : List Group) → ValidGroups groups → AreSingle (map params_in groups) → IsTrue (list_all is_valid (map item_of groups))
items_valid [] h s = refl
items_valid (g ∷ groups) h s =
    both (is_valid (item_of g)) (list_all is_valid (map item_of groups)) (item_valid g h.0 (All-head IsSingle (params_in g) (map params_in groups) s)) (items_valid groups h.1 (All-tail IsSingle (params_in g) (map params_in groups) s))

-- what a text spells can be written where no name comes twice
pub spelled_items_valid : (k : Grammar) (text : List ℕ) (x : Grouped) → Spells k text x → AreSingle (lists_in x) → IsTrue (list_all is_valid (map item_of x.groups))
spelled_items_valid k text x s a = items_valid x.groups (spelled_valid k text x s).1 (All-tail IsSingle x.params (map params_in x.groups) a)

pub spelled_params_valid : (k : Grammar) (text : List ℕ) (x : Grouped) → Spells k text x → AreSingle (lists_in x) → IsTrue (are_valid_params (unplaced x.params))
spelled_params_valid k text x s a = params_valid (unplaced x.params) (spelled_valid k text x s).0 (All-head IsSingle x.params (map params_in x.groups) a)
