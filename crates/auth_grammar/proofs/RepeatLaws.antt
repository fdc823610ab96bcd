use Rattle.std.proofs.Math.Seq.{split_at}
use Rattle.std.proofs.lemmas.List.{take_more, map-append}
use Rattle.auth_grammar.specs.declared.groups.Placed.{Placed}
use Rattle.auth_grammar.specs.Items.{unplaced, item_of}
use Rattle.auth_grammar.specs.declared.items.Item.{Item}
use Rattle.auth_grammar.specs.declared.groups.Group.TheVariants.{WithParams, WithToken68}
use Rattle.auth_grammar.specs.declared.groups.Grouped.{Grouped}
use Rattle.std.proofs.lemmas.List.Elements.{All-nil, All-cons, All-push, All-head, All-tail}
use Rattle.auth_grammar.specs.declared.error.GrammarError.{GrammarError}
use Rattle.auth_grammar.specs.declared.error.GrammarError.TheVariants.{NotGrammar, Twice, OutOfMemory}
use Rattle.auth_grammar.specs.declared.groups.Group.{Group}
use Rattle.auth_grammar.specs.Repeats.{IsRepeat, IsSecond, AreSingle, RefusesList, RefusesLists, HaveSingleNames, lists_in, params_in}
use Rattle.std.proofs.Common.{Result, Ok, Err, IfErr, ◌+◌, ◌<◌, suc, length, take, drop, get_or, ◌≡◌, ℕ, Bool, true, false, not, cond, ◌||◌, List, [], ◌∷◌, ◌++◌, refl, ap, sym, ◌∙◌, subst, map}
use Rattle.std.specs.List.{list_any}
use Rattle.std.specs.BTreeSet.{BTreeSet, IsEmpty, Updates, contains}
use Rattle.std.specs.Cmp.Lexicographic.{slice_cmp}
use Rattle.std.specs.Ordering.{nat_cmp}
use Rattle.std.proofs.lemmas.Bool.Decides.{same_from_decides}
use Rattle.std.proofs.lemmas.Slice.Eq.{bytes_eq-Decides}
use Rattle.std.proofs.lemmas.Map.Text.{is_eq-slice_cmp}
use Rattle.std.proofs.lemmas.List.Folds.{list_any-append}
use Rattle.auth_grammar.specs.declared.items.Param.{Param}
use Rattle.auth_grammar.specs.Names.{lower, same_name, has_name, has_repeat, params_of}

has_name_placed : (name : List ℕ) (params : List Placed) → list_any (λ (p : Placed). same_name p.param.name name) params ≡ has_name name (unplaced params)
has_name_placed name [] = refl
has_name_placed name (p ∷ params) = ap (λ (b : Bool). same_name p.param.name name || b) (has_name_placed name params)

-- what a search among the parameters before one tells of its name
pub searched : (params : List Placed) (i : ℕ) (n m : List ℕ) (found b : Bool) → found ≡ list_any (λ (p : Placed). same_name p.param.name n) (take i params) → n ≡ m → found ≡ b → has_name m (unplaced (take i params)) ≡ b
searched params i n m found b h e t =
    sym (has_name_placed m (take i params)) ∙ ap (λ (x : List ℕ). list_any (λ (p : Placed). same_name p.param.name x) (take i params)) (sym e) ∙ sym h ∙ t

-- the set has the lower-case names of the parameters
pub record AreNames (names : BTreeSet (List ℕ)) (params : List Param) : Type 0 where
  pub has : (name : List ℕ) → contains (slice_cmp nat_cmp) names (lower name) ≡ has_name name params

pub no_names : (names : BTreeSet (List ℕ)) → IsEmpty names → AreNames names []
no_names names h = record { has = λ name. rw h refl }

either : (b x : Bool) → cond b true x ≡ (x || (b || false))
either true true = refl
either true false = refl
either false true = refl
either false false = refl

-- one name more
pub more_names : (names new : BTreeSet (List ℕ)) (params : List Param) (p : Param) → AreNames names params → Updates (slice_cmp nat_cmp) names new (lower p.name) true → AreNames new (params ++ p ∷ [])
more_names names new params p a u = record {
  has = λ name.
      u.0 (lower name)
      ∙ ap (λ (b : Bool). cond b true (contains (slice_cmp nat_cmp) names (lower name))) (is_eq-slice_cmp (lower p.name) (lower name))
      ∙ ap (λ (x : Bool). cond (same_name p.name name) true x) (a.has name)
      ∙ either (same_name p.name name) (has_name name params)
      ∙ sym (list_any-append (λ (q : Param). same_name q.name name) params (p ∷ []));
}

same_name_comm : (a b : List ℕ) → same_name a b ≡ same_name b a
same_name_comm a b =
    let d = bytes_eq-Decides (lower a) (lower b) in
    let e = bytes_eq-Decides (lower b) (lower a) in
    same_from_decides (same_name a b) (same_name b a) d (λ h. sym (e.0 h), λ h. e.1 (sym h))

-- where neither holds
neither : (a b : Bool) → (a || b) ≡ false → (a ≡ false) × (b ≡ false)
neither true b h = absurd (cc (h))
neither false b h = (refl, h)

both_false : (a b : Bool) → a ≡ false → b ≡ false → (a || b) ≡ false
both_false a b h k = rw (h, k) refl

-- a new name behind others
pub single_more : (params : List Param) (p : Param) → has_repeat params ≡ false → has_name p.name params ≡ false → has_repeat (params ++ p ∷ []) ≡ false
single_more [] p h k = refl
single_more (q ∷ params) p h k =
    let a = neither (has_name q.name params) (has_repeat params) h in
    let b = neither (same_name q.name p.name) (has_name p.name params) k in
    both_false (has_name q.name (params ++ p ∷ [])) (has_repeat (params ++ p ∷ []))
    (list_any-append (λ (r : Param). same_name r.name q.name) params (p ∷ [])
    ∙ both_false (has_name q.name params) (same_name p.name q.name || false) a.0 (both_false (same_name p.name q.name) false (same_name_comm p.name q.name ∙ b.0) refl))
    (single_more params p a.1 b.1)

unplaced_more : (params : List Placed) (i : ℕ) (p : Placed) → i < length params → p ≡ get_or params i p → unplaced (take (i + 1) params) ≡ unplaced (take i params) ++ p.param ∷ []
unplaced_more params i p l h =
    ap unplaced (take_more params i p l) ∙ map-append (λ (q : Placed). q.param) (take i params) (get_or params i p ∷ []) ∙ ap (λ (q : Placed). unplaced (take i params) ++ q.param ∷ []) (sym h)

-- a name that is new
pub single_next : (params : List Placed) (i : ℕ) (p : Placed) → i < length params → p ≡ get_or params i p → has_repeat (unplaced (take i params)) ≡ false → has_name p.param.name (unplaced (take i params)) ≡ false
    → has_repeat (unplaced (take (i + 1) params)) ≡ false
single_next params i p l h s n = ap has_repeat (unplaced_more params i p l h) ∙ single_more (unplaced (take i params)) p.param s n

pub names_next : (names new : BTreeSet (List ℕ)) (params : List Placed) (i : ℕ) (p : Placed) → i < length params → p ≡ get_or params i p → AreNames names (unplaced (take i params)) → Updates (slice_cmp nat_cmp) names new (lower p.param.name) true
    → AreNames new (unplaced (take (i + 1) params))
names_next names new params i p l h a u = subst (λ (y : List Param). AreNames new y) (sym (unplaced_more params i p l h)) (more_names names new (unplaced (take i params)) p.param a u)

-- a name that came before
pub repeats_at : (params : List Placed) (i : ℕ) (p : Placed) → i < length params → p ≡ get_or params i p → has_repeat (unplaced (take i params)) ≡ false → has_name p.param.name (unplaced (take i params)) ≡ true → IsRepeat params p
repeats_at params i p l h s n = (take i params, drop (suc i) params, split_at params i p l ∙ ap (λ (q : Placed). take i params ++ q ∷ drop (suc i) params) (sym h), n, s)

not_of : (b c : Bool) → c ≡ not b → b ≡ not c
not_of true c h = rw h refl
not_of false c h = rw h refl

-- what the set tells of a name
pub told : (names : BTreeSet (List ℕ)) (params : List Param) (n m : List ℕ) (fresh b : Bool) → AreNames names params → fresh ≡ not (contains (slice_cmp nat_cmp) names (lower n)) → n ≡ m → fresh ≡ b → has_name m params ≡ not b
told names params n m fresh b a h e t =
    sym (a.has m) ∙ ap (λ (x : List ℕ). contains (slice_cmp nat_cmp) names (lower x)) (sym e) ∙ not_of (contains (slice_cmp nat_cmp) names (lower n)) fresh h ∙ ap not t

pub updated : (names new : BTreeSet (List ℕ)) (n m : List ℕ) → n ≡ m → Updates (slice_cmp nat_cmp) names new (lower n) true → Updates (slice_cmp nat_cmp) names new (lower m) true
updated names new n m e u = subst (λ (x : List ℕ). Updates (slice_cmp nat_cmp) names new (lower x) true) e u

abbrev IsSingle : List Placed → Type 0
IsSingle params = has_repeat (unplaced params) ≡ false

-- a repeat in one of several lists, before which there is none
refuses_at : (before : List (List Placed)) (here : List Placed) (after lists : List (List Placed)) → lists ≡ before ++ here ∷ after → AreSingle before → (e : GrammarError) → RefusesList here e → RefusesLists lists e
refuses_at before here after lists s a (NotGrammar at) r = absurd r
refuses_at before here after lists s a (Twice at name) r = (r.0, (before, here, after, s, a, r.1), r.2, r.3)
refuses_at before here after lists s a OutOfMemory r = tt

pub refuses_first : (params : List Placed) (lists : List (List Placed)) (e : GrammarError) → RefusesList params e → RefusesLists (params ∷ lists) e
refuses_first params lists e r = refuses_at [] params lists (params ∷ lists) refl (All-nil IsSingle) e r

pub refuses_rest : (params : List Placed) (lists : List (List Placed)) → has_repeat (unplaced params) ≡ false → (e : GrammarError) → RefusesLists lists e → RefusesLists (params ∷ lists) e
refuses_rest params lists h (NotGrammar at) r = absurd r
refuses_rest params lists h (Twice at name) r =
    let s = r.1 in
    (r.0, (params ∷ s.0, s.1, s.2, ap (λ (y : List (List Placed)). params ∷ y) s.3, All-cons IsSingle params s.0 h s.4, s.5), r.2, r.3)
refuses_rest params lists h OutOfMemory r = tt

-- the same of the items before a place
pub refuses_group : (groups : List Group) (i : ℕ) (g : Group) → i < length groups → g ≡ get_or groups i g → AreSingle (map params_in (take i groups)) → (e : GrammarError) → RefusesList (params_in g) e → RefusesLists (map params_in groups) e
refuses_group groups i g l h a e r =
    let s : groups ≡ take i groups ++ g ∷ drop (suc i) groups = split_at groups i g l ∙ ap (λ (q : Group). take i groups ++ q ∷ drop (suc i) groups) (sym h) in
    refuses_at (map params_in (take i groups)) (params_in g) (map params_in (drop (suc i) groups)) (map params_in groups)
    (ap (map params_in) s ∙ map-append params_in (take i groups) (g ∷ drop (suc i) groups)) a e r

pub single_group : (groups : List Group) (i : ℕ) (g : Group) → i < length groups → g ≡ get_or groups i g → AreSingle (map params_in (take i groups)) → has_repeat (unplaced (params_in g)) ≡ false → AreSingle (map params_in (take (i + 1) groups))
single_group groups i g l h a s =
    let more : take (i + 1) groups ≡ take i groups ++ g ∷ [] = take_more groups i g l ∙ ap (λ (q : Group). take i groups ++ q ∷ []) (sym h) in
    subst (λ (y : List (List Placed)). AreSingle y) (sym (ap (map params_in) more ∙ map-append params_in (take i groups) (g ∷ [])))
    (All-push IsSingle (map params_in (take i groups)) (params_in g) a s)

pub if_err_map : {A E : Type 0} (P Q : E → Type 0) (r : Result A E) → ((x : E) → P x → Q x) → IfErr r P → IfErr r Q
if_err_map P Q (Ok x) f h = h
if_err_map P Q (Err e) f h = f e h

abbrev IsSingleItem : Item → Type 0
IsSingleItem item = has_repeat (params_of item.rest) ≡ false

single_item : (g : Group) → has_repeat (unplaced (params_in g)) ≡ false → has_repeat (params_of (item_of g).rest) ≡ false
single_item (WithParams s []) h = refl
single_item (WithParams s (p ∷ params)) h = h
single_item (WithToken68 s t) h = refl

items_single : (groups : List Group) → AreSingle (map params_in groups) → HaveSingleNames (map item_of groups)
items_single [] h = All-nil IsSingleItem
items_single (g ∷ groups) h =
    All-cons IsSingleItem (item_of g) (map item_of groups) (single_item g (All-head IsSingle (params_in g) (map params_in groups) h)) (items_single groups (All-tail IsSingle (params_in g) (map params_in groups) h))

-- what is single with the places of names is so without them
pub single_items : (x : Grouped) → AreSingle (lists_in x) → (items : List Item) → items ≡ map item_of x.groups → HaveSingleNames items
single_items x h items e = subst (λ (y : List Item). HaveSingleNames y) (sym e) (items_single x.groups (All-tail IsSingle x.params (map params_in x.groups) h))

true_or : (a b : Bool) → b ≡ true → (a || b) ≡ true
true_or true b h = refl
true_or false b h = h

-- a name that came before makes a repeat
repeat_here : (before : List Param) (p : Param) (after : List Param) → has_name p.name before ≡ true → has_repeat (before ++ p ∷ after) ≡ true
repeat_here [] p after h = absurd (cc (h))
repeat_here (q ∷ before) p after h = go (same_name q.name p.name) refl h (repeat_here before p after)
  where
    go : (b : Bool) → same_name q.name p.name ≡ b → (b || has_name p.name before) ≡ true → (has_name p.name before ≡ true → has_repeat (before ++ p ∷ after) ≡ true) → (has_name q.name (before ++ p ∷ after) || has_repeat (before ++ p ∷ after)) ≡ true
    go true e k rest =
        let found : has_name q.name (before ++ p ∷ after) ≡ true =
        list_any-append (λ (r : Param). same_name r.name q.name) before (p ∷ after)
        ∙ true_or (has_name q.name before) (same_name p.name q.name || has_name q.name after) (ap (λ (x : Bool). x || has_name q.name after) (same_name_comm p.name q.name ∙ e)) in
        rw found refl
    go false e k rest = true_or (has_name q.name (before ++ p ∷ after)) (has_repeat (before ++ p ∷ after)) (rest k)

repeats_repeat : (params : List Placed) (p : Placed) → IsRepeat params p → has_repeat (unplaced params) ≡ true
repeats_repeat params p r =
    ap has_repeat (ap unplaced r.2 ∙ map-append (λ (q : Placed). q.param) r.0 (p ∷ r.1)) ∙ repeat_here (unplaced r.0) p.param (unplaced r.1) r.3

single_at : (before : List (List Placed)) (here : List Placed) (after : List (List Placed)) → AreSingle (before ++ here ∷ after) → has_repeat (unplaced here) ≡ false
single_at [] here after a = All-head IsSingle here after a
single_at (first ∷ before) here after a = single_at before here after (All-tail IsSingle first (before ++ here ∷ after) a)

-- a second name is one
pub second_is : (lists : List (List Placed)) (p : Placed) → AreSingle lists → IsSecond lists p → ⊥
second_is lists p a s = (let h = single_at s.0 s.1 s.2 (subst (λ (y : List (List Placed)). AreSingle y) s.3 a) in cc (h, repeats_repeat s.1 p s.5))
