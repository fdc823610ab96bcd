use Rattle.std.proofs.Common.{◌≡◌, false, true, Bool, List, [], ◌∷◌, Ok, Err, refl, ap, sym, ◌∙◌, subst, map, inl, inr, IsTrue, not, nat_lt, length}
use Rattle.std.specs.List.{list_all}
use Rattle.auth_grammar.specs.declared.error.GrammarError.TheVariants.{NotGrammar, Twice, OutOfMemory}
use Rattle.auth_grammar.specs.declared.groups.Group.{Group}
use Rattle.auth_grammar.specs.declared.groups.Group.TheVariants.{WithParams, WithToken68}
use Rattle.auth_grammar.specs.declared.groups.Placed.{Placed}
use Rattle.auth_grammar.specs.declared.groups.Grouped.{Grouped}
use Rattle.auth_grammar.specs.declared.items.Item.{Item}
use Rattle.auth_grammar.specs.declared.items.Param.{Param}
use Rattle.auth_grammar.specs.Answers.{ReadsItems, ReadsItem, ReadsParams}
use Rattle.auth_grammar.specs.Items.{item_of, unplaced}
use Rattle.auth_grammar.specs.Names.{has_repeat}
use Rattle.auth_grammar.specs.Repeats.{AreSingle, lists_in, params_in}
use Rattle.auth_grammar.specs.Valid.{is_token_text, is_valid_param, is_valid_rest, is_valid, are_valid_params}
use Rattle.auth_grammar.proofs.FormReadings.{both, left_of, right_of}
use Rattle.auth_grammar.proofs.RepeatLaws.{second_is}
use Rattle.std.proofs.lemmas.List.Elements.{All-nil, All-cons}
use Rattle.auth_grammar.proofs.Written.{challenges_written, credentials_written, params_spelled}

-- a list that can be written has no second name
valid_single : (params : List Param) → IsTrue (are_valid_params params) → has_repeat params ≡ false
valid_single params h = not_true (has_repeat params) (right_of (list_all is_valid_param params) (not (has_repeat params)) h)
  where
    not_true : (b : Bool) → IsTrue (not b) → b ≡ false
    not_true true k = absurd (cc (k))
    not_true false k = refl

-- nor has an item
item_single : (g : Group) → IsTrue (is_valid_rest (item_of g).rest) → has_repeat (unplaced (params_in g)) ≡ false
item_single (WithParams s []) h = refl
item_single (WithParams s (p ∷ params)) h = valid_single (unplaced (p ∷ params)) (right_of (nat_lt 0 (length (unplaced (p ∷ params)))) (are_valid_params (unplaced (p ∷ params))) h)
item_single (WithToken68 s t) h = refl

abbrev IsSingle : List Placed → Type 0
IsSingle params = has_repeat (unplaced params) ≡ false

groups_single : (groups : List Group) → IsTrue (list_all is_valid (map item_of groups)) → AreSingle (map params_in groups)
groups_single [] h = All-nil IsSingle
groups_single (g ∷ groups) h =
    let valid : IsTrue (is_valid (item_of g)) = left_of (is_valid (item_of g)) (list_all is_valid (map item_of groups)) h in
    All-cons IsSingle (params_in g) (map params_in groups) (item_single g (right_of (is_token_text (item_of g).scheme) (is_valid_rest (item_of g).rest) valid))
    (groups_single groups (right_of (is_valid (item_of g)) (list_all is_valid (map item_of groups)) h))

-- what spells items that can be written has no second name
items_single : (x : Grouped) (items : List Item) → x.params ≡ [] → map item_of x.groups ≡ items → IsTrue (list_all is_valid items) → AreSingle (lists_in x)
items_single x items n e h =
    All-cons IsSingle x.params (map params_in x.groups) (ap (λ (y : List Placed). has_repeat (unplaced y)) n) (groups_single x.groups (subst (λ (y : List Item). IsTrue (list_all is_valid y)) (sym e) h))

params_single : (x : Grouped) (params : List Param) → x.groups ≡ [] → unplaced x.params ≡ params → IsTrue (are_valid_params params) → AreSingle (lists_in x)
params_single x params n e h =
    All-cons IsSingle x.params (map params_in x.groups) (ap has_repeat e ∙ valid_single params h) (subst (λ (y : List (List Placed)). AreSingle y) (sym (ap (map params_in) n)) (All-nil IsSingle))

pub reads_items : ReadsItems
reads_items q items h (Ok other) a = inl (ap Ok (sym (a.only items (challenges_written q items h))))
reads_items q items h (Err (NotGrammar at)) a = (let w = challenges_written q items h in absurd (a.refused.none w.0 w.1))
reads_items q items h (Err (Twice at name)) a =
    let w = challenges_written q items h in
    let r = a.refused in
    absurd (second_is (lists_in r.0) r.1 (subst (λ (y : Grouped). AreSingle (lists_in y)) (r.2.1 w.0 w.1) (items_single w.0 items w.1.3 w.2 h)) r.3)
reads_items q items h (Err OutOfMemory) a = inr refl

pub reads_item : ReadsItem
reads_item q item h (Ok other) a = inl (ap Ok (sym (a.only item (credentials_written q item h))))
reads_item q item h (Err (NotGrammar at)) a = (let w = credentials_written q item h in absurd (a.refused.none w.0 w.1))
reads_item q item h (Err (Twice at name)) a =
    let w = credentials_written q item h in
    let r = a.refused in
    let valid : IsTrue (list_all is_valid (item ∷ [])) = both (is_valid item) true h refl in
    absurd (second_is (lists_in r.0) r.1 (subst (λ (y : Grouped). AreSingle (lists_in y)) (r.2.1 w.0 w.1) (items_single w.0 (item ∷ []) w.1.3.0 w.2 valid)) r.3)
reads_item q item h (Err OutOfMemory) a = inr refl

pub reads_params : ReadsParams
reads_params q params h (Ok other) a = inl (ap Ok (sym (a.only params (params_spelled q params h))))
reads_params q params h (Err (NotGrammar at)) a = (let w = params_spelled q params h in absurd (a.refused.none w.0 w.1))
reads_params q params h (Err (Twice at name)) a =
    let w = params_spelled q params h in
    let r = a.refused in
    absurd (second_is (lists_in r.0) r.1 (subst (λ (y : Grouped). AreSingle (lists_in y)) (r.2.1 w.0 w.1) (params_single w.0 params w.1.3 w.2 h)) r.3)
reads_params q params h (Err OutOfMemory) a = inr refl
