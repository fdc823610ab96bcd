use Rattle.std.proofs.Common.{IsTrue, ◌≡◌, ℕ, false, true, List, [], ◌∷◌, ◌++◌, Ok, refl, ap, sym, ◌∙◌, subst, map}
use Rattle.std.specs.List.{list_all}
use Rattle.std.proofs.lemmas.List.{map-append}
use Rattle.std.proofs.lemmas.List.Elements.{All-head}
use Rattle.auth_grammar.specs.declared.grammar.Grammar.TheVariants.{Challenges, Credentials, Params}
use Rattle.auth_grammar.specs.declared.groups.Group.{Group}
use Rattle.auth_grammar.specs.declared.groups.Grouped.{Grouped}
use Rattle.auth_grammar.specs.declared.items.Item.{Item}
use Rattle.auth_grammar.specs.declared.items.Param.{Param}
use Rattle.auth_grammar.specs.Answers.{AnswersChallenges, AnswersCredentials, AnswersParams}
use Rattle.auth_grammar.specs.Items.{SpellsOnly, item_of, unplaced}
use Rattle.auth_grammar.specs.Names.{has_repeat, params_of}
use Rattle.auth_grammar.specs.Repeats.{AreSingle, HaveSingleNames, lists_in, params_in}
use Rattle.auth_grammar.specs.declared.groups.Placed.{Placed}
use Rattle.auth_grammar.specs.Valid.{is_valid, are_valid_params}
use Rattle.auth_grammar.proofs.FormReadings.{left_of}
use Rattle.auth_grammar.proofs.Validity.{spelled_items_valid, spelled_params_valid}
use Rattle.auth_grammar.proofs.RepeatLaws.{single_items}

-- challenges that a text spells alone
pub answers_challenges : (text : List ℕ) (x : Grouped) (items : List Item) → SpellsOnly Challenges text x → AreSingle (lists_in x) → items ≡ map item_of x.groups → AnswersChallenges text (Ok items)
answers_challenges text x items s a e = record {
  spelled = (x, s.0, sym e);
  only = λ other h. sym h.2 ∙ ap (λ (y : Grouped). map item_of y.groups) (s.1 h.0 h.1) ∙ sym e;
  single = single_items x a items e;
  valid = subst (λ (y : List Item). IsTrue (list_all is_valid y)) (sym e) (spelled_items_valid Challenges text x s.0 a);
  refused = tt;
}

-- parameters that a text spells alone
pub answers_params : (text : List ℕ) (x : Grouped) (params : List Param) → SpellsOnly Params text x → AreSingle (lists_in x) → params ≡ unplaced x.params → AnswersParams text (Ok params)
answers_params text x params s a e = record {
  spelled = (x, s.0, sym e);
  only = λ other h. sym h.2 ∙ ap (λ (y : Grouped). unplaced y.params) (s.1 h.0 h.1) ∙ sym e;
  single = ap has_repeat e ∙ All-head (λ (p : List Placed). has_repeat (unplaced p) ≡ false) x.params (map params_in x.groups) a;
  valid = subst (λ (y : List Param). IsTrue (are_valid_params y)) (sym e) (spelled_params_valid Params text x s.0 a);
  refused = tt;
}

-- the last item of one item is that item
last_of_one : (before : List Item) (item first : Item) → before ++ item ∷ [] ≡ first ∷ [] → first ∷ [] ≡ item ∷ []
last_of_one [] item first h = sym h
last_of_one (a ∷ []) item first h = absurd (cc (h))
last_of_one (a ∷ b ∷ before) item first h = absurd (cc (h))

-- the same of the last of their items
answers_last : (text : List ℕ) (x : Grouped) (items before : List Item) (item : Item) → SpellsOnly Credentials text x → AreSingle (lists_in x) → items ≡ map item_of x.groups → items ≡ before ++ item ∷ [] → AnswersCredentials text (Ok item)
answers_last text x items before item s a e h =
    let i = s.0.3 in
    let first : map item_of x.groups ≡ item_of i.1 ∷ [] = ap (map item_of) i.2 in
    let one : map item_of x.groups ≡ item ∷ [] = first ∙ last_of_one before item (item_of i.1) (sym h ∙ e ∙ first) in
    record {
      spelled = (x, s.0, one);
      only = λ other k. same other (sym k.2 ∙ ap (λ (y : Grouped). map item_of y.groups) (s.1 k.0 k.1) ∙ one);
      single = All-head (λ (y : Item). has_repeat (params_of y.rest) ≡ false) item [] (subst (λ (y : List Item). HaveSingleNames y) one (single_items x a (map item_of x.groups) refl));
      valid = left_of (is_valid item) true (subst (λ (y : List Item). IsTrue (list_all is_valid y)) one (spelled_items_valid Credentials text x s.0 a));
      refused = tt;
    }
  where
    same : (other : Item) → other ∷ [] ≡ item ∷ [] → other ≡ item
    same other k = cc

-- credentials that a text spells alone, of the last item as it is spelled
pub answers_credentials : (text : List ℕ) (x : Grouped) (before : List Group) (group : Group) (item : Item) → SpellsOnly Credentials text x → AreSingle (lists_in x) → x.groups ≡ before ++ group ∷ [] → item ≡ item_of group → AnswersCredentials text (Ok item)
answers_credentials text x before group item s a h i =
    answers_last text x (map item_of x.groups) (map item_of before) item s a refl
    (ap (map item_of) h ∙ map-append item_of before (group ∷ []) ∙ ap (λ (y : Item). map item_of before ++ y ∷ []) (sym i))
