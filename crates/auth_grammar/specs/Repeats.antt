-- Names that come twice.
use Rattle.std.specs.Prelude.{◌≡◌, false, List, [], ◌∷◌, ◌++◌, IsTrue, map, All}
use Rattle.auth_grammar.specs.declared.items.Item.{Item}
use Rattle.auth_grammar.specs.declared.groups.Placed.{Placed}
use Rattle.auth_grammar.specs.declared.groups.Group.{Group}
use Rattle.auth_grammar.specs.declared.groups.Group.TheVariants.{WithParams, WithToken68}
use Rattle.auth_grammar.specs.declared.groups.Grouped.{Grouped}
use Rattle.auth_grammar.specs.declared.error.GrammarError.{GrammarError}
use Rattle.auth_grammar.specs.declared.error.GrammarError.TheVariants.{NotGrammar, Twice, OutOfMemory}
use Rattle.auth_grammar.specs.Names.{has_name, has_repeat, params_of}
use Rattle.auth_grammar.specs.Items.{unplaced}

-- the first parameter of a list whose name one before it has
abbrev pub IsRepeat : List Placed → Placed → Type 0
IsRepeat params p = (before after : List Placed) × (params ≡ before ++ p ∷ after)
    × IsTrue (has_name p.param.name (unplaced before)) × (has_repeat (unplaced before) ≡ false)

-- an item's parameters
abbrev pub params_in : Group → List Placed
params_in (WithParams scheme params) = params
params_in (WithToken68 scheme token68) = []

-- the lists within which a name may come once: the parameters of no item, and each item's
abbrev pub lists_in : Grouped → List (List Placed)
lists_in x = x.params ∷ map params_in x.groups

-- no name comes twice in one of these lists
abbrev pub AreSingle : List (List Placed) → Type 0
AreSingle lists = All (λ params. has_repeat (unplaced params) ≡ false) lists

-- the first parameter whose name comes a second time in one list
abbrev pub IsSecond : List (List Placed) → Placed → Type 0
IsSecond lists p = (before : List (List Placed)) × (here : List Placed) × (after : List (List Placed))
    × (lists ≡ before ++ here ∷ after) × AreSingle before × IsRepeat here p

-- no name comes twice in one item
abbrev pub HaveSingleNames : List Item → Type 0
HaveSingleNames items = All (λ item. has_repeat (params_of item.rest) ≡ false) items

-- the error that names the first repeated name of a list, or want of memory
abbrev pub RefusesList : List Placed → GrammarError → Type 0
RefusesList params (Twice at name) = (p : Placed) × IsRepeat params p × (p.at ≡ at) × (p.param.name ≡ name)
RefusesList params (NotGrammar at) = ⊥
RefusesList params OutOfMemory = Unit {0}

-- the same of several lists
abbrev pub RefusesLists : List (List Placed) → GrammarError → Type 0
RefusesLists lists (Twice at name) = (p : Placed) × IsSecond lists p × (p.at ≡ at) × (p.param.name ≡ name)
RefusesLists lists (NotGrammar at) = ⊥
RefusesLists lists OutOfMemory = Unit {0}
