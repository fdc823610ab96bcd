-- What is collected of a list of elements, from its first on.
use Rattle.std.specs.Prelude.{◌≡◌, Bool, true, false, List, [], ◌∷◌, ◌++◌, Option, Some, None, option_map}
use Rattle.auth_grammar.specs.declared.elements.Element.{Element}
use Rattle.auth_grammar.specs.declared.elements.Element.TheVariants.{Blank, Scheme, SchemeToken68, SchemeParam, Further}
use Rattle.auth_grammar.specs.declared.grammar.Grammar.{Grammar}
use Rattle.auth_grammar.specs.declared.grammar.Grammar.TheVariants.{Challenges, Credentials, Params}
use Rattle.auth_grammar.specs.declared.groups.Placed.{Placed}
use Rattle.auth_grammar.specs.declared.groups.Group.{Group}
use Rattle.auth_grammar.specs.declared.groups.Group.TheVariants.{WithParams, WithToken68}
use Rattle.auth_grammar.specs.declared.groups.Grouped.{Grouped}
use Rattle.auth_grammar.specs.declared.collected.Collected.{Collected}
use Rattle.auth_grammar.specs.declared.collected.Collected.TheVariants.{Bare, Many, One}
use Rattle.auth_grammar.specs.Items.{placed, grouping}
use Rattle.auth_grammar.specs.States.{Rules}

-- whether a parameter may come behind an item
abbrev pub is_open : Group → Bool
is_open (WithParams scheme params) = true
is_open (WithToken68 scheme token68) = false

-- the item with one parameter more
abbrev pub with_param : Placed → Group → Group
with_param p (WithParams scheme params) = WithParams scheme (params ++ p ∷ [])
with_param p (WithToken68 scheme token68) = WithToken68 scheme token68

-- nothing is collected yet
abbrev pub begun_of : Grammar → Collected
begun_of Challenges = Many [] None
begun_of Credentials = One None
begun_of Params = Bare []

-- whether a parameter may come next
abbrev pub takes_param : Collected → Bool
takes_param (Bare params) = true
takes_param (Many groups (Some last)) = is_open last
takes_param (Many groups None) = false
takes_param (One (Some last)) = is_open last
takes_param (One None) = false

-- whether a scheme may come next
abbrev pub takes_scheme : Collected → Bool
takes_scheme (Bare params) = false
takes_scheme (Many groups last) = true
takes_scheme (One (Some last)) = false
takes_scheme (One None) = true

-- one item more
abbrev pub begun : Collected → Group → Collected
begun (Bare params) group = Bare params
begun (Many groups None) group = Many groups (Some group)
begun (Many groups (Some last)) group = Many (groups ++ last ∷ []) (Some group)
begun (One last) group = One (Some group)

-- one parameter more
abbrev pub pushed : Collected → Placed → Collected
pushed (Bare params) p = Bare (params ++ p ∷ [])
pushed (Many groups last) p = Many groups (option_map (with_param p) last)
pushed (One last) p = One (option_map (with_param p) last)

-- one element more
abbrev pub add_element : Collected → Element → Collected
add_element c Blank = c
add_element c (Scheme scheme) = begun c (WithParams scheme [])
add_element c (SchemeToken68 scheme token68) = begun c (WithToken68 scheme token68)
add_element c (SchemeParam scheme at param) = begun c (WithParams scheme (placed at param ∷ []))
add_element c (Further at param) = pushed c (placed at param)

-- what a whole text spells
abbrev pub finished : Collected → Option Grouped
finished (Bare params) = Some (record { params = params; groups = [] })
finished (Many groups None) = Some (record { params = []; groups = groups })
finished (Many groups (Some last)) = Some (record { params = []; groups = groups ++ last ∷ [] })
finished (One None) = None
finished (One (Some last)) = Some (record { params = []; groups = last ∷ [] })

-- the item with these parameters behind its own
abbrev pub completed : Group → List Placed → Option Group
completed (WithParams scheme params) more = Some (WithParams scheme (params ++ more))
completed (WithToken68 scheme token68) [] = Some (WithToken68 scheme token68)
completed (WithToken68 scheme token68) (p ∷ more) = None

-- what was collected, and then parameters and items
abbrev pub joined : Collected → List Placed → List Group → Option Grouped
joined (Bare params) more [] = Some (record { params = params ++ more; groups = [] })
joined (Bare params) more (g ∷ others) = None
joined (Many groups None) [] others = Some (record { params = []; groups = groups ++ others })
joined (Many groups None) (p ∷ more) others = None
joined (Many groups (Some last)) more others =
    option_map (λ g. record { params = []; groups = groups ++ (g ∷ others) }) (completed last more)
joined (One None) [] [] = None
joined (One None) [] (g ∷ []) = Some (record { params = []; groups = g ∷ [] })
joined (One None) [] (g ∷ h ∷ others) = None
joined (One None) (p ∷ more) others = None
joined (One (Some last)) more [] = option_map (λ g. record { params = []; groups = g ∷ [] }) (completed last more)
joined (One (Some last)) more (g ∷ others) = None

-- the same where the elements can be grouped
abbrev pub joined_with : Collected → Option Grouped → Option Grouped
joined_with c None = None
joined_with c (Some x) = joined c x.params x.groups

-- what was collected, and then these elements, make x
abbrev pub Makes : Collected → List Element → Grouped → Type 0
Makes c elements x = joined_with c (grouping elements) ≡ Some x

-- the rules by which a reader of that grammar collects
abbrev pub rules : Grammar → Rules
rules grammar = record {
  Made = Collected;
  X = Grouped;
  begun = begun_of grammar;
  params = takes_param;
  schemes = takes_scheme;
  add = add_element;
  Goes = Makes;
}
