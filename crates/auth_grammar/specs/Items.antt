-- What elements spell: items and parameters (RFC 9110 section 11).
use Rattle.std.specs.Prelude.{◌≡◌, ℕ, List, [], ◌∷◌, Option, Some, None, map}
use Rattle.auth_grammar.specs.declared.items.Param.{Param}
use Rattle.auth_grammar.specs.declared.items.Item.{Item}
use Rattle.auth_grammar.specs.declared.items.Rest.{Rest}
use Rattle.auth_grammar.specs.declared.items.Rest.TheVariants.{Empty, Token68, Params}
use Rattle.auth_grammar.specs.declared.grammar.Grammar.{Grammar}
use Rattle.auth_grammar.specs.declared.grammar.Grammar.TheVariants as Of
use Rattle.auth_grammar.specs.declared.elements.Element.{Element}
use Rattle.auth_grammar.specs.declared.elements.Element.TheVariants.{Blank, Scheme, SchemeToken68, SchemeParam, Further}
use Rattle.auth_grammar.specs.declared.groups.Placed.{Placed}
use Rattle.auth_grammar.specs.declared.groups.Group.{Group}
use Rattle.auth_grammar.specs.declared.groups.Group.TheVariants.{WithParams, WithToken68}
use Rattle.auth_grammar.specs.declared.groups.Grouped.{Grouped}
use Rattle.auth_grammar.specs.Grammar.{Splits, spots}

-- a parameter whose name stands at a place
abbrev pub placed : ℕ → Param → Placed
placed at param = record { at = at; param = param }

-- an item before those of x
abbrev pub with_group : Group → List Group → Grouped
with_group group groups = record { params = []; groups = group ∷ groups }

-- an item with a token68, behind which there is no parameter
abbrev pub with_token68 : List ℕ → List ℕ → List Placed → List Group → Option Grouped
with_token68 scheme token68 [] groups = Some (with_group (WithToken68 scheme token68) groups)
with_token68 scheme token68 (p ∷ params) groups = None

-- one element before what others make: one with a scheme begins an item, and the parameters behind it are the item's
abbrev pub with_element : Element → Option Grouped → Option Grouped
with_element e None = None
with_element Blank (Some x) = Some x
with_element (Scheme scheme) (Some x) = Some (with_group (WithParams scheme x.params) x.groups)
with_element (SchemeToken68 scheme token68) (Some x) = with_token68 scheme token68 x.params x.groups
with_element (SchemeParam scheme at param) (Some x) = Some (with_group (WithParams scheme (placed at param ∷ x.params)) x.groups)
with_element (Further at param) (Some x) = Some (record x { params = placed at param ∷ x.params })

-- what elements make: the parameters that come before any scheme, and the items
abbrev pub grouping : List Element → Option Grouped
grouping [] = Some (record { params = []; groups = [] })
grouping (e ∷ elements) = with_element e (grouping elements)

-- challenges are items, credentials are one item, and a list of parameters has none
abbrev pub IsOf : Grammar → Grouped → Type 0
IsOf Of.Challenges x = x.params ≡ []
IsOf Of.Credentials x = (x.params ≡ []) × (group : Group) × (x.groups ≡ group ∷ [])
IsOf Of.Params x = x.groups ≡ []

-- a text of that grammar spells x, with the places of names
abbrev pub Spells : Grammar → List ℕ → Grouped → Type 0
Spells grammar text x = (elements : List Element) × Splits (spots 0 text) elements × (grouping elements ≡ Some x) × IsOf grammar x

-- a text of that grammar spells x and nothing else
abbrev pub SpellsOnly : Grammar → List ℕ → Grouped → Type 0
SpellsOnly grammar text x = Spells grammar text x × ((y : Grouped) → Spells grammar text y → y ≡ x)

-- parameters without their places
abbrev pub unplaced : List Placed → List Param
unplaced params = map (λ p. p.param) params

-- an item's rest, of its parameters
abbrev pub rest_of : List Placed → Rest
rest_of [] = Empty
rest_of (p ∷ params) = Params (unplaced (p ∷ params))

-- an item without the places of its names
abbrev pub item_of : Group → Item
item_of (WithParams scheme params) = record { scheme = scheme; rest = rest_of params }
item_of (WithToken68 scheme token68) = record { scheme = scheme; rest = Token68 token68 }

-- a text spells challenges
abbrev pub SpellsChallenges : List ℕ → List Item → Type 0
SpellsChallenges text items = (x : Grouped) × Spells Of.Challenges text x × (map item_of x.groups ≡ items)

-- a text spells credentials
abbrev pub SpellsCredentials : List ℕ → Item → Type 0
SpellsCredentials text item = (x : Grouped) × Spells Of.Credentials text x × (map item_of x.groups ≡ item ∷ [])

-- a text spells parameters alone
abbrev pub SpellsParams : List ℕ → List Param → Type 0
SpellsParams text params = (x : Grouped) × Spells Of.Params text x × (unplaced x.params ≡ params)
