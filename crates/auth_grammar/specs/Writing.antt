-- The one text that is written of a list.
use Rattle.std.specs.Prelude.{ℕ, Bool, true, false, ◌&&◌, ◌||◌, if◌then◌else◌, List, [], ◌∷◌, ◌++◌, codes, map, nat_lt}
use Rattle.std.specs.List.{list_any}
use Rattle.auth_grammar.specs.declared.items.Param.{Param}
use Rattle.auth_grammar.specs.declared.items.Item.{Item}
use Rattle.auth_grammar.specs.declared.items.Rest.{Rest}
use Rattle.auth_grammar.specs.declared.items.Rest.TheVariants.{Empty, Token68, Params}
use Rattle.auth_grammar.specs.declared.items.Quoting.{Quoting}
use Rattle.auth_grammar.specs.declared.items.Quoting.TheVariants.{Challenge, Credentials, Info}
use Rattle.auth_grammar.specs.Kinds.{kind_of, is_quote, is_backslash}
use Rattle.auth_grammar.specs.Names.{same_name}
use Rattle.auth_grammar.specs.Valid.{is_token_text}

-- the names whose values stand without quotes where they are tokens (RFC 7616 sections 3.3 to 3.5)
abbrev pub bare_names : Quoting → List (List ℕ)
bare_names Challenge = codes "stale" ∷ codes "algorithm" ∷ codes "userhash" ∷ codes "charset" ∷ codes "ttl" ∷ []
bare_names Credentials = codes "algorithm" ∷ codes "qop" ∷ codes "nc" ∷ codes "userhash" ∷ []
bare_names Info = codes "qop" ∷ codes "nc" ∷ []

-- whether it is one of these names
abbrev pub is_bare_name : Quoting → List ℕ → Bool
is_bare_name quoting name = list_any (λ bare. same_name bare name) (bare_names quoting)

-- a quote or a backslash
abbrev pub is_escaped : ℕ → Bool
is_escaped b = is_quote (kind_of b) || is_backslash (kind_of b)

-- a backslash before each quote and backslash
abbrev pub escaped : List ℕ → List ℕ
escaped [] = []
escaped (b ∷ value) = if is_escaped b then 92 ∷ b ∷ escaped value else (b ∷ escaped value)

-- a value, bare or in quotes
abbrev pub value_text : Bool → List ℕ → List ℕ
value_text true value = value
value_text false value = 34 ∷ escaped value ++ 34 ∷ []

-- texts with a separator between each two
abbrev pub joined_by : List ℕ → List (List ℕ) → List ℕ
joined_by separator [] = []
joined_by separator (text ∷ []) = text
joined_by separator (text ∷ next ∷ texts) = text ++ (separator ++ joined_by separator (next ∷ texts))

-- a parameter
abbrev pub param_text : Quoting → Param → List ℕ
param_text quoting p = p.name ++ (61 ∷ value_text (is_bare_name quoting p.name && is_token_text p.value) p.value)

-- parameters
abbrev pub params_text : Quoting → List Param → List ℕ
params_text quoting params = joined_by (codes ", ") (map (param_text quoting) params)

-- what stands behind a scheme
abbrev pub rest_text : Quoting → Rest → List ℕ
rest_text quoting Empty = []
rest_text quoting (Token68 text) = 32 ∷ text
rest_text quoting (Params params) = 32 ∷ params_text quoting params

-- an item
abbrev pub item_text : Quoting → Item → List ℕ
item_text quoting item = item.scheme ++ rest_text quoting item.rest

-- items
abbrev pub items_text : Quoting → List Item → List ℕ
items_text quoting items = joined_by (codes ", ") (map (item_text quoting) items)

-- what stands before the part at a place from 0
abbrev pub separator_at : ℕ → List ℕ
separator_at i = if nat_lt 0 i then codes ", " else []
