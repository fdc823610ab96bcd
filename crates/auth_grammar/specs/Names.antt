-- Names of schemes and parameters, which are compared without regard to the case of ASCII letters.
use Rattle.std.specs.Prelude.{ℕ, Bool, false, ◌||◌, List, [], ◌∷◌, Option, find, map, option_map}
use Rattle.std.specs.List.{list_any}
use Rattle.std.specs.Char.{to_ascii_lowercase}
use Rattle.std.specs.Str.{bytes_eq}
use Rattle.auth_grammar.specs.declared.items.Param.{Param}
use Rattle.auth_grammar.specs.declared.items.Rest.{Rest}
use Rattle.auth_grammar.specs.declared.items.Rest.TheVariants.{Empty, Token68, Params}

-- a name with its ASCII letters in lower case
abbrev pub lower : List ℕ → List ℕ
lower name = map to_ascii_lowercase name

-- whether two names are one, without regard to the case of ASCII letters
abbrev pub same_name : List ℕ → List ℕ → Bool
same_name a b = bytes_eq (lower a) (lower b)

-- the value of the first parameter of that name
abbrev pub value_of : List ℕ → List Param → Option (List ℕ)
value_of name params = option_map (λ p. p.value) (find (λ p. same_name p.name name) params)

-- whether a parameter has that name
abbrev pub has_name : List ℕ → List Param → Bool
has_name name params = list_any (λ p. same_name p.name name) params

-- whether a name comes twice
abbrev pub has_repeat : List Param → Bool
has_repeat [] = false
has_repeat (p ∷ params) = has_name p.name params || has_repeat params

-- the parameters behind a scheme
abbrev pub params_of : Rest → List Param
params_of Empty = []
params_of (Token68 text) = []
params_of (Params params) = params
