-- Parameters.
use Rattle.std.specs.Prelude.{ℕ, List}
use Rattle.auth_grammar.specs.declared.items.Param.{Param}

-- the parameter of this name and this value
abbrev pub param : List ℕ → List ℕ → Param
param name value = record { name = name; value = value }
