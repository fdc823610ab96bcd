-- Parameters as they are written.
use Rattle.std.specs.Prelude.{ℕ, List, [], ◌∷◌, codes, Option, Some, None, Bool, if◌then◌else◌}
use Rattle.auth_grammar.specs.declared.items.Item.{Item}
use Rattle.auth_grammar.specs.declared.items.Param.{Param}
use Rattle.auth_grammar.specs.declared.items.Rest.TheVariants.{Params}
use Rattle.auth_grammar.specs.Params.{param}
use Rattle.digest_fields.specs.declared.field.FieldName.{FieldName}
use Rattle.digest_fields.specs.Field.{field_text}

-- a parameter
abbrev pub written : FieldName → List ℕ → List Param
written name value = param (field_text name) value ∷ []

-- a parameter that has a value
abbrev pub written_some : FieldName → Option (List ℕ) → List Param
written_some name (Some value) = written name value
written_some name None = []

-- a parameter that is true
abbrev pub written_true : FieldName → Bool → List Param
written_true name flag = if flag then written name (codes "true") else []

-- the item of these parameters
abbrev pub digest_item : List Param → Item
digest_item params = record { scheme = codes "Digest"; rest = Params params }
