-- Realms (RFC 9110 section 11.5).
use Rattle.std.specs.Prelude.{ℕ, ◌≤◌, List, length, IsTrue, Result, Ok, Err, if◌then◌else◌}
use Rattle.std.specs.List.{list_all}
use Rattle.auth_grammar.specs.declared.items.Param.{Param}
use Rattle.auth_grammar.specs.declared.plain.TheConstants.{NAME_LIMIT}
pub use Rattle.auth_grammar.specs.Plain.{is_printable}
use Rattle.digest_fields.specs.declared.field.FieldName.TheVariants as field
use Rattle.digest_fields.specs.declared.field.FieldError.{FieldError}
use Rattle.digest_fields.specs.declared.field.FieldError.TheVariants.{BadValue}
use Rattle.digest_fields.specs.Field.{at_most, required, ◌>>=◌}

-- what is demanded of a realm
pub record IsRealm (realm : List ℕ) : Type 0 where
  pub short : length realm ≤ NAME_LIMIT
  pub printable : IsTrue (list_all is_printable realm)

-- the realm, of at most 64 printable bytes
unfoldable pub realm_of : List Param → Result (List ℕ) FieldError
realm_of params = do
  value ← required field.Realm params
  realm ← at_most NAME_LIMIT field.Realm value
  if list_all is_printable realm then Ok realm else Err (BadValue field.Realm)
