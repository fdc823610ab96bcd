-- Names of users (RFC 7616 section 3.4.4).
use Rattle.std.specs.Prelude.{ℕ, IsTrue, List, Option, Some, None, Result, Ok, Err, if◌then◌else◌}
use Rattle.std.specs.Option.{ok_or}
use Rattle.percent_encoding.specs.Percent.{percent_decode}
use Rattle.auth_grammar.specs.declared.items.Param.{Param}
use Rattle.auth_grammar.specs.declared.plain.TheConstants.{NAME_LIMIT}
use Rattle.auth_grammar.specs.Plain.{is_plain_name}
use Rattle.digest_fields.specs.declared.field.FieldName.{FieldName}
use Rattle.digest_fields.specs.declared.field.FieldName.TheVariants as field
use Rattle.digest_fields.specs.declared.field.FieldError.{FieldError}
use Rattle.digest_fields.specs.declared.field.FieldError.TheVariants.{BadValue, BothNames, NoName}
use Rattle.digest_fields.specs.Extended.{escaped_name}
use Rattle.digest_fields.specs.Field.{at_most, given, ◌>>=◌}

-- what is demanded of a name: 1 to 64 printable bytes without a colon
abbrev pub IsName : List ℕ → Type 0
IsName name = IsTrue (is_plain_name name)

-- a name, whose length is looked at first
unfoldable pub name_from : FieldName → List ℕ → Result (List ℕ) FieldError
name_from name text = do
  short ← at_most NAME_LIMIT name text
  if is_plain_name short then Ok short else Err (BadValue name)

-- the name of one parameter or of the other
abbrev pub name_in : Option (List ℕ) → Option (List ℕ) → Result (List ℕ) FieldError
name_in (Some plain) (Some extended) = Err BothNames
name_in None None = Err NoName
name_in (Some plain) None = name_from field.Username plain
name_in None (Some extended) = do
  escaped ← ok_or (escaped_name extended) (BadValue field.UsernameStar)
  name_from field.UsernameStar (percent_decode escaped)

-- the name that the parameters say
unfoldable pub name_of : List Param → Result (List ℕ) FieldError
name_of params = name_in (given field.Username params) (given field.UsernameStar params)
