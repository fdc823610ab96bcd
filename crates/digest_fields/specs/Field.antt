-- The parameters of HTTP Digest (RFC 7616 sections 3.3 to 3.5) and their faults.
use Rattle.std.specs.Prelude.{ℕ, List, length, codes, Option, Result, Ok, Err, nat_lt, ◌==◌, if◌then◌else◌}
use Rattle.std.specs.Option.{ok_or}
use Rattle.auth_grammar.specs.declared.items.Param.{Param}
use Rattle.auth_grammar.specs.Names.{value_of}
use Rattle.digest_fields.specs.declared.field.FieldName.{FieldName}
use Rattle.digest_fields.specs.declared.field.FieldName.TheVariants.{Username, UsernameStar, Realm, Domain, Nonce, Uri, Response, Algorithm, Cnonce, Opaque, Qop, Nc, Userhash, Stale, Nextnonce, Rspauth}
use Rattle.digest_fields.specs.declared.field.FieldError.{FieldError}
use Rattle.digest_fields.specs.declared.field.FieldError.TheVariants.{Missing, TooLong, BadValue}

-- how a parameter is written
abbrev pub field_text : FieldName → List ℕ
field_text Username = codes "username"
field_text UsernameStar = codes "username*"
field_text Realm = codes "realm"
field_text Domain = codes "domain"
field_text Nonce = codes "nonce"
field_text Uri = codes "uri"
field_text Response = codes "response"
field_text Algorithm = codes "algorithm"
field_text Cnonce = codes "cnonce"
field_text Opaque = codes "opaque"
field_text Qop = codes "qop"
field_text Nc = codes "nc"
field_text Userhash = codes "userhash"
field_text Stale = codes "stale"
field_text Nextnonce = codes "nextnonce"
field_text Rspauth = codes "rspauth"

-- the value of a parameter, where it is there
unfoldable pub given : FieldName → List Param → Option (List ℕ)
given name params = value_of (field_text name) params

-- one demand after another, and the first refusal
infixl 10 ◌>>=◌
abbrev pub ◌>>=◌ : {A B : Type 0} → Result A FieldError → (A → Result B FieldError) → Result B FieldError
Ok value >>= next = next value
Err error >>= next = Err error

-- a parameter that has to be there
unfoldable pub required : FieldName → List Param → Result (List ℕ) FieldError
required name params = ok_or (given name params) (Missing name)

-- a value of no more bytes than the limit
unfoldable pub at_most : ℕ → FieldName → List ℕ → Result (List ℕ) FieldError
at_most limit name value = if nat_lt limit (length value) then Err (TooLong name limit) else Ok value

-- a value that isn't empty
unfoldable pub not_empty : FieldName → List ℕ → Result (List ℕ) FieldError
not_empty name value = if length value == 0 then Err (BadValue name) else Ok value
