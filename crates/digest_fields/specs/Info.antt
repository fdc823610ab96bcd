-- Authentication-Info of HTTP Digest (RFC 7616 section 3.5).
use Rattle.std.specs.Prelude.{ℕ, ◌<◌, List, ◌++◌, length, Option, Some, None, option_map, Result, Ok}
use Rattle.std.specs.Option.{ForSome}
use Rattle.auth_grammar.specs.declared.items.Param.{Param}
use Rattle.auth_hash.specs.declared.algorithm.Qop.{Qop}
use Rattle.auth_hash.specs.Qop.{qop_name}
use Rattle.digest_fields.specs.declared.field.FieldName.TheVariants as field
use Rattle.digest_fields.specs.declared.field.FieldError.{FieldError}
use Rattle.digest_fields.specs.Field.{given, not_empty, ◌>>=◌}
use Rattle.digest_fields.specs.Nc.{IsNc, nc_from}
use Rattle.digest_fields.specs.Qop.{qop_from}
use Rattle.digest_fields.specs.Write.{written_some}

-- what an Authentication-Info says; the count is its text
pub record Info : Type 0 where
  pub nextnonce : Option (List ℕ)
  pub qop : Option Qop
  pub rspauth : Option (List ℕ)
  pub cnonce : Option (List ℕ)
  pub nc : Option (List ℕ)

-- what is demanded of an Authentication-Info
pub record IsInfo (i : Info) : Type 0 where
  pub nextnonce_there : ForSome i.nextnonce (λ nonce. 0 < length nonce)
  pub nc_form : ForSome i.nc IsNc

-- a demand on a value that may be there
abbrev pub optional : {A : Type 0} → (List ℕ → Result A FieldError) → Option (List ℕ) → Result (Option A) FieldError
optional demand None = Ok None
optional demand (Some value) = do
  kept ← demand value
  Ok (Some kept)

-- the next nonce, which isn't empty
unfoldable pub nextnonce_of : List Param → Result (Option (List ℕ)) FieldError
nextnonce_of params = optional (not_empty field.Nextnonce) (given field.Nextnonce params)

-- the quality of protection that was used
unfoldable pub used_qop_of : List Param → Result (Option Qop) FieldError
used_qop_of params = optional qop_from (given field.Qop params)

-- the count that was used
unfoldable pub used_nc_of : List Param → Result (Option (List ℕ)) FieldError
used_nc_of params = optional nc_from (given field.Nc params)

-- the Authentication-Info that the parameters say, or the first refusal
unfoldable pub info_of : List Param → Result Info FieldError
info_of params = do
  nextnonce ← nextnonce_of params
  qop ← used_qop_of params
  nc ← used_nc_of params
  Ok (record {
    nextnonce = nextnonce;
    qop = qop;
    rspauth = given field.Rspauth params;
    cnonce = given field.Cnonce params;
    nc = nc;
  })

-- the parameters of an Authentication-Info, in the order of writing
unfoldable pub info_params : Info → List Param
info_params i =
    written_some field.Nextnonce i.nextnonce
    ++ written_some field.Qop (option_map qop_name i.qop)
    ++ written_some field.Rspauth i.rspauth
    ++ written_some field.Cnonce i.cnonce
    ++ written_some field.Nc i.nc
