-- Credentials of HTTP Digest (RFC 7616 section 3.4).
use Rattle.std.specs.Prelude.{ℕ, ◌≤◌, ◌<◌, List, ◌++◌, length, codes, Option, Some, None, is_some, Result, Ok, Err, Bool, true, false, not, ◌&&◌, if◌then◌else◌}
use Rattle.auth_grammar.specs.declared.items.Item.{Item}
use Rattle.auth_grammar.specs.declared.items.Param.{Param}
use Rattle.auth_grammar.specs.Names.{same_name}
use Rattle.auth_hash.specs.declared.algorithm.Qop.{Qop}
use Rattle.auth_hash.specs.Qop.{qop_name}
use Rattle.digest_fields.specs.declared.field.FieldName.TheVariants as field
use Rattle.digest_fields.specs.declared.field.FieldError.{FieldError}
use Rattle.digest_fields.specs.declared.field.FieldError.TheVariants.{BadValue}
use Rattle.digest_fields.specs.declared.kind.Kind.{Kind}
use Rattle.digest_fields.specs.declared.name.UserName.{UserName}
use Rattle.digest_fields.specs.declared.name.UserName.TheVariants.{Plain, Hashed}
use Rattle.digest_fields.specs.Field.{at_most, given, not_empty, required, ◌>>=◌}
use Rattle.digest_fields.specs.Kind.{kind_name, kind_of}
use Rattle.digest_fields.specs.Name.{IsName, name_of}
use Rattle.digest_fields.specs.Nc.{IsNc, nc_of}
use Rattle.digest_fields.specs.Qop.{qop_of}
use Rattle.digest_fields.specs.Realm.{IsRealm, realm_of}
use Rattle.digest_fields.specs.Write.{digest_item, written, written_some, written_true}

-- what credentials say; the count is its text
pub record Credentials : Type 0 where
  pub user : UserName
  pub realm : List ℕ
  pub nonce : List ℕ
  pub uri : List ℕ
  pub response : List ℕ
  pub kind : Kind
  pub cnonce : List ℕ
  pub opaque : Option (List ℕ)
  pub qop : Qop
  pub nc : List ℕ

-- the name that is sent, itself or as its hash
abbrev pub sent_name : UserName → List ℕ
sent_name (Plain name) = name
sent_name (Hashed name) = name

-- whether the name is sent as its hash
abbrev pub is_hashed : UserName → Bool
is_hashed (Plain name) = false
is_hashed (Hashed name) = true

-- what is demanded of a client's nonce
pub record IsCnonce (cnonce : List ℕ) : Type 0 where
  pub there : 0 < length cnonce
  pub short : length cnonce ≤ 128

-- what is demanded of credentials
pub record IsCredentials (c : Credentials) : Type 0 where
  pub name_form : IsName (sent_name c.user)
  pub realm_form : IsRealm c.realm
  pub uri_there : 0 < length c.uri
  pub cnonce_form : IsCnonce c.cnonce
  pub nc_form : IsNc c.nc

-- the target that was asked for, which is there and not empty
unfoldable pub uri_of : List Param → Result (List ℕ) FieldError
uri_of params = do
  uri ← required field.Uri params
  not_empty field.Uri uri

-- the client's nonce, of 1 to 128 bytes
unfoldable pub cnonce_of : List Param → Result (List ℕ) FieldError
cnonce_of params = do
  value ← required field.Cnonce params
  cnonce ← at_most 128 field.Cnonce value
  not_empty field.Cnonce cnonce

-- the user of a name by what `userhash` says and whether the name was in `username*`
abbrev pub user_said : List ℕ → Option (List ℕ) → Bool → Result UserName FieldError
user_said name None extended = Ok (Plain name)
user_said name (Some text) extended =
    if same_name text (codes "false") then Ok (Plain name)
    else if same_name text (codes "true") && not extended then Ok (Hashed name)
    else Err (BadValue field.Userhash)

-- the user of that name
unfoldable pub user_of : List Param → List ℕ → Result UserName FieldError
user_of params name = user_said name (given field.Userhash params) (is_some (given field.UsernameStar params))

-- the credentials that the parameters say, or the first refusal
unfoldable pub credentials_of : List Param → Result Credentials FieldError
credentials_of params = do
  name ← name_of params
  realm ← realm_of params
  nonce ← required field.Nonce params
  uri ← uri_of params
  response ← required field.Response params
  kind ← kind_of params
  cnonce ← cnonce_of params
  qop ← qop_of params
  nc ← nc_of params
  user ← user_of params name
  Ok (record {
    user = user;
    realm = realm;
    nonce = nonce;
    uri = uri;
    response = response;
    kind = kind;
    cnonce = cnonce;
    opaque = given field.Opaque params;
    qop = qop;
    nc = nc;
  })

-- the parameters of credentials, in the order of writing
unfoldable pub credentials_params : Credentials → List Param
credentials_params c =
    written field.Username (sent_name c.user)
    ++ written field.Realm c.realm
    ++ written field.Nonce c.nonce
    ++ written field.Uri c.uri
    ++ written field.Response c.response
    ++ written field.Algorithm (kind_name c.kind)
    ++ written field.Cnonce c.cnonce
    ++ written_some field.Opaque c.opaque
    ++ written field.Qop (qop_name c.qop)
    ++ written field.Nc c.nc
    ++ written_true field.Userhash (is_hashed c.user)

-- credentials as an item
abbrev pub credentials_item : Credentials → Item
credentials_item c = digest_item (credentials_params c)
