-- Credentials that are written read back.
use Rattle.std.proofs.Common.{◌≡◌, ℕ, cond, List, Some, None, codes, refl, ◌∙◌}
use Rattle.std.specs.Prelude.{Ok}
use Rattle.auth_grammar.specs.declared.items.Item.{Item}
use Rattle.auth_grammar.specs.declared.items.Param.{Param}
use Rattle.auth_grammar.specs.Names.{params_of}
use Rattle.auth_hash.specs.Qop.{qop_name}
use Rattle.digest_fields.specs.declared.field.FieldName.TheVariants as field
use Rattle.digest_fields.specs.declared.name.UserName.{UserName}
use Rattle.digest_fields.specs.declared.name.UserName.TheVariants.{Plain, Hashed}
use Rattle.digest_fields.specs.Credentials.{Credentials, IsCredentials, credentials_of, credentials_params, is_hashed, sent_name, user_of}
use Rattle.digest_fields.specs.Field.{given}
use Rattle.digest_fields.specs.Kind.{kind_name}
use Rattle.digest_fields.specs.Name.{IsName, name_of}
use Rattle.digest_fields.specs.Write.{digest_item}
use Rattle.digest_fields.proofs.Lookups.{lookups}
use Rattle.digest_fields.proofs.Rows.{bind-ok, cnonce_of-ok, kind_of-ok, name_from-ok, nc_of-ok, qop_of-ok, realm_of-ok, required-ok, uri_of-ok}

-- the parameters by name
pub record Finds (params : List Param) (c : Credentials) : Type 0 where
  pub username : given field.Username params ≡ Some (sent_name c.user)
  pub username_star : given field.UsernameStar params ≡ None
  pub realm : given field.Realm params ≡ Some c.realm
  pub nonce : given field.Nonce params ≡ Some c.nonce
  pub uri : given field.Uri params ≡ Some c.uri
  pub response : given field.Response params ≡ Some c.response
  pub kind : given field.Algorithm params ≡ Some (kind_name c.kind)
  pub cnonce : given field.Cnonce params ≡ Some c.cnonce
  pub opaque : given field.Opaque params ≡ c.opaque
  pub qop : given field.Qop params ≡ Some (qop_name c.qop)
  pub nc : given field.Nc params ≡ Some c.nc
  pub userhash : given field.Userhash params ≡ cond (is_hashed c.user) (Some (codes "true")) None

-- what was written is found
Finds-credentials_params : (c : Credentials) → Finds (credentials_params c) c
unfolding credentials_params
Finds-credentials_params c = record {
  username = simp lookups;
  username_star = simp lookups;
  realm = simp lookups;
  nonce = simp lookups;
  uri = simp lookups;
  response = simp lookups;
  kind = simp lookups;
  cnonce = simp lookups;
  opaque = simp lookups;
  qop = simp lookups;
  nc = simp lookups;
  userhash = simp lookups;
}

-- the name reads back
name_of-found : (params : List Param) (name : List ℕ) → IsName name → given field.Username params ≡ Some name
    → given field.UsernameStar params ≡ None → name_of params ≡ Ok name
unfolding name_of
name_of-found params name form there absent = rw (there, absent) (name_from-ok field.Username name form)

-- the user reads back
user_of-found : (params : List Param) (user : UserName) → given field.UsernameStar params ≡ None
    → given field.Userhash params ≡ cond (is_hashed user) (Some (codes "true")) None → user_of params (sent_name user) ≡ Ok user
unfolding user_of
user_of-found params (Plain name) absent found = rw found refl
user_of-found params (Hashed name) absent found = rw (found, absent) refl

-- credentials are read where their parameters are found
credentials_of-found : (params : List Param) (c : Credentials) → IsCredentials c → Finds params c → credentials_of params ≡ Ok c
unfolding credentials_of
credentials_of-found params c form found =
    bind-ok _ (sent_name c.user) _ (name_of-found params (sent_name c.user) form.name_form found.username found.username_star)
    ∙ bind-ok _ c.realm _ (realm_of-ok params c.realm found.realm form.realm_form)
    ∙ bind-ok _ c.nonce _ (required-ok field.Nonce params c.nonce found.nonce)
    ∙ bind-ok _ c.uri _ (uri_of-ok params c.uri found.uri form.uri_there)
    ∙ bind-ok _ c.response _ (required-ok field.Response params c.response found.response)
    ∙ bind-ok _ c.kind _ (kind_of-ok params c.kind found.kind)
    ∙ bind-ok _ c.cnonce _ (cnonce_of-ok params c.cnonce found.cnonce form.cnonce_form)
    ∙ bind-ok _ c.qop _ (qop_of-ok params c.qop found.qop)
    ∙ bind-ok _ c.nc _ (nc_of-ok params c.nc found.nc form.nc_form)
    ∙ bind-ok _ c.user _ (user_of-found params c.user found.username_star found.userhash)
    ∙ rw found.opaque refl

-- credentials that are written read back
pub read_back : (item : Item) (c : Credentials) (params : List Param) → item ≡ digest_item params → params ≡ credentials_params c → IsCredentials c
    → credentials_of (params_of item.rest) ≡ Ok c
read_back item c params whole written form =
    rw (whole, written) (credentials_of-found (credentials_params c) c form (Finds-credentials_params c))
