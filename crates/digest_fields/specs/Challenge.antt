-- Challenges of HTTP Digest (RFC 7616 section 3.3).
use Rattle.std.specs.Prelude.{ℕ, ◌<◌, List, ◌++◌, length, codes, Option, Result, Ok, Bool, false, IsTrue, ◌||◌, if◌then◌else◌}
use Rattle.std.specs.Option.{option_map_or}
use Rattle.std.specs.Str.{bytes_eq}
use Rattle.auth_grammar.specs.declared.items.Item.{Item}
use Rattle.auth_grammar.specs.declared.items.Param.{Param}
use Rattle.auth_grammar.specs.Names.{same_name}
use Rattle.digest_fields.specs.declared.field.FieldName.TheVariants as field
use Rattle.digest_fields.specs.declared.field.FieldError.{FieldError}
use Rattle.digest_fields.specs.declared.kind.Kind.{Kind}
use Rattle.digest_fields.specs.Field.{given, not_empty, required, ◌>>=◌}
use Rattle.digest_fields.specs.Kind.{kind_name, kind_of}
use Rattle.digest_fields.specs.Qop.{offer_of}
use Rattle.digest_fields.specs.Realm.{IsRealm, realm_of}
use Rattle.digest_fields.specs.Write.{digest_item, written, written_some, written_true}

-- what a challenge says
pub record Challenge : Type 0 where
  pub realm : List ℕ
  pub domain : Option (List ℕ)
  pub nonce : List ℕ
  pub opaque : Option (List ℕ)
  pub stale : Bool
  pub kind : Kind
  pub auth : Bool
  pub auth_int : Bool
  pub userhash : Bool

-- what is demanded of a challenge
pub record IsChallenge (c : Challenge) : Type 0 where
  pub realm_form : IsRealm c.realm
  pub nonce_there : 0 < length c.nonce
  pub offers_some : IsTrue (c.auth || c.auth_int)

-- the nonce, which is there and not empty
unfoldable pub nonce_of : List Param → Result (List ℕ) FieldError
nonce_of params = do
  nonce ← required field.Nonce params
  not_empty field.Nonce nonce

-- whether only the nonce was at fault: `stale` is `true`, without regard to case
unfoldable pub is_stale : List Param → Bool
is_stale params = option_map_or (λ text. same_name text (codes "true")) (given field.Stale params) false

-- whether the server takes hashed names: `userhash` is `true`
unfoldable pub hides_names : List Param → Bool
hides_names params = option_map_or (λ text. bytes_eq text (codes "true")) (given field.Userhash params) false

-- the challenge that the parameters say, or the first refusal
unfoldable pub challenge_of : List Param → Result Challenge FieldError
challenge_of params = do
  realm ← realm_of params
  nonce ← nonce_of params
  kind ← kind_of params
  offer ← offer_of params
  Ok (record {
    realm = realm;
    domain = given field.Domain params;
    nonce = nonce;
    opaque = given field.Opaque params;
    stale = is_stale params;
    kind = kind;
    auth = offer.auth;
    auth_int = offer.auth_int;
    userhash = hides_names params;
  })

-- how an offer is written
abbrev pub offer_text : Bool → Bool → List ℕ
offer_text auth auth_int =
    if auth then (if auth_int then codes "auth, auth-int" else codes "auth") else codes "auth-int"

-- the parameters of a challenge, in the order of writing
unfoldable pub challenge_params : Challenge → List Param
challenge_params c =
    written field.Realm c.realm
    ++ written_some field.Domain c.domain
    ++ written field.Nonce c.nonce
    ++ written_some field.Opaque c.opaque
    ++ written_true field.Stale c.stale
    ++ written field.Algorithm (kind_name c.kind)
    ++ written field.Qop (offer_text c.auth c.auth_int)
    ++ written_true field.Userhash c.userhash

-- a challenge as an item
abbrev pub challenge_item : Challenge → Item
challenge_item c = digest_item (challenge_params c)
