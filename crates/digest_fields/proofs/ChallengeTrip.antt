-- A challenge that is written reads back.
use Rattle.std.proofs.Common.{◌≡◌, Bool, true, false, cond, List, Some, None, codes, refl, ◌∙◌}
use Rattle.std.specs.Prelude.{Ok}
use Rattle.auth_grammar.specs.declared.items.Item.{Item}
use Rattle.auth_grammar.specs.declared.items.Param.{Param}
use Rattle.auth_grammar.specs.Names.{params_of}
use Rattle.digest_fields.specs.declared.field.FieldName.TheVariants as field
use Rattle.digest_fields.specs.Challenge.{Challenge, IsChallenge, challenge_of, challenge_params, hides_names, is_stale, offer_text}
use Rattle.digest_fields.specs.Field.{given}
use Rattle.digest_fields.specs.Kind.{kind_name}
use Rattle.digest_fields.specs.Write.{digest_item}
use Rattle.digest_fields.proofs.Lookups.{lookups}
use Rattle.digest_fields.proofs.Rows.{bind-ok, kind_of-ok, nonce_of-ok, offer_of-ok, realm_of-ok}

-- the parameters by name
pub record Finds (params : List Param) (c : Challenge) : Type 0 where
  pub realm : given field.Realm params ≡ Some c.realm
  pub domain : given field.Domain params ≡ c.domain
  pub nonce : given field.Nonce params ≡ Some c.nonce
  pub opaque : given field.Opaque params ≡ c.opaque
  pub stale : given field.Stale params ≡ cond c.stale (Some (codes "true")) None
  pub kind : given field.Algorithm params ≡ Some (kind_name c.kind)
  pub offer : given field.Qop params ≡ Some (offer_text c.auth c.auth_int)
  pub userhash : given field.Userhash params ≡ cond c.userhash (Some (codes "true")) None

-- what was written is found
Finds-challenge_params : (c : Challenge) → Finds (challenge_params c) c
unfolding challenge_params
Finds-challenge_params c = record {
  realm = simp lookups;
  domain = simp lookups;
  nonce = simp lookups;
  opaque = simp lookups;
  stale = simp lookups;
  kind = simp lookups;
  offer = simp lookups;
  userhash = simp lookups;
}

-- `stale` reads back
is_stale-found : (params : List Param) (flag : Bool) → given field.Stale params ≡ cond flag (Some (codes "true")) None → is_stale params ≡ flag
unfolding is_stale
is_stale-found params true found = rw found refl
is_stale-found params false found = rw found refl

-- `userhash` reads back
hides_names-found : (params : List Param) (flag : Bool) → given field.Userhash params ≡ cond flag (Some (codes "true")) None → hides_names params ≡ flag
unfolding hides_names
hides_names-found params true found = rw found refl
hides_names-found params false found = rw found refl

-- a challenge is read where its parameters are found
challenge_of-found : (params : List Param) (c : Challenge) → IsChallenge c → Finds params c → challenge_of params ≡ Ok c
unfolding challenge_of
challenge_of-found params c form found =
    bind-ok _ c.realm _ (realm_of-ok params c.realm found.realm form.realm_form)
    ∙ bind-ok _ c.nonce _ (nonce_of-ok params c.nonce found.nonce form.nonce_there)
    ∙ bind-ok _ c.kind _ (kind_of-ok params c.kind found.kind)
    ∙ bind-ok _ (record { auth = c.auth; auth_int = c.auth_int }) _ (offer_of-ok params c.auth c.auth_int found.offer form.offers_some)
    ∙ rw (found.domain, found.opaque, is_stale-found params c.stale found.stale, hides_names-found params c.userhash found.userhash) refl

-- a challenge that is written reads back
pub read_back : (item : Item) (c : Challenge) (params : List Param) → item ≡ digest_item params → params ≡ challenge_params c → IsChallenge c
    → challenge_of (params_of item.rest) ≡ Ok c
read_back item c params whole written form =
    rw (whole, written) (challenge_of-found (challenge_params c) c form (Finds-challenge_params c))
