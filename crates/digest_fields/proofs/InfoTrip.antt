-- An Authentication-Info that is written reads back.
use Rattle.std.proofs.Common.{◌≡◌, ℕ, ◌<◌, List, length, Option, Some, None, refl, ◌∙◌}
use Rattle.std.specs.Prelude.{Ok, option_map}
use Rattle.std.specs.Option.{ForSome}
use Rattle.auth_grammar.specs.declared.items.Param.{Param}
use Rattle.auth_hash.specs.declared.algorithm.Qop.{Qop}
use Rattle.auth_hash.specs.Qop.{qop_name}
use Rattle.digest_fields.specs.declared.field.FieldName.TheVariants as field
use Rattle.digest_fields.specs.Field.{given}
use Rattle.digest_fields.specs.Info.{Info, IsInfo, info_of, info_params, nextnonce_of, used_nc_of, used_qop_of}
use Rattle.digest_fields.specs.Nc.{IsNc}
use Rattle.digest_fields.proofs.Lookups.{lookups}
use Rattle.digest_fields.proofs.Rows.{bind-ok, nc_from-ok, not_empty-ok, qop_from-ok}

-- the parameters by name
pub record Finds (params : List Param) (i : Info) : Type 0 where
  pub nextnonce : given field.Nextnonce params ≡ i.nextnonce
  pub qop : given field.Qop params ≡ option_map qop_name i.qop
  pub rspauth : given field.Rspauth params ≡ i.rspauth
  pub cnonce : given field.Cnonce params ≡ i.cnonce
  pub nc : given field.Nc params ≡ i.nc

-- what was written is found
Finds-info_params : (i : Info) → Finds (info_params i) i
unfolding info_params
Finds-info_params i = record {
  nextnonce = simp lookups;
  qop = simp lookups;
  rspauth = simp lookups;
  cnonce = simp lookups;
  nc = simp lookups;
}

-- the next nonce reads back
nextnonce_of-found : (params : List Param) (nonce : Option (List ℕ)) → given field.Nextnonce params ≡ nonce
    → ForSome nonce (λ n. 0 < length n) → nextnonce_of params ≡ Ok nonce
unfolding nextnonce_of
nextnonce_of-found params None found form = rw found refl
nextnonce_of-found params (Some nonce) found form = rw found (bind-ok _ nonce _ (not_empty-ok field.Nextnonce nonce (form nonce refl)))

-- the quality of protection reads back
used_qop_of-found : (params : List Param) (qop : Option Qop) → given field.Qop params ≡ option_map qop_name qop → used_qop_of params ≡ Ok qop
unfolding used_qop_of
used_qop_of-found params None found = rw found refl
used_qop_of-found params (Some qop) found = rw found (bind-ok _ qop _ (qop_from-ok qop))

-- the count reads back
used_nc_of-found : (params : List Param) (nc : Option (List ℕ)) → given field.Nc params ≡ nc → ForSome nc IsNc → used_nc_of params ≡ Ok nc
unfolding used_nc_of
used_nc_of-found params None found form = rw found refl
used_nc_of-found params (Some nc) found form = rw found (bind-ok _ nc _ (nc_from-ok nc (form nc refl)))

-- an Authentication-Info is read where its parameters are found
info_of-found : (params : List Param) (i : Info) → IsInfo i → Finds params i → info_of params ≡ Ok i
unfolding info_of
info_of-found params i form found =
    bind-ok _ i.nextnonce _ (nextnonce_of-found params i.nextnonce found.nextnonce form.nextnonce_there)
    ∙ bind-ok _ i.qop _ (used_qop_of-found params i.qop found.qop)
    ∙ bind-ok _ i.nc _ (used_nc_of-found params i.nc found.nc form.nc_form)
    ∙ rw (found.rspauth, found.cnonce) refl

-- an Authentication-Info that is written reads back
pub read_back : (params : List Param) (i : Info) → params ≡ info_params i → IsInfo i → info_of params ≡ Ok i
read_back params i written form = rw written (info_of-found (info_params i) i form (Finds-info_params i))
