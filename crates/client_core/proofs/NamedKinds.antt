-- The kind that a challenge names.
use Rattle.std.proofs.Common.{◌≡◌, ◌∙◌, ℕ, List, Bool, true, false, Option, Some, None, sym, ap, refl, subst}
use Rattle.std.specs.Prelude.{Result, Ok, Err, IfSome, codes, unwrap_or, if◌then◌else◌}
use Rattle.std.specs.Option.{ok_or}
use Rattle.std.specs.Result.{result_ok}
use Rattle.auth_grammar.specs.Names.{params_of, value_of}
use Rattle.auth_grammar.specs.declared.items.Item.{Item}
use Rattle.auth_grammar.specs.declared.items.Param.{Param}
use Rattle.digest_fields.specs.declared.field.FieldError.{FieldError}
use Rattle.digest_fields.specs.declared.field.FieldError.TheVariants.{BadValue}
use Rattle.digest_fields.specs.declared.field.FieldName.TheVariants as field
use Rattle.digest_fields.specs.declared.kind.Kind.{Kind}
use Rattle.digest_fields.specs.Challenge.{Challenge, challenge_of, hides_names, is_stale, nonce_of}
use Rattle.digest_fields.specs.Field.{given, ◌>>=◌}
use Rattle.digest_fields.specs.Kind.{kind_named, kind_of}
use Rattle.digest_fields.specs.Qop.{offer_of}
use Rattle.digest_fields.specs.Realm.{realm_of}
use Rattle.client_core.specs.Choices.{is_sound, offered}

-- the kind of a challenge, or its refusal
abbrev kind_in : Result Challenge FieldError → Result Kind FieldError
kind_in (Ok c) = Ok c.kind
kind_in (Err e) = Err e

-- the challenge of its parts
abbrev parted : {O : Type 0} → (O → Bool) → (O → Bool) → List Param → Result (List ℕ) FieldError → Result (List ℕ) FieldError → Result Kind FieldError → Result O FieldError → Result Challenge FieldError
parted auth auth_int params r n k o = do
  realm ← r
  nonce ← n
  kind ← k
  offer ← o
  Ok (record {
    realm = realm;
    domain = given field.Domain params;
    nonce = nonce;
    opaque = given field.Opaque params;
    stale = is_stale params;
    kind = kind;
    auth = auth offer;
    auth_int = auth_int offer;
    userhash = hides_names params;
  })

kind_parted : {O : Type 0} (auth auth_int : O → Bool) (params : List Param) (r n : Result (List ℕ) FieldError) (k : Result Kind FieldError) (o : Result O FieldError) (c : Challenge)
    → parted auth auth_int params r n k o ≡ Ok c → k ≡ Ok c.kind
kind_parted auth auth_int params (Err e) n k o c h = cc
kind_parted auth auth_int params (Ok realm) (Err e) k o c h = cc
kind_parted auth auth_int params (Ok realm) (Ok nonce) (Err e) o c h = cc
kind_parted auth auth_int params (Ok realm) (Ok nonce) (Ok kind) (Err e) c h = cc
kind_parted auth auth_int params (Ok realm) (Ok nonce) (Ok kind) (Ok offer) c h = ap kind_in h

kind_of_challenge : (params : List Param) (c : Challenge) → challenge_of params ≡ Ok c → kind_of params ≡ Ok c.kind
unfolding challenge_of
kind_of_challenge params c h = kind_parted (λ offer. offer.auth) (λ offer. offer.auth_int) params (realm_of params) (nonce_of params) (kind_of params) (offer_of params) c h

named_kind : (found : Option Kind) (e : FieldError) (kind : Kind) → ok_or found e ≡ Ok kind → found ≡ Some kind
named_kind None e kind h = cc
named_kind (Some k) e kind h = cc

told_result : (r : Result Challenge FieldError) (found : Option Kind) (e : FieldError) → ((c : Challenge) → r ≡ Ok c → ok_or found e ≡ Ok c.kind)
    → IfSome (result_ok r) (λ c. found ≡ Some c.kind)
told_result (Ok c) found e f = named_kind found e c.kind (f c refl)
told_result (Err x) found e f = tt

told_sound : (b : Bool) (o : Option Challenge) (found : Option Kind) → IfSome o (λ c. found ≡ Some c.kind) → IfSome (if b then o else None) (λ c. found ≡ Some c.kind)
told_sound true o found h = h
told_sound false o found h = tt

-- the kind that the parameter names is that of the challenge
pub kind_told : (item : Item) (name : Option (List ℕ)) (found : Option Kind) → value_of (codes "algorithm") (params_of item.rest) ≡ name
    → found ≡ kind_named (unwrap_or name (codes "MD5")) → IfSome (offered item) (λ c. found ≡ Some c.kind)
unfolding kind_of given
kind_told item name found is e =
    let params = params_of item.rest in
    let K : Option (List ℕ) → Type 0 = λ o. kind_of params ≡ ok_or (kind_named (unwrap_or o (codes "MD5"))) (BadValue field.Algorithm) in
    let here : K name = subst K is refl in
    let same : kind_of params ≡ ok_or found (BadValue field.Algorithm) = here ∙ ap (λ (o : Option Kind). ok_or o (BadValue field.Algorithm)) (sym e) in
    told_sound (is_sound (codes "Digest") item) (result_ok (challenge_of params)) found
    (told_result (challenge_of params) found (BadValue field.Algorithm) (λ c h. sym same ∙ kind_of_challenge params c h))
