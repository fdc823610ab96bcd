-- Demands that a value meets.
use Rattle.std.proofs.Common.{◌≡◌, ℕ, ◌<◌, ◌≤◌, true, false, List, length, Option, Some, refl, ap, ◌∙◌, arith}
use Rattle.std.specs.Prelude.{Result, Ok, Err, codes, ◌==◌, not, ◌&&◌, ◌||◌, Bool, IsTrue, nat_le, unwrap_or, if◌then◌else◌}
use Rattle.std.specs.List.{list_all}
use Rattle.std.specs.Option.{ok_or}
use Rattle.auth_grammar.specs.Plain.{is_plain_byte}
use Rattle.std.proofs.lemmas.Bool.{and_parts, cond-true, cond-false, false≢true, le-ltb, leb-true, ne_eqb, not-true, not_from_true}
use Rattle.auth_grammar.specs.declared.items.Param.{Param}
use Rattle.auth_hash.specs.declared.algorithm.Algorithm.{Algorithm}
use Rattle.auth_hash.specs.declared.algorithm.Algorithm.TheVariants.{Md5, Sha256, Sha512t256}
use Rattle.auth_hash.specs.declared.algorithm.Qop.{Qop}
use Rattle.auth_hash.specs.declared.algorithm.Qop.TheVariants.{Auth, AuthInt}
use Rattle.auth_hash.specs.Qop.{qop_name}
use Rattle.digest_fields.specs.declared.field.FieldError.{FieldError}
use Rattle.digest_fields.specs.declared.field.FieldError.TheVariants.{BadValue, Missing}
use Rattle.digest_fields.specs.declared.field.FieldName.{FieldName}
use Rattle.digest_fields.specs.declared.field.FieldName.TheVariants as field
use Rattle.digest_fields.specs.declared.kind.Kind.{Kind}
use Rattle.digest_fields.specs.declared.qop.Offer.{Offer}
use Rattle.digest_fields.specs.Challenge.{nonce_of, offer_text}
use Rattle.digest_fields.specs.Credentials.{IsCnonce, cnonce_of, uri_of}
use Rattle.digest_fields.specs.Field.{at_most, given, not_empty, required, ◌>>=◌}
use Rattle.digest_fields.specs.Kind.{kind_name, kind_named, kind_of}
use Rattle.digest_fields.specs.Name.{IsName, name_from}
use Rattle.digest_fields.specs.Nc.{IsNc, is_nc_text, nc_from, nc_number, nc_of}
use Rattle.digest_fields.specs.Qop.{has_part, is_blank, is_part, offer_in, offer_of, past_blanks, qop_from, qop_named, qop_of}
use Rattle.digest_fields.specs.Realm.{IsRealm, realm_of}

-- a demand that is met
pub bind-ok : {A B : Type 0} (r : Result A FieldError) (value : A) (next : A → Result B FieldError) → r ≡ Ok value → (r >>= next) ≡ next value
bind-ok r value next met = ap (λ x. x >>= next) met

-- a parameter that is there
pub required-ok : (name : FieldName) (params : List Param) (value : List ℕ) → given name params ≡ Some value → required name params ≡ Ok value
unfolding required
required-ok name params value there = ap (λ (o : Option (List ℕ)). ok_or o (Missing name)) there

-- a value within its limit
pub at_most-ok : (limit : ℕ) (name : FieldName) (value : List ℕ) → length value ≤ limit → at_most limit name value ≡ Ok value
unfolding at_most
at_most-ok limit name value short = cond-false _ _ _ (le-ltb limit (length value) short)

-- a value that isn't empty
pub not_empty-ok : (name : FieldName) (value : List ℕ) → 0 < length value → not_empty name value ≡ Ok value
unfolding not_empty
not_empty-ok name value some = cond-false _ _ _ (ne_eqb (length value) 0 (λ none. omega (arith, none, some)))

-- a realm
pub realm_of-ok : (params : List Param) (realm : List ℕ) → given field.Realm params ≡ Some realm → IsRealm realm → realm_of params ≡ Ok realm
unfolding realm_of
realm_of-ok params realm there form =
    bind-ok _ realm _ (required-ok field.Realm params realm there)
    ∙ bind-ok _ realm _ (at_most-ok 64 field.Realm realm form.short)
    ∙ cond-true _ _ _ form.printable

-- a kind has its name
kind_named-parts : (alg : Algorithm) (session : Bool)
    → kind_named (kind_name (record { alg = alg; session = session })) ≡ Some (record { alg = alg; session = session })
unfolding kind_named kind_name
kind_named-parts Md5 false = refl
kind_named-parts Md5 true = refl
kind_named-parts Sha256 false = refl
kind_named-parts Sha256 true = refl
kind_named-parts Sha512t256 false = refl
kind_named-parts Sha512t256 true = refl

-- the kind of its own name
pub kind_of-ok : (params : List Param) (kind : Kind) → given field.Algorithm params ≡ Some (kind_name kind) → kind_of params ≡ Ok kind
unfolding kind_of
kind_of-ok params kind there =
    ap (λ (o : Option (List ℕ)). ok_or (kind_named (unwrap_or o (codes "MD5"))) (BadValue field.Algorithm)) there
    ∙ ap (λ (o : Option Kind). ok_or o (BadValue field.Algorithm)) (kind_named-parts kind.alg kind.session)

-- the nonce of a challenge
pub nonce_of-ok : (params : List Param) (nonce : List ℕ) → given field.Nonce params ≡ Some nonce → 0 < length nonce → nonce_of params ≡ Ok nonce
unfolding nonce_of
nonce_of-ok params nonce there some = bind-ok _ nonce _ (required-ok field.Nonce params nonce there) ∙ not_empty-ok field.Nonce nonce some

-- what is offered reads back
offer_in-text : (auth auth_int : Bool) → IsTrue (auth || auth_int) → offer_in (offer_text auth auth_int) ≡ record { auth = auth; auth_int = auth_int }
unfolding has_part is_part past_blanks is_blank
offer_in-text true true some = refl
offer_in-text true false some = refl
offer_in-text false true some = refl
offer_in-text false false some = absurd (false≢true some)

-- what a challenge offers
pub offer_of-ok : (params : List Param) (auth auth_int : Bool) → given field.Qop params ≡ Some (offer_text auth auth_int) → IsTrue (auth || auth_int)
    → offer_of params ≡ Ok (record { auth = auth; auth_int = auth_int })
unfolding offer_of
offer_of-ok params auth auth_int there some =
    let next : Offer → Result Offer FieldError = λ offer. if offer.auth || offer.auth_int then Ok offer else Err (BadValue field.Qop) in
    bind-ok _ (offer_text auth auth_int) _ (required-ok field.Qop params _ there)
    ∙ ap next (offer_in-text auth auth_int some)
    ∙ cond-true _ _ _ some

-- the quality of its own name
qop_named-name : (qop : Qop) → qop_named (qop_name qop) ≡ Some qop
unfolding qop_named
qop_named-name Auth = refl
qop_named-name AuthInt = refl

-- the quality that its name says
pub qop_from-ok : (qop : Qop) → qop_from (qop_name qop) ≡ Ok qop
unfolding qop_from
qop_from-ok qop = ap (λ (o : Option Qop). ok_or o (BadValue field.Qop)) (qop_named-name qop)

-- the quality that credentials take
pub qop_of-ok : (params : List Param) (qop : Qop) → given field.Qop params ≡ Some (qop_name qop) → qop_of params ≡ Ok qop
unfolding qop_of
qop_of-ok params qop there = bind-ok _ (qop_name qop) _ (required-ok field.Qop params _ there) ∙ qop_from-ok qop

-- a count
pub nc_from-ok : (text : List ℕ) → IsNc text → nc_from text ≡ Ok text
unfolding nc_from
nc_from-ok text form =
    let parts = and_parts (is_nc_text text) (not (nc_number text == 0)) form in
    cond-false _ _ _ (not_from_true (is_nc_text text) parts.0) ∙ cond-false _ _ _ (not-true (nc_number text == 0) parts.1)

-- the count that the parameters say
pub nc_of-ok : (params : List Param) (text : List ℕ) → given field.Nc params ≡ Some text → IsNc text → nc_of params ≡ Ok text
unfolding nc_of
nc_of-ok params text there form = bind-ok _ text _ (required-ok field.Nc params text there) ∙ nc_from-ok text form

-- a name
pub name_from-ok : (name : FieldName) (text : List ℕ) → IsName text → name_from name text ≡ Ok text
unfolding name_from
name_from-ok name text form =
    let parts = and_parts (nat_le 1 (length text) && nat_le (length text) 64) (list_all is_plain_byte text) form in
    let bounds = and_parts (nat_le 1 (length text)) (nat_le (length text) 64) parts.0 in
    bind-ok _ text _ (at_most-ok 64 name text (leb-true (length text) 64 bounds.1)) ∙ cond-true _ _ _ form

-- the target that was asked for
pub uri_of-ok : (params : List Param) (uri : List ℕ) → given field.Uri params ≡ Some uri → 0 < length uri → uri_of params ≡ Ok uri
unfolding uri_of
uri_of-ok params uri there some = bind-ok _ uri _ (required-ok field.Uri params uri there) ∙ not_empty-ok field.Uri uri some

-- the client's nonce
pub cnonce_of-ok : (params : List Param) (cnonce : List ℕ) → given field.Cnonce params ≡ Some cnonce → IsCnonce cnonce → cnonce_of params ≡ Ok cnonce
unfolding cnonce_of
cnonce_of-ok params cnonce there form =
    bind-ok _ cnonce _ (required-ok field.Cnonce params cnonce there)
    ∙ bind-ok _ cnonce _ (at_most-ok 128 field.Cnonce cnonce form.short)
    ∙ not_empty-ok field.Cnonce cnonce form.there
