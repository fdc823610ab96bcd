-- The credentials that a protection space takes (RFC 7616 sections 3.3 and 3.4).
use Rattle.std.specs.Prelude.{ℕ, Bool, true, false, ◌&&◌, bytes_eq, if◌then◌else◌, List, Option, Some, None}
use Rattle.std.specs.Bool.{beq}
use Rattle.std.specs.List.{list_any}
use Rattle.std.specs.Option.{option_and_then, option_map}
use Rattle.auth_hash.specs.Algorithm.{same_algorithm}
use Rattle.auth_hash.specs.declared.algorithm.Qop.{Qop}
use Rattle.auth_hash.specs.declared.algorithm.Qop.TheVariants.{Auth, AuthInt}
use Rattle.cred_store.specs.LookUps.{secret_of, name_of_hash}
use Rattle.cred_store.specs.declared.entry.Entry.{Entry}
use Rattle.digest_fields.specs.Credentials.{Credentials}
use Rattle.digest_fields.specs.declared.name.UserName.{UserName}
use Rattle.digest_fields.specs.declared.name.UserName.TheVariants.{Plain, Hashed}
use Rattle.digest_fields.specs.declared.kind.Kind.{Kind}
use Rattle.spaces_map.specs.declared.space.Space.{Space}
use Rattle.spaces_map.specs.declared.space.Offer.{Offer}
use Rattle.spaces_map.specs.declared.space.OfferKind.{OfferKind}
use Rattle.spaces_map.specs.declared.space.OfferKind.TheVariants.{Digest, ScramSha256}
use Rattle.auth_decide.specs.declared.candidate.Candidate.{Candidate}

-- whether an offer is of a kind
abbrev pub offers_kind : OfferKind → Kind → Bool
offers_kind (Digest alg session) kind = same_algorithm alg kind.alg && beq session kind.session
offers_kind ScramSha256 kind = false

-- whether an offer has a quality of protection: `auth` always, `auth-int` where it says so
abbrev pub offers_qop : Offer → Qop → Bool
offers_qop offer Auth = true
offers_qop offer AuthInt = offer.auth_int

-- whether the space has the credentials' realm, and an offer of their kind and quality of protection
abbrev pub is_offered : Space → Credentials → Bool
is_offered space c =
    bytes_eq c.realm space.realm && list_any (λ offer. offers_kind offer.kind c.kind && offers_qop offer c.qop) space.offers

-- the user that is named, or whose name has this hash (RFC 7616 section 3.4.4)
abbrev pub user_of : List Entry → Credentials → UserName → Option (List ℕ)
user_of store c (Plain name) = Some name
user_of store c (Hashed hash) = name_of_hash hash c.realm c.kind.alg store

abbrev pub with_secret : Credentials → List ℕ → List ℕ → Candidate
with_secret c user secret = record { credentials = c; user = user; secret = secret }

-- the credentials with the secret of this user
abbrev pub with_user : List Entry → Credentials → List ℕ → Option Candidate
with_user store c user = option_map (with_secret c user) (secret_of user c.realm c.kind.alg store)

-- the credentials with their user and its secret, where the space offers to take them and the store has the secret
abbrev pub candidate_of : Space → List Entry → Credentials → Option Candidate
candidate_of space store c = if is_offered space c then option_and_then (with_user store c) (user_of store c c.user) else None
