-- How a text of spaces names what a space offers.
use Rattle.std.specs.Prelude.{◌≡◌, ◌<◌, ℕ, Bool, true, false, ◌&&◌, not, List, [], ◌++◌, length, map, codes}
use Rattle.std.specs.Bool.{beq}
use Rattle.std.specs.List.{join_with_byte, list_any}
use Rattle.auth_hash.specs.Algorithm.{algorithm_name, same_algorithm}
use Rattle.spaces_map.specs.Follows.{EachFits}
use Rattle.spaces_map.specs.declared.space.Offer.{Offer}
use Rattle.spaces_map.specs.declared.space.OfferKind.{OfferKind}
use Rattle.spaces_map.specs.declared.space.OfferKind.TheVariants.{Digest, ScramSha256}

-- what stands at the end where the flag is set
abbrev pub flag_text : List ℕ → Bool → List ℕ
flag_text flag true = flag
flag_text flag false = []

-- the name of a kind, that of a session variant with `-sess`
abbrev pub kind_name : OfferKind → List ℕ
kind_name (Digest alg session) = algorithm_name alg ++ flag_text (codes "-sess") session
kind_name ScramSha256 = codes "SCRAM-SHA-256"

-- an offer: the name of its kind, then `+int`, then `+hash`
abbrev pub offer_text : Offer → List ℕ
offer_text offer = (kind_name offer.kind ++ flag_text (codes "+int") offer.auth_int) ++ flag_text (codes "+hash") offer.userhash

-- the offers with a comma between each two
abbrev pub kinds_text : List Offer → List ℕ
kinds_text offers = join_with_byte 44 (map offer_text offers)

-- whether two kinds are one
abbrev pub same_kind : OfferKind → OfferKind → Bool
same_kind (Digest a s) (Digest b t) = same_algorithm a b && beq s t
same_kind ScramSha256 ScramSha256 = true
same_kind (Digest a s) ScramSha256 = false
same_kind ScramSha256 (Digest b t) = false

-- whether an offer is of this kind
abbrev pub has_kind : OfferKind → List Offer → Bool
has_kind kind offers = list_any (λ offer. same_kind offer.kind kind) offers

-- whether a kind may have these flags: what they say is of Digest alone
abbrev pub takes_flags : OfferKind → Bool → Bool → Bool
takes_flags (Digest alg session) auth_int userhash = true
takes_flags ScramSha256 auth_int userhash = not auth_int && not userhash

-- the offer has no flag that its kind may not have, and is of another kind than each before it
pub record IsOther (before : List Offer) (offer : Offer) : Type 0 where
  pub flags : takes_flags offer.kind offer.auth_int offer.userhash ≡ true
  pub apart : has_kind offer.kind before ≡ false

-- offers that a space may have: at least one, no two of one kind
pub record IsOffers (offers : List Offer) : Type 0 where
  pub some : 0 < length offers
  pub apart : EachFits IsOther [] offers
