-- Which challenge is answered (RFC 7616 section 3.7, RFC 7804 section 5).
use Rattle.std.specs.Prelude.{ℕ, List, [], ◌∷◌, Option, Some, None, is_none, Bool, false, not, ◌&&◌, if◌then◌else◌, codes, position}
use Rattle.std.specs.Option.{option_map_or}
use Rattle.std.specs.Result.{result_ok}
use Rattle.auth_grammar.specs.declared.items.Item.{Item}
use Rattle.auth_grammar.specs.Names.{has_repeat, params_of, same_name, value_of}
use Rattle.auth_hash.specs.Algorithm.{same_algorithm}
use Rattle.auth_hash.specs.declared.algorithm.Algorithm.{Algorithm}
use Rattle.auth_hash.specs.declared.algorithm.Algorithm.TheVariants.{Md5, Sha256, Sha512t256}
use Rattle.digest_fields.specs.Challenge.{Challenge, challenge_of}
use Rattle.client_core.specs.declared.choice.Choice.{Choice}
use Rattle.client_core.specs.declared.choice.Choice.TheVariants.{Nothing, Digest, Scram}

-- the item is of that scheme, and no name comes twice in it
abbrev pub is_sound : List ℕ → Item → Bool
is_sound scheme item = same_name item.scheme scheme && not (has_repeat (params_of item.rest))

-- the item begins an exchange of SCRAM-SHA-256, since it doesn't go on with one
abbrev pub is_scram : Item → Bool
is_scram item = is_sound (codes "SCRAM-SHA-256") item && is_none (value_of (codes "sid") (params_of item.rest))

-- the challenge that the item is, where it is one of Digest whose parameters are accepted
abbrev pub offered : Item → Option Challenge
offered item = if is_sound (codes "Digest") item then result_ok (challenge_of (params_of item.rest)) else None

-- the item is such a challenge by that hash, as a session variant or not
abbrev pub is_digest : Algorithm → Item → Bool
is_digest alg item = option_map_or (λ c. same_algorithm c.kind.alg alg) (offered item) false

-- the first place that there is
abbrev pub first_place : List (Option ℕ) → Option ℕ
first_place [] = None
first_place (Some at ∷ places) = Some at
first_place (None ∷ places) = first_place places

-- the best hash that is offered, in the order in which a client prefers them
abbrev pub digest_place : List Item → Option ℕ
digest_place items =
    first_place (position (is_digest Sha512t256) items ∷ position (is_digest Sha256) items ∷ position (is_digest Md5) items ∷ [])

abbrev pub digest_choice : Option ℕ → Choice
digest_choice (Some at) = Digest at
digest_choice None = Nothing

abbrev pub scram_choice : Option ℕ → Choice → Choice
scram_choice (Some at) other = Scram at
scram_choice None other = other

-- which item is answered: SCRAM-SHA-256 goes first, and of equals the first counts
abbrev pub choice_of : List Item → Choice
choice_of items = scram_choice (position is_scram items) (digest_choice (digest_place items))
