-- What can be written of what a client keeps (RFC 9110 section 5.6.4).
use Rattle.std.specs.Prelude.{◌≡◌, ℕ, List, Option, Some, None, Bool, true, ◌&&◌, IsTrue, ⊤}
use Rattle.std.specs.List.{list_all}
use Rattle.auth_grammar.specs.Valid.{are_valid_params, is_quotable_text, is_valid}
use Rattle.digest_fields.specs.Challenge.{Challenge}
use Rattle.digest_fields.specs.Credentials.{Credentials, sent_name}
use Rattle.client_core.specs.declared.digest.Draw.{Draw}
use Rattle.client_core.specs.declared.reading.Said.{Said}
use Rattle.client_core.specs.declared.reading.Said.TheVariants as said
use Rattle.client_core.specs.declared.request.Sent.{Sent}
use Rattle.client_core.specs.declared.request.Sent.TheVariants as sent
use Rattle.client_core.specs.declared.state.Chosen.{Chosen}
use Rattle.client_core.specs.declared.state.Chosen.TheVariants as chosen
use Rattle.client_core.specs.declared.state.DigestChoice.{DigestChoice}
use Rattle.client_core.specs.declared.state.Progress.{Progress}
use Rattle.client_core.specs.declared.state.Progress.TheVariants as progress
use Rattle.client_core.specs.declared.state.State.{State}

-- ---- what is kept

-- a text, if there is one, is of bytes that a quoted string can hold
abbrev pub is_quotable : Option (List ℕ) → Bool
is_quotable None = true
is_quotable (Some text) = is_quotable_text text

abbrev pub is_quotable_challenge : Challenge → Bool
is_quotable_challenge c = is_quotable_text c.realm && is_quotable c.opaque

abbrev pub is_quotable_draw : Draw → Bool
is_quotable_draw draw = is_quotable_text draw.nonce && is_quotable_text draw.cnonce

abbrev pub is_quotable_digest : DigestChoice → Bool
is_quotable_digest choice = is_quotable_challenge choice.challenge && (is_quotable choice.nonce && is_quotable choice.prime)

abbrev pub is_quotable_choice : Chosen → Bool
is_quotable_choice chosen.Nothing = true
is_quotable_choice (chosen.Digest choice) = is_quotable_digest choice
is_quotable_choice (chosen.Scram choice) = is_quotable choice.realm

abbrev pub is_quotable_progress : Progress → Bool
is_quotable_progress progress.Nothing = true
is_quotable_progress (progress.Begun first) = true
is_quotable_progress (progress.Answered x) = is_quotable_text x.sid
is_quotable_progress (progress.Finished x nonce) = is_quotable_text x.sid

-- what the client would write of its challenge and its exchange
abbrev pub is_quotable_state : State → Bool
is_quotable_state s = is_quotable_choice s.choice && is_quotable_progress s.progress

-- ---- what is read

-- it was spelled, and so it can be written
abbrev pub IsWritten : Said → Type 0
IsWritten (said.Challenge items) = IsTrue (list_all is_valid items)
IsWritten (said.Info params) = IsTrue (are_valid_params params)
IsWritten said.Nothing = ⊤
IsWritten (said.Malformed at) = ⊤

-- ---- what is given

pub record AreQuotable (c : Credentials) : Type 0 where
  pub user : is_quotable_text (sent_name c.user) ≡ true
  pub realm : is_quotable_text c.realm ≡ true
  pub nonce : is_quotable_text c.nonce ≡ true
  pub uri : is_quotable_text c.uri ≡ true
  pub response : is_quotable_text c.response ≡ true
  pub cnonce : is_quotable_text c.cnonce ≡ true
  pub opaque : is_quotable c.opaque ≡ true
  pub nc : is_quotable_text c.nc ≡ true

-- the item that is given, where one is, can be written
abbrev pub is_valid_sent : Sent → Bool
is_valid_sent sent.Nothing = true
is_valid_sent (sent.Digest item) = is_valid item
is_valid_sent (sent.ScramFirst item) = is_valid item
is_valid_sent (sent.ScramFinal item) = is_valid item
is_valid_sent (sent.ScramAgain item) = is_valid item
