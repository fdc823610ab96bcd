-- Credentials of Digest (RFC 7616 section 3.4).
use Rattle.std.specs.Prelude.{◌≡◌, ◌⊎◌, ℕ, ◌+◌, ◌-◌, ◌^◌, nat_lt, List, Option, Some, None, is_some, Bool, false, ◌&&◌, if◌then◌else◌}
use Rattle.auth_hash.specs.declared.algorithm.Qop.{Qop}
use Rattle.auth_hash.specs.declared.algorithm.Qop.TheVariants.{Auth, AuthInt}
use Rattle.auth_grammar.specs.declared.items.Role.{Role}
use Rattle.digest_fields.specs.Challenge.{Challenge}
use Rattle.digest_fields.specs.Credentials.{Credentials, credentials_item}
use Rattle.digest_fields.specs.Nc.{nc_text}
use Rattle.digest_fields.specs.declared.kind.Kind.{Kind}
use Rattle.digest_fields.specs.declared.name.UserName.{UserName}
use Rattle.digest_fields.specs.declared.name.UserName.TheVariants.{Plain, Hashed}
use Rattle.digest_formulas.specs.Responses.{response_value}
use Rattle.digest_formulas.specs.Secrets.{secret_of, session_secret, user_hash}
use Rattle.client_core.specs.declared.digest.Draw.{Draw}
use Rattle.client_core.specs.declared.request.OutRequest.{OutRequest}
use Rattle.client_core.specs.declared.request.Sent.{Sent}
use Rattle.client_core.specs.declared.request.Sent.TheVariants as sent
use Rattle.client_core.specs.declared.state.Chosen.{Chosen}
use Rattle.client_core.specs.declared.state.Chosen.TheVariants.{Nothing, Digest, Scram}
use Rattle.client_core.specs.declared.state.DigestChoice.{DigestChoice}
use Rattle.client_core.specs.declared.state.State.{State}
use Rattle.client_core.specs.declared.state.User.{User}
use Rattle.client_core.specs.Cnonces.{cnonce_of}
use Rattle.client_core.specs.Counts.{Drawn, count_of, with_count}
use Rattle.client_core.specs.Domains.{lets_pass}

-- ---- the credentials

-- `auth` where it is offered
abbrev pub qop_of : Challenge → Qop
qop_of c = if c.auth then Auth else AuthInt

-- the name itself, or its hash where the server takes hashed names
abbrev pub user_name : User → Challenge → UserName
user_name user c = if c.userhash then Hashed (user_hash c.kind.alg user.name c.realm) else Plain user.name

-- the secret of the user; in a session, that of its nonce and its first cnonce
abbrev pub secret_with : User → Kind → List ℕ → List ℕ → List ℕ → List ℕ
secret_with user kind realm nonce cnonce =
    let secret = secret_of kind.alg user.name realm user.password in
    if kind.session then session_secret kind.alg secret nonce cnonce else secret

-- the credentials for a request
abbrev pub credentials_with : User → Challenge → Draw → OutRequest → Credentials
credentials_with user c draw request = record {
  user = user_name user c;
  realm = c.realm;
  nonce = draw.nonce;
  uri = request.target;
  response = response_value c.kind.alg (secret_with user c.kind c.realm draw.nonce draw.cnonce) draw.nonce (nc_text draw.count)
      draw.cnonce (qop_of c) request.method request.target request.body;
  kind = c.kind;
  cnonce = draw.cnonce;
  opaque = c.opaque;
  qop = qop_of c;
  nc = nc_text draw.count;
}

-- ---- when they are given

-- the nonce has a count left, and the challenge is for such a request
abbrev pub can_use : Role → Drawn → DigestChoice → List ℕ → OutRequest → Bool
can_use role drawn choice nonce request = nat_lt (count_of drawn nonce) (2 ^ 32 - 1) && lets_pass role choice.challenge.domain request

-- the nonce's next count
abbrev pub next_draw : Drawn → DigestChoice → List ℕ → List ℕ → Draw
next_draw drawn choice nonce words = record { nonce = nonce; count = count_of drawn nonce + 1; cnonce = cnonce_of choice words }

-- the choice behind the credentials: a session keeps its first cnonce
abbrev pub used : DigestChoice → Draw → DigestChoice
used choice draw = if choice.challenge.kind.session then record choice { prime = Some draw.cnonce } else choice

-- what the client keeps behind them
abbrev pub after_draw : State → DigestChoice → Draw → State
after_draw s choice draw = record s { choice = Digest (used choice draw); drawn = with_count s.drawn draw.nonce draw.count }

abbrev pub given_with : State → DigestChoice → Draw → OutRequest → Sent × State
given_with s choice draw request =
    (sent.Digest (credentials_item (credentials_with s.user choice.challenge draw request)), after_draw s choice draw)

abbrev pub given_by_nonce : State → OutRequest → List ℕ → DigestChoice → Option (List ℕ) → Sent × State
given_by_nonce s request words choice None = (sent.Nothing, s)
given_by_nonce s request words choice (Some nonce) =
    if can_use s.role s.drawn choice nonce request then given_with s choice (next_draw s.drawn choice nonce words) request
    else (sent.Nothing, s)

-- what is given, and what the client keeps behind it
abbrev pub digest_given : State → OutRequest → List ℕ → Chosen → Sent × State
digest_given s request words Nothing = (sent.Nothing, s)
digest_given s request words (Scram choice) = (sent.Nothing, s)
digest_given s request words (Digest choice) = given_by_nonce s request words choice choice.nonce

-- ---- whether there is a nonce

abbrev pub has_nonce_in : Chosen → Bool
has_nonce_in Nothing = false
has_nonce_in (Digest choice) = is_some choice.nonce
has_nonce_in (Scram choice) = false

-- the client has a nonce of Digest
abbrev pub has_nonce : State → Bool
has_nonce s = has_nonce_in s.choice

-- ---- want of memory

-- The client is as it was, but that one count more may be drawn.
abbrev pub DrewAtMost : State → State → Type 0
DrewAtMost s t = (t ≡ s) ⊎ ((nonce : List ℕ) × (t ≡ record s { drawn = with_count s.drawn nonce (count_of s.drawn nonce + 1) }))
