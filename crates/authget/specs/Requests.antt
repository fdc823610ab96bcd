-- The request for a URL (RFC 9112 section 3), and the reply to it.
use Rattle.std.specs.Prelude.{ℕ, ◌≤◌, false, length, List, [], ◌∷◌, Option, Some, None, codes}
use Rattle.auth_grammar.specs.RoleFields.{credentials_name}
use Rattle.auth_grammar.specs.Writing.{items_text}
use Rattle.auth_grammar.specs.declared.items.Item.{Item}
use Rattle.auth_grammar.specs.declared.items.Quoting.TheVariants.{Credentials}
use Rattle.auth_grammar.specs.declared.items.Role.{Role}
use Rattle.auth_grammar.specs.declared.items.Role.TheVariants.{Origin, Proxy}
use Rattle.client_core.specs.declared.request.OutRequest.{OutRequest}
use Rattle.client_core.specs.declared.request.Sent.{Sent}
use Rattle.client_core.specs.declared.request.Sent.TheVariants as sent
use Rattle.http_wire.specs.RequestTexts.{request_text}
use Rattle.http_wire.specs.ResponseFeed.{at_end}
use Rattle.http_wire.specs.Responses.{ResponseFront, Incomplete, Open, Complete, Broken, response_front}
use Rattle.http_wire.specs.declared.pair.Pair.{Pair}
use Rattle.http_wire.specs.declared.response.Response.{Response}
use Rattle.authget.specs.Urls.{path_of}
use Rattle.authget.specs.declared.plan.Plan.{Plan}

-- whose challenges are answered
abbrev pub role_of : Option (List ℕ) → Role
role_of None = Origin
role_of (Some proxy) = Proxy

-- what is dialled: the proxy, or the server itself
abbrev pub peer_by : Option (List ℕ) → List ℕ → List ℕ
peer_by None authority = authority
peer_by (Some proxy) authority = proxy

abbrev pub peer_of : Plan → List ℕ
peer_of plan = peer_by plan.proxy plan.authority

-- ---- requests

-- a proxy is asked for the whole URL
abbrev pub target_of : Option (List ℕ) → List ℕ → List ℕ
target_of None url = path_of url
target_of (Some proxy) url = url

abbrev pub request_for : Plan → List ℕ → OutRequest
request_for plan url = record { method = codes "GET"; authority = plan.authority; target = target_of plan.proxy url; body = [] }

-- the target isn't empty
abbrev pub HasTarget : Plan → List ℕ → Type 0
HasTarget plan url = 1 ≤ length (target_of plan.proxy url)

abbrev pub line_with : Role → Item → List Pair
line_with role item = record { name = credentials_name role; value = items_text Credentials (item ∷ []) } ∷ []

-- the line with these credentials, if there are any
abbrev pub lines_with : Role → Sent → List Pair
lines_with role sent.Nothing = []
lines_with role (sent.Digest item) = line_with role item
lines_with role (sent.ScramFirst item) = line_with role item
lines_with role (sent.ScramFinal item) = line_with role item
lines_with role (sent.ScramAgain item) = line_with role item

-- the text of a request with these credentials
abbrev pub text_with : Plan → List ℕ → Sent → List ℕ
text_with plan url what = request_text (codes "GET") (target_of plan.proxy url) plan.authority (lines_with (role_of plan.proxy) what) []

-- ---- replies

abbrev pub response_in : ResponseFront → Option Response
response_in (Incomplete at) = None
response_in (Open response) = Some response
response_in (Complete response rest) = Some response
response_in (Broken at) = None

-- The response in all the bytes of a connection, or None where they are none or end inside.
abbrev pub reply_in : List ℕ → Option Response
reply_in bytes = response_in (at_end (response_front false 0 bytes))
