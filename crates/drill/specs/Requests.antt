-- What goes from the client to the server, and back.
use Rattle.std.specs.Prelude.{ℕ, List, [], ◌∷◌, codes, false, length, nat_le, Bool, ◌&&◌}
use Rattle.std.specs.List.{list_all}
use Rattle.auth_grammar.specs.Valid.{is_valid}
use Rattle.auth_grammar.specs.Writing.{items_text}
use Rattle.auth_grammar.specs.declared.items.Item.{Item}
use Rattle.auth_grammar.specs.declared.items.Quoting.TheVariants as quoting
use Rattle.client_core.specs.declared.request.OutRequest.{OutRequest}
use Rattle.http_wire.specs.declared.request.Request.{Request}
use Rattle.http_wire.specs.declared.response.Response.{Response}

-- a GET of `/`, as the client knows it
abbrev pub out_request : OutRequest
out_request = record { method = codes "GET"; authority = codes "drill"; target = codes "/"; body = [] }

-- the same as the server gets it, without credentials
abbrev pub plain_request : Request
plain_request = record { method = codes "GET"; target = codes "/"; minor = 1; fields = []; body = []; closes = false }

-- the line of credentials
abbrev pub credentials_line : Item → List ℕ
credentials_line item = items_text quoting.Credentials (item ∷ [])

-- the request with these credentials
abbrev pub request_with : Item → Request
request_with item = record plain_request { fields = (codes "authorization", credentials_line item) ∷ [] }

-- an item that can be written, on a line that a head has room for
abbrev pub can_send : Item → Bool
can_send item = is_valid item && nat_le (length (credentials_line item)) 16000

-- a challenge of these items
abbrev pub challenge_line : List Item → List ℕ
challenge_line items = items_text quoting.Challenge items

abbrev pub response_with : List Item → Response
response_with items = record { status = 401; fields = (codes "www-authenticate", challenge_line items) ∷ []; body = [] }

-- the same of a challenge
abbrev pub can_answer : List Item → Bool
can_answer items = list_all is_valid items && nat_le (length (challenge_line items)) 16000
