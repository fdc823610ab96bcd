-- The fields in which a server or a proxy authenticates its clients (RFC 9110 sections 11.6 and 11.7, RFC 8053 section 3, RFC 7615).
use Rattle.std.specs.Prelude.{ℕ, List, codes}
use Rattle.auth_grammar.specs.Names.{lower}
use Rattle.auth_grammar.specs.declared.items.Role.{Role}
use Rattle.auth_grammar.specs.declared.items.Role.TheVariants.{Origin, Proxy}

-- the field with challenges
abbrev pub challenge_name : Role → List ℕ
challenge_name Origin = codes "WWW-Authenticate"
challenge_name Proxy = codes "Proxy-Authenticate"

-- what is offered where no user is needed; a proxy, which always needs one, challenges
abbrev pub offer_name : Role → List ℕ
offer_name Origin = codes "Optional-WWW-Authenticate"
offer_name Proxy = challenge_name Proxy

-- the field in which the server proves itself
abbrev pub info_name : Role → List ℕ
info_name Origin = codes "Authentication-Info"
info_name Proxy = codes "Proxy-Authentication-Info"

-- the field with credentials
abbrev pub credentials_name : Role → List ℕ
credentials_name Origin = codes "Authorization"
credentials_name Proxy = codes "Proxy-Authorization"

-- the same in lower case
abbrev pub credentials_field : Role → List ℕ
credentials_field role = lower (credentials_name role)
