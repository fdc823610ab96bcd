-- Which requests a challenge is for (RFC 7616 section 3.3: domain).
use Rattle.std.specs.Prelude.{ℕ, List, ◌++◌, length, codes, nat_eq, Option, Some, None, Bool, true, not, ◌&&◌, ◌||◌, ◌==◌}
use Rattle.std.specs.List.{list_any, slice_split, starts_with}
use Rattle.auth_grammar.specs.declared.items.Role.{Role}
use Rattle.auth_grammar.specs.declared.items.Role.TheVariants.{Origin, Proxy}
use Rattle.client_core.specs.declared.request.OutRequest.{OutRequest}

-- the request's whole URL
abbrev pub url_of : OutRequest → List ℕ
url_of request = codes "http://" ++ request.authority ++ request.target

-- the URI isn't empty, and begins the text
unfoldable pub begins : List ℕ → List ℕ → Bool
begins text uri = not (length uri == 0) && starts_with nat_eq text uri

-- one of the URIs, with a space between each two, begins the text
abbrev pub some_begins : List ℕ → List ℕ → Bool
some_begins uris text = list_any (begins text) (slice_split (λ byte. byte == 32) uris)

-- whether the request may have credentials for a challenge of this domain
abbrev pub lets_pass : Role → Option (List ℕ) → OutRequest → Bool
lets_pass Proxy domain request = true
lets_pass Origin None request = true
lets_pass Origin (Some uris) request = (length uris == 0) || (some_begins uris request.target || some_begins uris (url_of request))
